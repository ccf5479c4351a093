-- What the judge's steps are as the checking of an input goes on, and when it stops.
use Rattle.std.proofs.Common.{◌≡◌, ℕ, ◌+◌, ◌<◌, ◌≤◌, false, List, [], ◌++◌, take, Option, Some}
use Rattle.std.proofs.Common.{None}
use Rattle.std.proofs.Common.{subst, arith}
use Rattle.std.specs.Prelude.{IfSome, IfNone}
use Rattle.vyrd_base.specs.declared.verdict.Verdict.{Verdict}
use Rattle.vyrd_base.specs.Devices.{SourceKnown, Gives}
use Rattle.vyrd_base.specs.LogVerdicts.{log_verdict_so_far}
use Rattle.vyrd_log_check.specs.Checking.{LogCheckerState, HasChecked}
use Rattle.vyrd_log_check.specs.Costs.{bytes_cost, finish_cost}
use Rattle.vyrd_log_check.specs.Owed.{checker_debt}
use Rattle.vyrd_check_command.specs.Checks.{IsCounted}
use Rattle.vyrd_check_command.specs.Inside.Progress.{IsCounting}
use Rattle.vyrd_check_command.proofs.TakenLaws.{no_more_bytes, taken_more}
use Rattle.vyrd_check_command.proofs.PieceLaws.{checking_starts, checking_goes_on}

-- before the first read
pub counting_starts : (max : ℕ) (before : SourceKnown) (checker : LogCheckerState) (first : ℕ)
    → checker.max_lines ≡ max → HasChecked checker [] → checker_debt checker [] ≡ 0
    → before.ended ≡ false → IsCounting max before before checker 0 first first
counting_starts max before checker first limit checked owed unended =
    record { checking = checking_starts _ _ _ limit checked unended; paid = omega (arith, owed) }

-- the steps for a piece are paid by what it costs
paid_on : (first m l before after was now : ℕ) → m + before ≤ first + was
    → l + after + was ≤ m + before + now → l + after ≤ first + now
paid_on first m l before after was now old new = omega (arith, old, new)

-- nothing is left to pay, with what it costs to end
paid_whole : (first l after cost last : ℕ) → l + after ≤ first + cost → l ≤ first + (cost + last)
paid_whole first l after cost last paid = omega (arith, paid)

paid_end : (first m l owed cost last : ℕ) → m + owed ≤ first + cost → l ≤ m + last
    → l ≤ first + (cost + last)
paid_end first m l owed cost last paid ended = omega (arith, paid, ended)

module _ (max : ℕ) (before now after : SourceKnown) (old : LogCheckerState) (buffer : List ℕ)
    (n rounds first m : ℕ) (r : IsCounting max before now old rounds first m) where
  -- the bytes that were taken, with those of this read
  abbrev all : List ℕ
  all = r.checking.taken ++ take n buffer

  module _ (new : LogCheckerState) (l : ℕ) (gives : Gives now n buffer after)
      (spent : l + checker_debt new all + bytes_cost old.max_lines r.checking.taken
      ≤ m + checker_debt old r.checking.taken + bytes_cost old.max_lines all) where
    paid : l + checker_debt new all ≤ first + bytes_cost max all
    paid = paid_on first m l _ _ _ _ r.paid
        (subst (λ k. l + checker_debt new all + bytes_cost k r.checking.taken
        ≤ m + checker_debt old r.checking.taken + bytes_cost k all) r.checking.limit spent)

    -- what a piece that was fed leads to
    pub fed_counting : (o : Option Verdict) → 0 < n → new.max_lines ≡ old.max_lines
        → HasChecked new all → o ≡ log_verdict_so_far old.max_lines all
        → IfNone o (IsCounting max before after new (rounds + 1) first l)
    fed_counting None some limit checked is = record {
      checking = checking_goes_on max before now after old new buffer n rounds r.checking gives
          some limit checked is;
      paid = paid;
    }
    fed_counting (Some v) some limit checked is = tt

    pub fed_counted : (o : Option Verdict)
        → IfSome o (λ v. IsCounted max before after first l)
    fed_counted None = tt
    fed_counted (Some v) = record {
      taken = all;
      told = taken_more before.rest now.rest after.rest r.checking.taken (take n buffer)
          r.checking.told gives.bytes;
      few = paid_whole first l _ _ (finish_cost max all) paid;
    }

  -- what it costs to end at the source's end
  pub end_counted : (l : ℕ) → Gives now 0 buffer after
      → l ≤ m + finish_cost old.max_lines r.checking.taken
      → IsCounted max before after first l
  end_counted l gives ended = search (no_more_bytes, taken_more, paid_end, arith)
