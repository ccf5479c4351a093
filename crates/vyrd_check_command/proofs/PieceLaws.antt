-- How the checking of an input goes on with a piece of it, and how it stops.
use Rattle.std.proofs.Common.{◌≡◌, ℕ, ◌+◌, ◌*◌, ◌<◌, ◌≤◌, true, false, List, [], ◌++◌, length, take}
use Rattle.std.proofs.Common.{Option, Some, None, ap, subst, ◌∙◌, sym, arith, inr, length-append}
use Rattle.std.specs.Prelude.{is_some, IfSome, IfNone}
use Rattle.std.proofs.lemmas.List.{length-take}
use Rattle.vyrd_base.specs.declared.verdict.Verdict.{Verdict}
use Rattle.vyrd_base.specs.Devices.{SourceKnown, Gives}
use Rattle.vyrd_base.specs.LogVerdicts.{log_verdict, log_verdict_so_far}
use Rattle.vyrd_base.specs.Limits.{most_lines, IsLimit}
use Rattle.vyrd_log_check.specs.Checking.{LogCheckerState, HasChecked}
use Rattle.vyrd_log_check.proofs.LogLasts.{log_verdict_lasts, nothing_yet}
use Rattle.vyrd_log_check.proofs.LengthLaws.{undecided_is_short}
use Rattle.vyrd_check_command.specs.Inputs.{longest_read, IsTaken}
use Rattle.vyrd_check_command.specs.Checks.{has_verdict, IsReadNoFurther}
use Rattle.vyrd_check_command.specs.Inside.Progress.{IsChecking, IsReached}
use Rattle.vyrd_check_command.proofs.TakenLaws.{no_more_bytes, taken_more, taken_nothing}
use Rattle.vyrd_check_command.proofs.TakenLaws.{begins_later}

some_verdict : (o : Option Verdict) → is_some o ≡ true → (v : Verdict) × (o ≡ Some v)
some_verdict o e = search arith

-- a verdict lasts
pub verdict_there : (max : ℕ) (bytes more : List ℕ) → IsLimit max → has_verdict max bytes ≡ true
    → has_verdict max (bytes ++ more) ≡ true
verdict_there max bytes more within e = search (some_verdict, is_some, log_verdict_lasts, arith)

-- A beginning that has a verdict is no shorter than bytes that have none yet.
judged_later : (max : ℕ) (taken piece first more : List ℕ) → IsLimit max
    → log_verdict_so_far max taken ≡ None → taken ++ piece ≡ first ++ more
    → has_verdict max first ≡ true → length taken ≤ length first
judged_later max taken piece first more within nothing = begins_later (has_verdict _)
    (λ bytes more. verdict_there _ _ _ within) _ _ _ _ (ap is_some nothing)

-- before the first read
abbrev pub checking_starts : (max : ℕ) (before : SourceKnown) (checker : LogCheckerState)
    → checker.max_lines ≡ max → HasChecked checker [] → before.ended ≡ false
    → IsChecking max before before checker 0
checking_starts max before checker limit checked unended = record {
  taken = [];
  told = taken_nothing before.rest;
  unended = unended;
  checked = checked;
  limit = limit;
  nothing = nothing_yet max;
  rounds_taken = omega arith;
}

-- nothing was read yet
pub nothing_no_further : (max : ℕ) (before : SourceKnown) → IsReadNoFurther max before before
nothing_no_further max before = grind (arith, taken_nothing before.rest)

pub same_no_further : (max : ℕ) (before now after : SourceKnown) (checker : LogCheckerState)
    (rounds : ℕ) → IsLimit max → IsChecking max before now checker rounds
    → after.rest ≡ now.rest → IsReadNoFurther max before after
same_no_further max before now after checker rounds within r kept = record {
  taken = r.taken;
  told = subst (IsTaken before.rest r.taken) (sym kept) r.told;
  no_more = λ first more same there.
      let later = judged_later max r.taken [] first more within r.nothing
      (no_more_bytes r.taken ∙ same) there in
      omega (arith, later);
}

pub length_piece : (n : ℕ) (buffer : List ℕ) → n ≤ length buffer → length (take n buffer) ≡ n
length_piece n buffer few = length-take n buffer ∙ omega arith

-- one read after bytes without a verdict is no further than it may be
pub read_no_further : (max : ℕ) (before now after : SourceKnown) (checker : LogCheckerState)
    (buffer : List ℕ) (n rounds : ℕ) → IsLimit max → IsChecking max before now checker rounds
    → Gives now n buffer after → length buffer ≤ longest_read → IsReadNoFurther max before after
read_no_further max before now after checker buffer n rounds within r gives short =
    let piece = take n buffer in
    record {
      taken = r.taken ++ piece;
      told = taken_more before.rest now.rest after.rest r.taken piece r.told gives.bytes;
      no_more = λ first more same there.
          omega (
            arith,
            judged_later max r.taken piece first more within r.nothing same there,
            length-append r.taken piece,
            length_piece n buffer gives.within,
            gives.within,
          );
    }

-- without a verdict the checking goes on
abbrev pub checking_goes_on : (max : ℕ) (before now after : SourceKnown) (old new : LogCheckerState)
    (buffer : List ℕ) (n rounds : ℕ) → (r : IsChecking max before now old rounds)
    → Gives now n buffer after → 0 < n → new.max_lines ≡ old.max_lines
    → HasChecked new (r.taken ++ take n buffer)
    → None ≡ log_verdict_so_far old.max_lines (r.taken ++ take n buffer)
    → IsChecking max before after new (rounds + 1)
checking_goes_on max before now after old new buffer n rounds r gives some limit checked nothing =
    let piece = take n buffer in
    record {
      taken = r.taken ++ piece;
      told = taken_more before.rest now.rest after.rest r.taken piece r.told gives.bytes;
      unended = gives.goes_on some;
      checked = checked;
      limit = limit ∙ r.limit;
      nothing = ap (λ m. log_verdict_so_far m (r.taken ++ piece)) (sym r.limit) ∙ sym nothing;
      rounds_taken = omega (
        arith,
        length-append r.taken piece,
        length_piece n buffer gives.within,
        r.rounds_taken,
        some,
      );
    }

-- with one it is reached
pub verdict_reached : (max : ℕ) (before now after : SourceKnown) (old : LogCheckerState)
    (buffer : List ℕ) (n rounds : ℕ) (v : Verdict) → (r : IsChecking max before now old rounds)
    → Gives now n buffer after
    → Some v ≡ log_verdict_so_far old.max_lines (r.taken ++ take n buffer)
    → IsReached max before after v
verdict_reached max before now after old buffer n rounds v r gives there =
    let piece = take n buffer in
    record {
      taken = r.taken ++ piece;
      told = taken_more before.rest now.rest after.rest r.taken piece r.told gives.bytes;
      reached = inr (ap (λ m. log_verdict_so_far m (r.taken ++ piece)) (sym r.limit) ∙ sym there);
    }

-- at the source's end it is reached too
pub end_reached : (max : ℕ) (before now after : SourceKnown) (old : LogCheckerState)
    (buffer : List ℕ) (rounds : ℕ) (v : Verdict) → (r : IsChecking max before now old rounds)
    → Gives now 0 buffer after → v ≡ log_verdict old.max_lines r.taken
    → IsReached max before after v
end_reached max before now after old buffer rounds v r gives is = search
    (no_more_bytes, taken_more, arith)

-- more rounds than that never come
pub rounds_end : (max : ℕ) (before now : SourceKnown) (checker : LogCheckerState) (rounds : ℕ)
    → IsLimit max → IsChecking max before now checker rounds → rounds ≤ 201 * most_lines
rounds_end max before now checker rounds within r = grind (arith, within, undecided_is_short)

-- What a piece that was fed leads to.
pub fed_goes_on : (max : ℕ) (before now after : SourceKnown) (old new : LogCheckerState)
    (buffer : List ℕ) (n rounds : ℕ) (o : Option Verdict)
    → (r : IsChecking max before now old rounds) → Gives now n buffer after → 0 < n
    → new.max_lines ≡ old.max_lines → HasChecked new (r.taken ++ take n buffer)
    → o ≡ log_verdict_so_far old.max_lines (r.taken ++ take n buffer)
    → IfNone o (IsChecking max before after new (rounds + 1))
fed_goes_on max before now after old new buffer n rounds None r gives some limit checked is =
    checking_goes_on max before now after old new buffer n rounds r gives some limit checked is
fed_goes_on max before now after old new buffer n rounds (Some v) r gives some limit checked is = tt

pub fed_reached : (max : ℕ) (before now after : SourceKnown) (old : LogCheckerState)
    (buffer : List ℕ) (n rounds : ℕ) (o : Option Verdict)
    → (r : IsChecking max before now old rounds) → Gives now n buffer after
    → o ≡ log_verdict_so_far old.max_lines (r.taken ++ take n buffer)
    → IfSome o (IsReached max before after)
fed_reached max before now after old buffer n rounds None r gives is = tt
fed_reached max before now after old buffer n rounds (Some v) r gives is =
    verdict_reached max before now after old buffer n rounds v r gives is
