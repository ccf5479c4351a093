-- After `end` nothing more is read, so that only the text can be wrong.
use Rattle.vyrd_own_check.proofs.Prelude
use Prelude.{◌≡◌, ℕ, ◌+◌, ◌≤◌, true, false, List, ◌++◌, Option, None, ap, subst, ◌∙◌, sym, arith}
use Prelude.{option_map, Verdict, Malformed, has_any, own, OwnReading, own_text_verdict_so_far}
use Prelude.{IsLimit, ReaderState, HasRead, IsGrownBy, has_ended, reading_grown, reading_formed}
use Prelude.{JudgeView, read_so_far, bytes_cost, judge_owes, kept_debt, limit_of, IsJudging}
use Prelude.{OwnCheckerKept, IsUndecided, untold_in}
use Rattle.vyrd_own_check.proofs.ReadingFacts.{known_so_far, untold_right}
use Rattle.vyrd_own_check.proofs.CostLaws.{bytes_more}

-- what was read is the same, except for a fault of text
record IsSameLog (old new : OwnReading) : Type 0 where
  header : new.header ≡ old.header
  lines : new.lines ≡ old.lines
  starting : new.starting ≡ old.starting
  entries : new.entries ≡ old.entries
  ended : new.ended ≡ old.ended

-- so its entries are as right as before
same_untold : (old new : OwnReading) → IsSameLog old new → untold_in new ≡ untold_in old
same_untold old new s = grind arith

-- and the judge has followed them
same_judging : (judge : Option JudgeView) (old new : OwnReading) → IsSameLog old new
    → IsJudging judge old → IsJudging judge new
same_judging judge old new s judging = search (own, has_any, arith)

never : {A : Type 0} → false ≡ true → A
never e = cc

still_paid : (n later owed was now : ℕ) → later ≡ owed → was ≤ now
    → n + later + was ≤ n + owed + now
still_paid n later owed was now same more = omega (arith, same, more)

module _ (old : OwnCheckerKept) (bytes piece : List ℕ) (limit : IsLimit (limit_of old))
    (u : IsUndecided old bytes) (ended : has_ended old.reader.kept.lines.stage ≡ true) where
  abbrev was : OwnReading
  was = read_so_far (limit_of old) bytes

  abbrev is : OwnReading
  is = read_so_far (limit_of old) (bytes ++ piece)

  -- after `end` nothing more is read
  after_end : IsSameLog was is
  after_end = search (reading_grown, has_any, never, reading_formed, arith)

  -- the answer is the fault of text
  pub ended_answer : (fault : Option Verdict)
      → fault ≡ option_map (λ fault. Malformed fault.line fault.rule) is.fault
      → fault ≡ own_text_verdict_so_far (limit_of old) (bytes ++ piece)
  ended_answer fault said = search (known_so_far, same_untold, after_end, untold_right, arith)

  module _ (reader : ReaderState) (numbers : List ℕ)
      (same : reader.kept.lines.max_lines ≡ limit_of old) where
    -- without a fault what is kept goes on
    pub ended_undecided : HasRead reader (bytes ++ piece)
        → IsGrownBy old.numbers was.numbers numbers is.numbers
        → own_text_verdict_so_far (limit_of old) (bytes ++ piece) ≡ None
        → IsUndecided (record { reader = reader; judge = old.judge; numbers = numbers })
        (bytes ++ piece)
    ended_undecided read counted nothing = record {
      read = read;
      judging = subst (λ m. IsJudging old.judge (read_so_far m (bytes ++ piece))) (sym same)
          (same_judging old.judge was is after_end u.judging);
      numbers = counted.one ∙ ap (λ ns. ns ++ counted.more) u.numbers ∙ sym counted.other
          ∙ ap (λ m. (read_so_far m (bytes ++ piece)).numbers) (sym same);
      nothing = ap (λ m. own_text_verdict_so_far m (bytes ++ piece)) same ∙ nothing;
    }

    -- and nothing was paid
    pub ended_paid : (n : ℕ)
        → n + kept_debt (record { reader = reader; judge = old.judge; numbers = numbers })
        (bytes ++ piece)
        + bytes_cost (limit_of old) bytes
        ≤ n + kept_debt old bytes + bytes_cost (limit_of old) (bytes ++ piece)
    ended_paid n = still_paid n _ (kept_debt old bytes) (bytes_cost (limit_of old) bytes)
        (bytes_cost (limit_of old) (bytes ++ piece))
        (ap (λ l. judge_owes old.judge (read_so_far l (bytes ++ piece)).entries) same
        ∙ ap (judge_owes old.judge) after_end.entries)
        (bytes_more (limit_of old) bytes piece limit)
