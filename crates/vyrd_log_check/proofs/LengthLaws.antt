-- Bytes without a verdict are at most 201 for each line that there may be.
use Rattle.vyrd_log_check.proofs.Prelude.{◌≡◌, ℕ, ◌*◌, ◌≤◌, Bool, true, false, List, length, None}
use Rattle.vyrd_log_check.proofs.Prelude.{refl, ◌∙◌, sym, arith, own_text_verdict_so_far}
use Rattle.vyrd_log_check.proofs.Prelude.{is_own_text, log_verdict_so_far, read_so_far}
use Rattle.vyrd_check.proofs.ReadingFacts.{second_none, text_right}
use Rattle.vyrd_log_check.proofs.LengthFacts.{bytes_short}
use Rattle.vyrd_log_check.proofs.LogLasts.{own_so_far, first_so_far}
use Rattle.vyrd_log_check.proofs.OwnLengths.{own_bytes_short}

-- bytes of a log of version 3 without a verdict have no fault of text
own_text_right : (max : ℕ) (bytes : List ℕ) → own_text_verdict_so_far max bytes ≡ None
    → (read_so_far max bytes).fault ≡ None
unfolding own_text_verdict_so_far
own_text_right max bytes nothing = search (second_none, arith)

-- by whether the bytes begin as a log with a specification in front does
pub undecided_is_short : (max : ℕ) (bytes : List ℕ) → 1 ≤ max → log_verdict_so_far max bytes ≡ None
    → length bytes ≤ 201 * max
undecided_is_short max bytes low nothing = by_kind (is_own_text bytes) refl
  where
    by_kind : (b : Bool) → is_own_text bytes ≡ b → length bytes ≤ 201 * max
    by_kind true is = own_bytes_short max bytes low
        (own_text_right max bytes (sym (own_so_far max bytes is) ∙ nothing))
    by_kind false is =
        let right = text_right max bytes (sym (first_so_far max bytes is) ∙ nothing) in
        omega (arith, bytes_short max bytes low right)
