-- Bytes that were taken of an input, one after the other.
use Rattle.std.proofs.Common.{◌≡◌, ℕ, ◌+◌, ◌-◌, ◌<◌, ◌≤◌, Bool, true, false, List, [], ◌∷◌, ◌++◌}
use Rattle.std.proofs.Common.{length, take, Option, refl, ap, ◌∙◌, arith, append_assoc}
use Rattle.std.specs.Prelude.{nat_le}
use Rattle.std.proofs.lemmas.Bool.Decides.{nat_tests}
use Rattle.std.proofs.Math.Seq.{take-append_seam, take-append-add}
use Rattle.vyrd_check_command.specs.Inputs.{IsTaken}

pub no_more_bytes : (xs : List ℕ) → xs ++ [] ≡ xs
no_more_bytes [] = refl
no_more_bytes (x ∷ xs) = ap (λ ys. x ∷ ys) (no_more_bytes xs)

-- bytes that were taken, and then a piece
pub taken_more : (before between after : Option (List ℕ)) (taken piece : List ℕ)
    → IsTaken before taken between
    → IsTaken between piece after → IsTaken before (taken ++ piece) after
taken_more before between after taken piece first then = search (append_assoc, arith)

pub taken_nothing : (before : Option (List ℕ)) → IsTaken before [] before
taken_nothing before = search arith

-- of two beginnings of the same bytes the longer one begins with the other
begins_with : (taken piece first more : List ℕ) → length first ≤ length taken → taken ++ piece
    ≡ first ++ more
    → taken ≡ first ++ take (length taken - length first) more
begins_with taken piece first more within same =
    let rest : length taken ≡ length first + (length taken - length first) = omega arith in
    cc (take-append_seam taken piece, take-append-add first more (length taken - length first))

-- If bytes don't have what lasts, and a piece follows, a beginning of all that has it is no shorter
-- than they.
pub begins_later : (has : List ℕ → Bool)
    → ((bytes more : List ℕ) → has bytes ≡ true → has (bytes ++ more) ≡ true)
    → (taken piece first more : List ℕ) → has taken ≡ false → taken ++ piece ≡ first ++ more
    → has first ≡ true → length taken ≤ length first
begins_later has lasts taken piece first more nothing same there = by_length (nat_le _ _) refl
  where
    both : has taken ≡ true → has taken ≡ false → ⊥
    both e f = cc

    by_length : (b : Bool) → nat_le (length taken) (length first) ≡ b → length taken ≤ length first
    by_length true e = grind (arith, nat_tests)
    by_length false e =
        let shorter : length first < length taken = grind (arith, nat_tests) in
        let rest = take _ more in
        let begins : taken ≡ first ++ rest = begins_with _ _ _ _ (omega arith) same in
        absurd (both (ap has begins ∙ lasts first _ there) nothing)
