-- A piece comes apart at its line feeds.
use Rattle.vyrd_text.proofs.Prelude.{◌≡◌, ℕ, suc, zero, ◌+◌, ◌-◌, ◌<◌, ◌≤◌, Bool, true, cond, not}
use Rattle.vyrd_text.proofs.Prelude.{List, [], ◌∷◌, ◌++◌, take, drop, length, get_or, refl, ap, sym}
use Rattle.vyrd_text.proofs.Prelude.{◌∙◌, arith, ◌==◌, count_by, take_all, take-append-drop}
use Rattle.vyrd_text.proofs.Prelude.{drop_more, take_rest, nat_tests, lacks, both_true}
use Rattle.std.proofs.lemmas.List.Sums.{sum_by-append, sum_by-cons}

not_true : (b : Bool) → ¬ (b ≡ true) → not b ≡ true
not_true b h = search arith

-- before the first line feed there is none
pub front_one_line : (k : ℕ) (xs : List ℕ) → k ≤ length xs
    → ((i : ℕ) → i < k → ¬ ((get_or xs i 0 == 10) ≡ true)) → lacks 10 (take k xs) ≡ true
front_one_line zero xs h none = refl
front_one_line (suc k) [] h none = refl
front_one_line (suc k) (x ∷ xs) h none = both_true _ _ (not_true _ (none 0 (omega arith)))
    (front_one_line k xs (omega arith) (λ i l. none (suc i) (omega arith)))

pub whole_one_line : (xs : List ℕ) → ((i : ℕ) → i < length xs → ¬ ((get_or xs i 0 == 10) ≡ true))
    → lacks 10 xs ≡ true
whole_one_line xs none = ap (lacks 10) (sym (take_all (length xs) xs (omega arith)))
    ∙ front_one_line (length xs) xs (omega arith) none

is_byte : (b : ℕ) → (b == 10) ≡ true → b ≡ 10
is_byte b e = grind (arith, nat_tests)

-- and after it stands the rest
pub parts_at : (xs : List ℕ) (k : ℕ) → k < length xs → (get_or xs k 0 == 10) ≡ true
    → xs ≡ take k xs ++ 10 ∷ take (length xs - (k + 1)) (drop (k + 1) xs)
parts_at xs k h e = sym (take-append-drop k _) ∙ ap (λ t. take k xs ++ t)
    (drop_more _ k 0 h ∙ (λ i. is_byte _ e i ∷ sym (take_rest xs (k + 1)) i))

-- a line takes one line feed away
pub count_line : (line after : List ℕ) → 1 + count_by (λ b. b == 10) after ≤ count_by (λ b. b == 10)
    (line ++ 10 ∷ after)
count_line line after =
    let whole = sum_by-append (λ b. cond (b == 10) 1 0) line (10 ∷ after) in
    let one = sum_by-cons (λ b. cond (b == 10) 1 0) 10 after in
    omega (arith, whole, one)
