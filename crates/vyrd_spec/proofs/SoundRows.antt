-- The row of what words show, where each part of them is sound.
use Rattle.vyrd_spec.proofs.Prelude
use Prelude.{◌≡◌, ℕ, zero, suc, ◌+◌, ◌^◌, ◌<◌, ◌≤◌, Bool, true, false, List, [], ◌∷◌, ◌++◌, length}
use Prelude.{map, get_or, Some, None, refl, ap, ◌∙◌, sym, subst, arith, ◌≢◌, nat_lt, flat_map}
use Prelude.{then_some, list_all, get_or_past, numbers_from, numbers_below, amount_of, collected}
use Prelude.{map_alike, element_below, length_below, first_true, second_true, below_of}
use Prelude.{not_below_of, then_some_true, then_some_false, AllAmounts, row_amounts, sound_row}
use Rattle.vyrd_spec.proofs.RowAmounts.{row_amount}
use Rattle.vyrd_spec.proofs.RowLaws.{one_fails, each_passes, passes_more, map-push}

-- a part that isn't sound
pub no_row : (p : ℕ → Bool) (f : ℕ → ℕ) (n i : ℕ) → i < n → then_some (p i) (f i) ≡ None
    → sound_row p f n ≡ None
no_row p f n i low none = cc (one_fails p n i low (then_some_false (p i) (f i) none))

-- one more that is
pub sound_more : (p : ℕ → Bool) (f : ℕ → ℕ) (i value : ℕ) → then_some (p i) (f i) ≡ Some value
    → list_all p (numbers_below i) ≡ true → list_all p (numbers_below (i + 1)) ≡ true
sound_more p f i value some all = passes_more p i all (then_some_true (p i) (f i) value some).0

pub shown_more : (p : ℕ → Bool) (f : ℕ → ℕ) (row new : List ℕ) (i value : ℕ) → then_some (p i) (f i)
    ≡ Some value
    → row ≡ map f (numbers_below i) → new ≡ row ++ value ∷ [] → new ≡ map f (numbers_below (i + 1))
shown_more p f row new i value some all more = grind (arith, more, then_some_true, map-push)

-- the row, if there is one
pub sound_where : (p : ℕ → Bool) (f : ℕ → ℕ) (n : ℕ) (row : List ℕ) → sound_row p f n ≡ Some row
    → list_all p (numbers_below n) ≡ true
sound_where p f n row some = search (then_some_true, arith)

pub unsound_where : (p : ℕ → Bool) (f : ℕ → ℕ) (n : ℕ) → sound_row p f n ≡ None
    → list_all p (numbers_below n) ≡ false
unsound_where p f n none = search (then_some_false, arith)

values : (p : ℕ → Bool) (f : ℕ → ℕ) (n : ℕ) (row : List ℕ) → sound_row p f n ≡ Some row
    → map f (numbers_below n) ≡ row
values p f n row some = search (then_some_true, arith)

pub many_in : (p : ℕ → Bool) (f : ℕ → ℕ) (n : ℕ) (row : List ℕ) → sound_row p f n ≡ Some row
    → length row ≡ n
many_in p f n row some = ap length (sym (values p f n row some)) ∙ length_below f n

-- what sound parts give, where each gives its value alone
parts_from : (p : ℕ → Bool) (f : ℕ → ℕ) (parts : ℕ → List (ℕ × ℕ))
    → ((i : ℕ) → p i ≡ true → parts i ≡ (i, f i) ∷ []) → (k n : ℕ)
    → list_all p (numbers_from k n) ≡ true → flat_map parts (numbers_from k n) ≡ map {B = ℕ × ℕ}
    (λ i. (i, f i)) (numbers_from k n)
parts_from p f parts alone k zero all = refl
parts_from p f parts alone k (suc n) all =
    ap (λ xs. xs ++ flat_map parts (numbers_from (k + 1) n)) (alone k (first_true (p k) _ all))
    ∙ ap (λ xs. (k, f k) ∷ xs)
    (parts_from p f parts alone (k + 1) n
    (second_true (p k) (list_all p (numbers_from (k + 1) n)) all))

-- sound parts show the amounts of the row
pub row_shows : (p : ℕ → Bool) (f : ℕ → ℕ) (parts : ℕ → List (ℕ × ℕ))
    → ((i : ℕ) → p i ≡ true → parts i ≡ (i, f i) ∷ [])
    → (n : ℕ) (row : List ℕ) → sound_row p f n ≡ Some row → row_amounts row
    ≡ collected (flat_map parts (numbers_below n))
unfolding row_amounts
row_shows p f parts alone n row some =
    ap (λ m. collected (map (λ i. (i, get_or row i 0)) (numbers_below m))) (many_in p f n row some)
    ∙ ap collected (map_alike (λ i. (i, get_or row i 0)) (λ i. (i, f i)) n
    (λ i low. cc (values p f n row some, element_below f n i 0 low)))
    ∙ ap collected (sym (parts_from p f parts alone 0 n (sound_where p f n row some)))

-- the amounts of sound parts are below what the value of each is
pub first_row : (p : ℕ → Bool) (f : ℕ → ℕ) (end : ℕ) → ((i : ℕ) → p i ≡ true → f i < end)
    → (n : ℕ) (row : List ℕ) → n ≤ 1024
    → sound_row p f n ≡ Some row → AllAmounts (λ key amount. (key < 2 ^ 32) × (amount < end))
    (row_amounts row)
first_row p f end small n row few some = λ i there. by_place i there (nat_lt i n) refl
  where
    at : (i : ℕ) → i < n → amount_of (row_amounts row) i ≡ f i
    at i low = row_amount row i ∙ ap (λ xs. get_or xs i 0) (sym (values p f n row some))
        ∙ element_below f n i 0 low

    by_place : (i : ℕ) → amount_of (row_amounts row) i ≢ 0 → (b : Bool) → nat_lt i n ≡ b
        → (i < 2 ^ 32) × (amount_of (row_amounts row) i < end)
    by_place i there true e =
        let low = below_of i n e in
        let sound = each_passes p n i (sound_where p f n row some) low in
        (omega (arith, low, few), subst (λ a. a < end) (sym (at i low)) (small i sound))
    by_place i there false e = absurd (there (row_amount row i
        ∙ get_or_past row i 0
        (let past = not_below_of i n e in omega (arith, past, many_in p f n row some))))
