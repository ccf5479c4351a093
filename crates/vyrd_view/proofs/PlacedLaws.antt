-- Pairs in places, as a loop over changed words brings them up to date.
use Rattle.vyrd_view.proofs.Prelude
use Prelude.{◌≡◌, ℕ, suc, ◌+◌, ◌/◌, ◌<◌, ◌≤◌, Bool, true, false, ◌||◌, List, [], ◌∷◌, length, map}
use Prelude.{get_or, set, drop, refl, ap, ◌∙◌, arith, get_or-set_same, get_or-set_other, ◌==◌, ◌≢◌}
use Prelude.{drop_more, drop_all, numbers_below, same_of, apart_of, is_touched, EachAtMost}
use Rattle.vyrd_base.specs.Places.{numbers_from}

-- a pair that gives this much at most comes to a place
pub each-set : (most : ℕ) (pairs : List (ℕ × ℕ)) (place : ℕ) (pair : ℕ × ℕ) → place < length pairs
    → pair.1 ≤ most → EachAtMost most pairs
    → EachAtMost most (set pairs place pair)
each-set most pairs place pair low small each i = by_test (i == place) refl
  where
    by_test : (b : Bool) → (i == place) ≡ b → (get_or (set pairs place pair) i (0, 0)).1 ≤ most
    by_test true e = grind (arith, same_of i place e, get_or-set_same pairs place pair (0, 0) low)
    by_test false e = search (get_or-set_other, apart_of, arith)

-- one word more that is looked at
pub touched_more : (size i : ℕ) (changed : List ℕ) (index : ℕ) → index < length changed
    → is_touched size i (drop index changed)
    ≡ ((get_or changed index 0 / size == i) || is_touched size i (drop (index + 1) changed))
touched_more size i changed index low = ap (is_touched size i) (drop_more changed index 0 low)

pub untouched_rest : (size i : ℕ) (changed : List ℕ) (index : ℕ) → index < length changed
    → (get_or changed index 0 / size == i) ≡ false
    → is_touched size i (drop (index + 1) changed) ≡ false → is_touched size i (drop index changed)
    ≡ false
untouched_rest size i changed index low apart rest = grind (arith, changed, apart, touched_more)

pub untouched_end : (size i : ℕ) (changed : List ℕ) (index : ℕ) → length changed ≤ index
    → is_touched size i (drop index changed) ≡ false
untouched_end size i changed index high = ap (is_touched size i) (drop_all index changed high)

-- pairs that are each what a function of their place says
mapped_from : (f : ℕ → ℕ × ℕ) (pairs : List (ℕ × ℕ)) (k : ℕ)
    → ((i : ℕ) → i < length pairs → get_or pairs i (0, 0) ≡ f (k + i))
    → pairs ≡ map f (numbers_from k (length pairs))
mapped_from f [] k each = refl
mapped_from f (p ∷ pairs) k each =
    let at : k + 0 ≡ k = omega arith in
    ap (λ x. x ∷ pairs) (each 0 (omega arith) ∙ ap f at)
    ∙ ap (λ xs. f k ∷ xs)
    (mapped_from f pairs (k + 1) (λ i low. let next : k + suc i ≡ k + 1 + i = omega arith in
    each (suc i) (omega (arith, low)) ∙ ap f next))

pub mapped : (f : ℕ → ℕ × ℕ) (pairs : List (ℕ × ℕ)) (n : ℕ) → length pairs ≡ n
    → ((i : ℕ) → i < n → get_or pairs i (0, 0) ≡ f i)
    → pairs ≡ map f (numbers_below n)
mapped f pairs n is each = grind (arith, mapped_from)

-- the places of the parts that none of the words left is in are up to date, where each part has as
-- many places as `places` says
abbrev pub ArePartsFresh : ℕ → ℕ → (ℕ → ℕ × ℕ) → List (ℕ × ℕ) → List ℕ → Type 0
ArePartsFresh size places f pairs left =
    (m : ℕ) → m < length pairs → is_touched size (m / places) left ≡ false → get_or pairs m (0, 0)
    ≡ f m

-- the places of one part are brought up to date, and the others stay
pub parts_fresh_more : (size places : ℕ) (f : ℕ → ℕ × ℕ) (pairs now : List (ℕ × ℕ))
    (changed : List ℕ) (index : ℕ) → index < length changed
    → length now ≡ length pairs
    → ((m : ℕ) → m < length pairs → m / places ≡ get_or changed index 0 / size → get_or now m (0, 0)
    ≡ f m)
    → ((m : ℕ) → m / places ≢ get_or changed index 0 / size → get_or now m (0, 0) ≡ get_or pairs m
    (0, 0))
    → ArePartsFresh size places f pairs (drop index changed)
    → ArePartsFresh size places f now (drop (index + 1) changed)
parts_fresh_more size places f pairs now changed index low count here there fresh =
    grind (arith, changed, count, here, there, same_of, apart_of, untouched_rest)
