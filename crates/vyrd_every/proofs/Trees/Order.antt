-- What follows of the rules of the linked nodes: those of a level have ranges of keys that share
-- none.
use Rattle.vyrd_every.proofs.Prelude.{◌≡◌, ◌≢◌, ℕ, zero, suc, ◌<◌, ◌≤◌, ◌⊎◌, inl, inr, true, ap}
use Rattle.vyrd_every.proofs.Prelude.{◌∙◌, sym, arith, Memory, level_at, bound_at, right_at, Below}
use Rattle.vyrd_every.proofs.Prelude.{Covers, zero_or, le_or, Shape, IsLinked}

-- the node on the left, with what the link says
pub record IsLeftIn (size : ℕ) (g : Shape) (m : Memory) (n node : ℕ) : Type 0 where
  pub linked : g.linked node ≡ true
  pub leads : right_at m node ≡ n
  pub some : n ≢ 0
  pub same_level : level_at m node ≡ level_at m n
  pub bound_is : bound_at m node ≡ g.low n
  pub lower : g.low node < g.low n

pub left_of : (size : ℕ) (g : Shape) (m : Memory) → IsLinked size g m → (n : ℕ) → g.linked n ≡ true
    → g.low n ≢ 0
    → (node : ℕ) × IsLeftIn size g m n node
left_of size g m t n used some = search arith

-- a node of the level whose low is in the range of another is that one
pub one_low_in : (size : ℕ) (g : Shape) (m : Memory) → IsLinked size g m → (fuel a b : ℕ)
    → g.low b < fuel → g.linked a ≡ true → g.linked b ≡ true
    → level_at m a ≡ level_at m b → g.low a ≤ g.low b → Below (g.low b) (bound_at m a) → a ≡ b
one_low_in size g m t zero a b more used_a used_b same from to = absurd (omega (arith, more))
one_low_in size g m t (suc fuel) a b more used_a used_b same from to =
    by_zero (zero_or (g.low b)) (one_low_in size g m t fuel)
  where
    Earlier : Type 0
    Earlier = (a b : ℕ) → g.low b < fuel → g.linked a ≡ true → g.linked b ≡ true → level_at m a
        ≡ level_at m b → g.low a ≤ g.low b → Below (g.low b) (bound_at m a) → a ≡ b

    -- both begin where their left neighbours end
    both_left : g.low a ≡ g.low b → (x y : ℕ) → IsLeftIn size g m b x → IsLeftIn size g m a y
        → x ≡ y → a ≡ b
    both_left e x y of_b of_a at = sym of_a.leads ∙ ap (right_at m) (sym at) ∙ of_b.leads

    same_low : Earlier → g.low b ≢ 0 → g.low a ≡ g.low b → (x y : ℕ) → IsLeftIn size g m b x
        → IsLeftIn size g m a y
        → (g.low x ≤ g.low y) ⊎ (g.low y < g.low x) → a ≡ b
    same_low earlier some e x y of_b of_a (inl le) =
        let fact : g.low y < g.low a = of_a.lower in
        let ends : bound_at m x ≡ g.low b = of_b.bound_is in
        both_left e x y of_b of_a
        (earlier x y (omega arith) of_b.linked of_a.linked (of_b.same_level ∙ sym same
        ∙ sym of_a.same_level) le (λ some. omega arith))
    same_low earlier some e x y of_b of_a (inr lt) =
        let fact : g.low x < g.low b = of_b.lower in
        let ends : bound_at m y ≡ g.low a = of_a.bound_is in
        both_left e x y of_b of_a
        (sym (earlier y x (omega arith) of_a.linked of_b.linked
        (of_a.same_level ∙ same ∙ sym of_b.same_level) (omega arith)
        (λ some. omega arith)))

    -- the node on the left of the second begins after the first, or is the first, or before it
    lower_low : Earlier → g.low a < g.low b → (x : ℕ) → IsLeftIn size g m b x → (g.low a ≤ g.low x)
        ⊎ (g.low x < g.low a) → a ≡ b
    lower_low earlier lt x of_b (inl le) =
        let lower : g.low x < g.low b = of_b.lower in
        let at : a ≡ x = earlier a x (omega arith) used_a of_b.linked (same ∙ sym of_b.same_level)
        le (λ some. let less = to some in omega arith) in
        let ends : bound_at m a ≡ g.low b = ap (bound_at m) at ∙ of_b.bound_is in
        absurd (let less : g.low b < bound_at m a = to (omega arith) in omega arith)
    lower_low earlier lt x of_b (inr less) =
        let ends : bound_at m x ≡ g.low b = of_b.bound_is in
        let at : x ≡ a = earlier x a (omega arith) of_b.linked used_a (of_b.same_level ∙ sym same)
        (omega arith) (λ some. omega arith) in
        absurd (let lows : g.low x ≡ g.low a = ap g.low at in omega arith)

    by_low : Earlier → g.low b ≢ 0 → (g.low b ≤ g.low a) ⊎ (g.low a < g.low b) → a ≡ b
    by_low earlier some (inl le) =
        let e : g.low a ≡ g.low b = omega (arith, from, le) in
        let x = left_of size g m t b used_b some in
        let y = left_of size g m t a used_a (λ none. some (sym e ∙ none)) in
        same_low earlier some e x.0 y.0 x.1 y.1 (le_or (g.low x.0) (g.low y.0))
    by_low earlier some (inr lt) = let x = left_of size g m t b used_b some in
        lower_low earlier lt x.0 x.1 (le_or (g.low a) (g.low x.0))

    by_zero : (g.low b ≡ 0) ⊎ (g.low b ≢ 0) → Earlier → a ≡ b
    by_zero (inl none) earlier = t.one_first a b used_a used_b same (omega (arith, from, none)) none
    by_zero (inr some) earlier = by_low earlier some (le_or (g.low b) (g.low a))

-- one node of a level has the key in its range
pub one_cover_in : (size : ℕ) (g : Shape) (m : Memory) → IsLinked size g m → (a b k : ℕ)
    → g.linked a ≡ true → g.linked b ≡ true
    → level_at m a ≡ level_at m b
    → Covers m g.low a k → Covers m g.low b k → a ≡ b
one_cover_in size g m t a b k used_a used_b same over_a over_b = by_low (le_or (g.low a) (g.low b))
  where
    by_low : (g.low a ≤ g.low b) ⊎ (g.low b < g.low a) → a ≡ b
    by_low (inl le) = one_low_in size g m t (suc (g.low b)) a b (omega arith) used_a used_b same le
        (λ some. let from = over_b.from in let less = over_a.to some in omega arith)
    by_low (inr lt) =
        sym (one_low_in size g m t (suc (g.low a)) b a (omega arith) used_b used_a (sym same)
        (omega arith)
        (λ some. let from = over_a.from in let less = over_b.to some in omega arith))
