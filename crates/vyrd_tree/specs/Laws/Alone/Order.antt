-- Proofs of laws that an impl in src/ names: no contract says what is defined here. What follows of
-- a tree's rules: the nodes of a level have ranges of keys that share none, and each key has its
-- node. Along right links lows rise, so no node is met twice.
use Rattle.std.proofs.Common.{◌≡◌, ◌≢◌, ℕ, zero, suc, ◌+◌, ◌<◌, ◌≤◌, ◌⊎◌, inl, inr, Bool, true}
use Rattle.std.proofs.Common.{false, refl, ap, ◌∙◌, sym, subst, arith}
use Rattle.std.specs.Prelude.{◌==◌, ◌&&◌, ◌||◌, nat_lt}
use Rattle.std.proofs.lemmas.Bool.Decides.{nat_tests}
use Rattle.vyrd_base.specs.Places.{numbers_from}
use Rattle.vyrd_memory.specs.Alone.{Memory}
use Rattle.vyrd_tree.specs.Contents.{level_at, bound_at, right_at, last_in, Below, HasLeft, LeadsOn}
use Rattle.vyrd_tree.specs.Contents.{IsTree, Covers}
use Rattle.vyrd_tree.specs.Laws.Alone.Counts.{passing, passing_less, passing_most, zero_or, le_or}

-- the node on the left, with what the link says
pub record IsLeft (size : ℕ) (m : Memory) (low : ℕ → ℕ) (n node : ℕ) : Type 0 where
  pub in_use : node ≤ last_in size m
  pub leads : right_at m node ≡ n
  pub some : n ≢ 0
  pub same_level : level_at m node ≡ level_at m n
  pub bound_is : bound_at m node ≡ low n
  pub lower : low node < low n

pub left_of : (size : ℕ) (m : Memory) (low : ℕ → ℕ) → IsTree size m low → (n : ℕ)
    → n ≤ last_in size m → low n ≢ 0
    → (node : ℕ) × IsLeft size m low n node
left_of size m low t n used some =
    let l : HasLeft (last_in size m) m n = t.left n used some in
    let at : right_at m l.node ≡ n = l.leads in
    let on : LeadsOn (last_in size m) m low l.node =
    t.link l.node l.in_use (λ none. l.some (sym at ∙ none)) in (
      l.node,
      record {
        in_use = l.in_use;
        leads = at;
        some = l.some;
        same_level = sym on.same_level ∙ ap (level_at m) at;
        bound_is = sym on.begins ∙ ap low at;
        lower = subst (λ b. low l.node < b) (sym on.begins ∙ ap low at) on.above;
      },
    )

-- a node of the level whose low is in the range of another is that one
pub one_low : (size : ℕ) (m : Memory) (low : ℕ → ℕ) → IsTree size m low → (fuel a b : ℕ)
    → low b < fuel → a ≤ last_in size m → b ≤ last_in size m → level_at m a ≡ level_at m b
    → low a ≤ low b → Below (low b) (bound_at m a) → a ≡ b
one_low size m low t zero a b more used_a used_b same from to = absurd (omega (arith, more))
one_low size m low t (suc fuel) a b more used_a used_b same from to =
    by_zero (zero_or (low b)) (one_low size m low t fuel)
  where
    last : ℕ
    last = last_in size m

    Earlier : Type 0
    Earlier = (a b : ℕ) → low b < fuel → a ≤ last → b ≤ last → level_at m a ≡ level_at m b
        → low a ≤ low b → Below (low b) (bound_at m a) → a ≡ b

    -- both begin where their left neighbours end
    both_left : low a ≡ low b → (x y : ℕ) → IsLeft size m low b x → IsLeft size m low a y → x ≡ y
        → a ≡ b
    both_left e x y of_b of_a at = sym of_a.leads ∙ ap (right_at m) (sym at) ∙ of_b.leads

    same_low : Earlier → low b ≢ 0 → low a ≡ low b → (x y : ℕ) → IsLeft size m low b x
        → IsLeft size m low a y → (low x ≤ low y) ⊎ (low y < low x) → a ≡ b
    same_low earlier some e x y of_b of_a (inl le) =
        let fact : low y < low a = of_a.lower in
        let ends : bound_at m x ≡ low b = of_b.bound_is in
        both_left e x y of_b of_a (earlier x y (omega arith) of_b.in_use of_a.in_use
        (of_b.same_level ∙ sym same ∙ sym of_a.same_level) le (λ some. omega arith))
    same_low earlier some e x y of_b of_a (inr lt) =
        let fact : low x < low b = of_b.lower in
        let ends : bound_at m y ≡ low a = of_a.bound_is in
        both_left e x y of_b of_a (sym (earlier y x (omega arith) of_a.in_use of_b.in_use
        (of_a.same_level ∙ same ∙ sym of_b.same_level) (omega arith) (λ some. omega arith)))

    -- the node on the left of the second begins after the first, or is the first, or before it
    lower_low : Earlier → low a < low b → (x : ℕ) → IsLeft size m low b x
        → (low a ≤ low x) ⊎ (low x < low a) → a ≡ b
    lower_low earlier lt x of_b (inl le) =
        let lower : low x < low b = of_b.lower in
        let at : a ≡ x = earlier a x (omega arith) used_a of_b.in_use (same ∙ sym of_b.same_level)
        le (λ some. let less = to some in omega arith) in
        let ends : bound_at m a ≡ low b = ap (bound_at m) at ∙ of_b.bound_is in
        absurd (let less : low b < bound_at m a = to (omega arith) in omega arith)
    lower_low earlier lt x of_b (inr less) =
        let ends : bound_at m x ≡ low b = of_b.bound_is in
        let at : x ≡ a = earlier x a (omega arith) of_b.in_use used_a (of_b.same_level ∙ sym same)
        (omega arith) (λ some. omega arith) in
        absurd (let lows : low x ≡ low a = ap low at in omega arith)

    by_low : Earlier → low b ≢ 0 → (low b ≤ low a) ⊎ (low a < low b) → a ≡ b
    by_low earlier some (inl le) =
        let e : low a ≡ low b = omega (arith, from, le) in
        let x = left_of size m low t b used_b some in
        let y = left_of size m low t a used_a (λ none. some (sym e ∙ none)) in
        same_low earlier some e x.0 y.0 x.1 y.1 (le_or (low x.0) (low y.0))
    by_low earlier some (inr lt) = let x = left_of size m low t b used_b some in
        lower_low earlier lt x.0 x.1 (le_or (low a) (low x.0))

    by_zero : (low b ≡ 0) ⊎ (low b ≢ 0) → Earlier → a ≡ b
    by_zero (inl none) earlier = t.one_first a b used_a used_b same (omega (arith, from, none)) none
    by_zero (inr some) earlier = by_low earlier some (le_or (low b) (low a))

-- one node of a level has the key in its range
pub one_cover : (size : ℕ) (m : Memory) (low : ℕ → ℕ) → IsTree size m low → (a b k : ℕ)
    → a ≤ last_in size m → b ≤ last_in size m → level_at m a ≡ level_at m b → Covers m low a k
    → Covers m low b k → a ≡ b
one_cover size m low t a b k used_a used_b same over_a over_b = by_low (le_or (low a) (low b))
  where
    by_low : (low a ≤ low b) ⊎ (low b < low a) → a ≡ b
    by_low (inl le) = one_low size m low t (suc (low b)) a b (omega arith) used_a used_b same le
        (λ some. let from = over_b.from in let less = over_a.to some in omega arith)
    by_low (inr lt) =
        sym (one_low size m low t (suc (low a)) b a (omega arith) used_b used_a (sym same)
        (omega arith) (λ some. let from = over_a.from in let less = over_b.to some in omega arith))

-- the node at a right link
pub next_of : (size : ℕ) (m : Memory) (low : ℕ → ℕ) → IsTree size m low → (n : ℕ)
    → n ≤ last_in size m → bound_at m n ≢ 0
    → LeadsOn (last_in size m) m low n
next_of size m low t n used some = t.link n used (λ none. some (t.ends n used none))

-- a node of the level has the key in its range, if one begins at it or below
pub record IsCovered (size : ℕ) (m : Memory) (low : ℕ → ℕ) (level k : ℕ) : Type 0 where
  pub node : ℕ
  pub in_use : node ≤ last_in size m
  pub level_is : level_at m node ≡ level
  pub covers : Covers m low node k

pub covered_from : (size : ℕ) (m : Memory) (low : ℕ → ℕ) → IsTree size m low → (fuel n k : ℕ)
    → n ≤ last_in size m → low n ≤ k → k < low n + fuel
    → IsCovered size m low (level_at m n) k
covered_from size m low t zero n k used from to = absurd (omega (arith, from, to))
covered_from size m low t (suc fuel) n k used from to =
    by_bound (covered_from size m low t fuel (right_at m n) k) (zero_or (bound_at m n))
    (le_or (bound_at m n) k)
  where
    Onward : Type 0
    Onward = right_at m n ≤ last_in size m → low (right_at m n) ≤ k → k < low (right_at m n) + fuel
        → IsCovered size m low (level_at m (right_at m n)) k

    here : Below k (bound_at m n) → IsCovered size m low (level_at m n) k
    here below = record {
      node = n;
      in_use = used;
      level_is = refl;
      covers = record { from = from; to = below };
    }

    by_bound : Onward → (bound_at m n ≡ 0) ⊎ (bound_at m n ≢ 0)
        → (bound_at m n ≤ k) ⊎ (k < bound_at m n)
        → IsCovered size m low (level_at m n) k
    by_bound onward (inl none) place = here (λ some. absurd (some none))
    by_bound onward (inr some) (inr lt) = here (λ some. lt)
    by_bound onward (inr some) (inl le) =
        let on = next_of size m low t n used some in
        let begins : low (right_at m n) ≡ bound_at m n = on.begins in
        let above : low n < bound_at m n = on.above in
        subst (λ level. IsCovered size m low level k) on.same_level
        (onward on.in_use (omega arith) (omega arith))

-- node 0 is the first of the leaves
pub zero_low : (size : ℕ) (m : Memory) (low : ℕ → ℕ) → IsTree size m low → low 0 ≡ 0
zero_low size m low t = by_zero (zero_or (low 0))
  where
    by_zero : (low 0 ≡ 0) ⊎ (low 0 ≢ 0) → low 0 ≡ 0
    by_zero (inl none) = none
    by_zero (inr some) = let l = t.left 0 (omega arith) some in absurd (l.some refl)

-- each key has its leaf
pub covered : (size : ℕ) (m : Memory) (low : ℕ → ℕ) → IsTree size m low → (k : ℕ)
    → IsCovered size m low 0 k
covered size m low t k =
    let none = zero_low size m low t in
    subst (λ level. IsCovered size m low level k) t.zero_leaf
    (covered_from size m low t (suc k) 0 k (omega arith) (omega arith) (omega arith))

-- The nodes that a walk may still come to: those of lower levels, and those of the same level that
-- begin above.
abbrev pub is_after : Memory → (ℕ → ℕ) → ℕ → ℕ → Bool
is_after m low n x =
    nat_lt (level_at m x) (level_at m n) || (level_at m x == level_at m n) && nat_lt (low n) (low x)

abbrev pub after_of : ℕ → Memory → (ℕ → ℕ) → ℕ → ℕ
after_of last m low n = passing (is_after m low n) (numbers_from 0 (last + 1))

-- whether x comes after n
abbrev pub IsAfter : Memory → (ℕ → ℕ) → ℕ → ℕ → Type 0
IsAfter m low n x =
    (level_at m x < level_at m n) ⊎ ((level_at m x ≡ level_at m n) × (low n < low x))

test_is : (a b c d : ℕ) → (a < b) ⊎ ((a ≡ b) × (c < d))
    → (nat_lt a b || (a == b) && nat_lt c d) ≡ true
test_is a b c d (inl lt) = first a b ((a == b) && nat_lt c d) lt
  where
    first : (a b : ℕ) (t : Bool) → a < b → (nat_lt a b || t) ≡ true
    first a b t lt = grind (arith, nat_tests)
test_is a b c d (inr both) = let e = both.0 in let lt = both.1 in second a b c d e lt
  where
    second : (a b c d : ℕ) → a ≡ b → c < d → (nat_lt a b || (a == b) && nat_lt c d) ≡ true
    second a b c d e lt = grind (arith, nat_tests)

test_says : (a b c d : ℕ) → (nat_lt a b || (a == b) && nat_lt c d) ≡ true
    → (a < b) ⊎ ((a ≡ b) × (c < d))
test_says a b c d e = grind (arith, nat_tests)

test_fails : (a c : ℕ) → (nat_lt a a || (a == a) && nat_lt c c) ≡ false
test_fails a c = grind (arith, nat_tests)

later_still : (a b c d e f : ℕ) → (a < b) ⊎ ((a ≡ b) × (c < d)) → (b < e) ⊎ ((b ≡ e) × (f < c))
    → (a < e) ⊎ ((a ≡ e) × (f < d))
later_still a b c d e f (inl p) (inl q) = inl (omega arith)
later_still a b c d e f (inl p) (inr q) = let q0 = q.0 in inl (omega arith)
later_still a b c d e f (inr p) (inl q) = let p0 = p.0 in inl (omega arith)
later_still a b c d e f (inr p) (inr q) =
    inr (p.0 ∙ q.0, let p1 = p.1 in let q1 = q.1 in omega arith)

-- the number of nodes after a node falls along a walk
pub after_falls : (last : ℕ) (m : Memory) (low : ℕ → ℕ) (n x : ℕ) → x ≤ last → IsAfter m low n x
    → after_of last m low x < after_of last m low n
after_falls last m low n x used later =
    passing_less (is_after m low x) (is_after m low n) 0 (last + 1) x
    (λ i from to e. test_is (level_at m i) (level_at m n) (low n) (low i)
    (later_still (level_at m i) (level_at m x) (low x) (low i) (level_at m n) (low n)
    (test_says (level_at m i) (level_at m x) (low x) (low i) e) later)) (omega arith) (omega arith)
    (test_fails (level_at m x) (low x))
    (test_is (level_at m x) (level_at m n) (low n) (low x) later)

-- and is below the number of the nodes in use
pub after_few : (last : ℕ) (m : Memory) (low : ℕ → ℕ) (n : ℕ) → n ≤ last
    → after_of last m low n < last + 1
after_few last m low n used =
    let less : after_of last m low n < passing (λ i. true) (numbers_from 0 (last + 1)) =
    passing_less (is_after m low n) (λ i. true) 0 (last + 1) n (λ i from to e. refl) (omega arith)
    (omega arith)
    (test_fails (level_at m n) (low n)) refl in
    let most : passing (λ i. true) (numbers_from 0 (last + 1)) ≤ last + 1 =
    passing_most (λ i. true) 0 (last + 1) in
    omega arith
