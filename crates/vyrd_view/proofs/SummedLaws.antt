-- The exact sums, as the sum of a key changes.
use Rattle.vyrd_view.proofs.Prelude.{◌≡◌, ◌≢◌, ℕ, ◌+◌, ◌-◌, ◌*◌, ◌/◌, ◌%◌, ◌^◌, ◌<◌, ◌≤◌, min, cond}
use Rattle.vyrd_view.proofs.Prelude.{[], Option, Some, None, refl, ap, ◌∙◌, arith, ◌==◌, Amounts}
use Rattle.vyrd_view.proofs.Prelude.{amount_of, with_amount, same_of, at_most_of, above_of, Sides}
use Rattle.vyrd_view.proofs.Prelude.{Sums, IsLeastApart, shown_at, specified_of, IsSettled, sum_at}
use Rattle.vyrd_view.specs.Sided as sided
use Rattle.vyrd_view.specs.Summed.{AreSettled}

pub settled_sums : (s : Sums) → IsSettled s → AreSettled s
unfolding IsSettled
settled_sums s settled = settled

pub sums_settled : (s : Sums) → AreSettled s → IsSettled s
unfolding IsSettled
sums_settled s settled = settled

pub sum_is : (s : Sums) (q : ℕ)
    → sum_at s q ≡ shown_at s.sides q + 2 ^ 64 * shown_at s.carries q
unfolding sum_at
sum_is s q = refl

-- where there is nothing on either side
pub fresh_sum : (s : Sums) → ((q : ℕ) → shown_at s.sides q ≡ 0)
    → ((q : ℕ) → shown_at s.carries q ≡ 0) → (q : ℕ)
    → sum_at s q ≡ 0
fresh_sum s none bare q = omega (arith, sum_is s q, none q, bare q)

-- where the carries stay, the sums are in order if the sides are
pub sides_settle : (s : Sums) (sides : Sides) → IsSettled s → sided.IsSettled sides
    → IsSettled (record { sides = sides; carries = s.carries })
sides_settle s sides settled now = search (settled_sums, sums_settled, arith)

pub sum_stays : (s : Sums) (sides : Sides) → ((q : ℕ) → shown_at sides q ≡ shown_at s.sides q)
    → (q : ℕ) → sum_at (record { sides = sides; carries = s.carries }) q ≡ sum_at s q
unfolding sum_at
sum_stays s sides now q = ap (λ n. n + 2 ^ 64 * shown_at s.carries q) (now q)

-- nothing is specified of carries still
pub bare_stays : (s t : Amounts) (k : ℕ) → s ≡ [] → t ≡ with_amount s k 0 → t ≡ []
bare_stays s t k bare is = is ∙ ap (λ a. with_amount a k 0) bare

-- the carries are against nothing
pub against_none : (s : Sums) → AreSettled s → (o : Option ℕ)
    → IsLeastApart (shown_at s.carries) (amount_of (specified_of s.carries)) o
    → IsLeastApart (shown_at s.carries) (λ q. 0) o
against_none s settled o is = grind (arith, settled.alone)

-- what is left of a key's sum changes, and its carries stay
pub sum_moves : (s : Sums) (sides : Sides) (k less more low : ℕ) → less ≤ shown_at s.sides k
    → low ≡ shown_at s.sides k - less + more
    → ((q : ℕ) → shown_at sides q ≡ cond (q == k) low (shown_at s.sides q)) → (q : ℕ)
    → sum_at (record { sides = sides; carries = s.carries }) q
    ≡ cond (q == k) (sum_at s k - less + more) (sum_at s q)
unfolding sum_at
sum_moves s sides k less more low enough is now q = search (shown_at, same_of, arith)

-- and both change
pub sum_carries : (s : Sums) (sides : Sides) (carries : Sides) (k sum : ℕ)
    → ((q : ℕ) → shown_at carries q ≡ cond (q == k) (sum / 2 ^ 64) (shown_at s.carries q))
    → ((q : ℕ) → shown_at sides q ≡ cond (q == k) (sum % 2 ^ 64) (shown_at s.sides q)) → (q : ℕ)
    → sum_at (record { sides = sides; carries = carries }) q ≡ cond (q == k) sum (sum_at s q)
unfolding sum_at
sum_carries s sides carries k sum is now q = search (shown_at, arith)

-- ---- the least key that differs

module _ (s : Sums) (g : ℕ → ℕ) where
  -- where no key has a carry
  pub apart_uncarried : (o : Option ℕ) → ((q : ℕ) → shown_at s.carries q ≡ 0)
      → IsLeastApart (shown_at s.sides) g o → IsLeastApart (sum_at s) g o
  apart_uncarried o none is = search (sum_is, arith)

  -- a key with a carry differs from what is below 2^64
  carry_differs : (k : ℕ) → shown_at s.carries k ≢ 0 → g k < 2 ^ 64 → sum_at s k ≢ g k
  carry_differs k some small same = some (omega (arith, sum_is s k, same, small))

  -- where the least of those with a carry is the only one that differs
  pub apart_carried : (k : ℕ) → IsLeastApart (shown_at s.carries) (λ q. 0) (Some k)
      → g k < 2 ^ 64 → IsLeastApart (shown_at s.sides) g None → IsLeastApart (sum_at s) g (Some k)
  apart_carried k carried small is = search (carry_differs, sum_is, arith)

  -- and where there are both
  pub apart_either : (m k l : ℕ) → IsLeastApart (shown_at s.sides) g (Some m)
      → IsLeastApart (shown_at s.carries) (λ q. 0) (Some k) → g k < 2 ^ 64 → l ≡ min m k
      → IsLeastApart (sum_at s) g (Some l)
  apart_either m k l is carried small least = search
      (sum_is, sum_at, at_most_of, carry_differs, above_of, arith)
