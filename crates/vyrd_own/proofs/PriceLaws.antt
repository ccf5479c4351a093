-- How many effects there are, and what they cost together.
use Rattle.vyrd_own.proofs.Prelude
use Prelude.{◌≡◌, ℕ, Bool, true, false, cond, List, [], ◌∷◌, ◌++◌, length, ap, ◌+◌, ◌*◌, ◌≤◌, arith}
use Prelude.{length-append, Some, map, length-map, max, option_map, option_map_or, mul-le, State}
use Prelude.{holds, value, Case, allowed_effects, effect_of, Effect, SetShown, SetHidden}
use Prelude.{SetRegister, PutLast, PutFirst, TakeFirst, TakeLast, Empty, EmptyShown, shown_after}
use Prelude.{hidden_after, sets_price, put_price, longest_case}
use Rattle.std.specs.Prelude.{find}

pub one_more : (xs ys : List ℕ) (x : ℕ) → ys ≡ xs ++ x ∷ [] → length ys ≡ length xs + 1
one_more xs ys x is = omega (arith, ap length is, length-append xs (x ∷ []))

-- amounts that are set apart cost no more than together
pub sets_split : (a b n : ℕ) → a + b ≤ n → sets_price a + sets_price b ≤ sets_price n
sets_split a b n few =
    omega (
      arith,
      mul-le a (2 * a + 6) a (2 * n + 6) (omega arith) (omega (arith, few)),
      mul-le b (2 * b + 6) b (2 * n + 6) (omega arith) (omega (arith, few)),
      mul-le (a + b) (2 * n + 6) n (2 * n + 6) few (omega arith),
    )

pub put_mono : (a n : ℕ) → a ≤ n → put_price a ≤ put_price n
put_mono a n few = omega (arith, few, mul-le a (2 * a + 6) n (2 * n + 6) few (omega (arith, few)))

-- no more amounts are set than there are effects
pub gathered_few : (ps qs : List (ℕ × ℕ)) (es : List Effect) → length (shown_after ps es)
    + length (hidden_after qs es) ≤ length ps + length qs + length es
gathered_few ps qs [] = omega arith
gathered_few ps qs (SetShown k a ∷ es) =
    omega (arith, gathered_few (ps ++ (k, a) ∷ []) qs es, length-append ps ((k, a) ∷ []))
gathered_few ps qs (SetHidden k a ∷ es) =
    omega (arith, gathered_few ps (qs ++ (k, a) ∷ []) es, length-append qs ((k, a) ∷ []))
gathered_few ps qs (SetRegister i a ∷ es) = omega (arith, gathered_few ps qs es)
gathered_few ps qs (PutLast i a ∷ es) = omega (arith, gathered_few ps qs es)
gathered_few ps qs (PutFirst i a ∷ es) = omega (arith, gathered_few ps qs es)
gathered_few ps qs (TakeFirst i ∷ es) = omega (arith, gathered_few ps qs es)
gathered_few ps qs (TakeLast i ∷ es) = omega (arith, gathered_few ps qs es)
gathered_few ps qs (Empty i ∷ es) = omega (arith, gathered_few ps qs es)
gathered_few ps qs (EmptyShown ∷ es) = omega (arith, gathered_few [] qs es)

-- a case that allows a reply has no more effects than the longest case has lines
pub few_effects : (s : State) (values : List ℕ) (cases : List Case) → option_map_or length
    (allowed_effects s values cases) 0 ≤ longest_case cases
few_effects s values [] = omega arith
few_effects s values (case ∷ cases) = by_test (holds _) (few_effects s values cases)
  where
    by_test : (b : Bool) → option_map_or length (allowed_effects s values cases) 0
        ≤ longest_case cases → option_map_or length (option_map
        (λ case. map (effect_of s values) case.changes)
        (cond b (Some case) (find (λ case. holds (value s values case.allow)) cases))) 0
        ≤ max (length case.changes) (longest_case cases)
    by_test true others = omega (arith, length-map case.changes (effect_of s values))
    by_test false others = omega (arith, others)
