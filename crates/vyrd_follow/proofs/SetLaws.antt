-- The amounts that a step sets, of the keys that are named.
use Rattle.vyrd_follow.proofs.Prelude.{◌≡◌, ℕ, ◌<◌, ◌≤◌, List, [], ◌∷◌, ◌++◌, take, Option, Some}
use Rattle.vyrd_follow.proofs.Prelude.{arith, option_map_or, Effect, State, amounts_set}

pub one_key : (n a b : ℕ) → 0 < n → n ≤ 1 → a ∷ [] ≡ take n (a ∷ b ∷ [])
one_key n a b some few = grind (arith, few)

pub no_key : (n a b : ℕ) → n ≤ 0 → [] ≡ take n (a ∷ b ∷ [])
no_key n a b none = search arith

-- what is done, once it is known which state follows
pub set_so : (old done : List Effect) (before after : State) (o : Option State)
    (keys named : List ℕ) → o ≡ Some after → keys ≡ named
    → done ≡ old ++ amounts_set before.shown after.shown named
    → done ≡ old ++ option_map_or (λ s. amounts_set before.shown s.shown keys) o []
set_so old done before after o keys named next same so = grind (arith, after, named)
