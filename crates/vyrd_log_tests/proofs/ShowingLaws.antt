-- What a state tells of the amounts that it shows, if it hides nothing.
use Rattle.std.proofs.Common.{◌≡◌, Option, Some, None, refl, ap, sym}
use Rattle.std.specs.Prelude.{option_map}
use Rattle.vyrd_base.specs.Amounts.{Amounts}
use Rattle.vyrd_base.specs.States.{State, showing}

-- a step that is allowed
pub shown_next : (o : Option Amounts) (next : State) → option_map showing o ≡ Some next
    → Some next.shown ≡ o
shown_next None next e = cc
shown_next (Some amounts) next e = ap (option_map (λ s. s.shown)) (sym e)

-- a reply that is refused
pub no_next : (o : Option Amounts) → option_map showing o ≡ None → None ≡ o
no_next None e = refl
no_next (Some amounts) e = cc

pub ruleset showing_laws = (shown_next, no_next)
