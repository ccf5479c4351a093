-- What is kept of a plain cell, one event further.
use Rattle.vyrd_mover.proofs.Prelude.{◌≡◌, ℕ, Bool, true, false, cond, not, ◌||◌, List, refl, ap}
use Rattle.vyrd_mover.proofs.Prelude.{◌∙◌, sym, Users, Nobody, One, Many, Use, is_used, is_shared}

-- what was kept where nobody used the cell, and where somebody did
pub when_unused : (users : Users) (both held : List ℕ) → users ≡ Nobody
    → cond (is_used users) both held ≡ held
when_unused users both held e = ap (λ u. cond (is_used u) both held) e

pub when_used : (users : Users) (both held : List ℕ) → (users ≡ Nobody → ⊥)
    → cond (is_used users) both held ≡ both
when_used Nobody both held h = absurd (h refl)
when_used (One user) both held h = refl
when_used Many both held h = refl

pub same_use : (a b : Use) → a.users ≡ b.users → a.written ≡ b.written → a.guards ≡ b.guards → a ≡ b
same_use a b pu pw pg = λ i. record { users = pu i; written = pw i; guards = pg i }

pub or_is_true : (a b : Bool) → a ≡ true → true ≡ (a || b)
or_is_true a b e = ap (λ x. x || b) (sym e)

pub or_is_second : (a b : Bool) → a ≡ false → b ≡ (a || b)
or_is_second a b e = ap (λ x. x || b) (sym e)

-- one caller at most has used the cell, or nobody has written it
pub at_once_true : (users : Users) (many written : Bool) → many ≡ is_shared users → many ≡ false
    → true ≡ (not (is_shared users) || not written)
at_once_true users many written e n = or_is_true (not _) (not _) (ap not (sym e ∙ n))

pub at_once_second : (users : Users) (many written : Bool) → many ≡ is_shared users → many ≡ true
    → not written ≡ (not (is_shared users) || not written)
at_once_second users many written e n = or_is_second _ _ (ap not (sym e ∙ n))
