-- Two neighbouring events of a history that may be exchanged.
use Rattle.std.specs.Prelude.{ℕ, ◌+◌, Bool, ◌||◌, List, [], ◌∷◌}
use Rattle.vyrd_base.specs.declared.history.Stamped.{Stamped}
use Rattle.vyrd_mover.specs.Movers.{is_free_access, is_take, is_give}
use Rattle.vyrd_mover.specs.Blocks.{is_mark}

-- the events, renumbered from k on
abbrev pub numbered_from : ℕ → List Stamped → List Stamped
numbered_from k [] = []
numbered_from k (e ∷ later) =
    record { number = k; caller = e.caller; did = e.did } ∷ numbered_from (k + 1) later

-- the events, renumbered
abbrev pub numbered : List Stamped → List Stamped
numbered history = numbered_from 0 history

-- whether the first is a take, the second is a give, or one of them is a mark or an access of a
-- race-free cell
abbrev pub is_movable : (ℕ → Bool) → Stamped → Stamped → Bool
is_movable free first second =
    is_take first.did || is_give second.did || is_mark first.did || is_mark second.did
    || is_free_access free first.did || is_free_access free second.did
