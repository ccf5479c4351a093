-- Beginnings and ends of what a caller sent, and the events in parcels.
use Rattle.std.specs.Prelude.{◌≡◌, List, ◌++◌}
use Rattle.std.specs.List.{flat_map}
use Rattle.vyrd_base.specs.declared.history.Stamped.{Stamped}

-- the first list is a beginning of the second
abbrev pub Begins : List Stamped → List Stamped → Type 0
Begins front whole = (rest : List Stamped) × (whole ≡ front ++ rest)

-- the second list is an end of the first
abbrev pub EndsWith : List Stamped → List Stamped → Type 0
EndsWith whole back = (before : List Stamped) × (whole ≡ before ++ back)

-- the events of parcels, in their order
abbrev pub events_in : List (List Stamped) → List Stamped
events_in parcels = flat_map (λ events. events) parcels
