-- Events of a caller, and what a history leaves in the cells.
use Rattle.std.specs.Prelude.{◌≡◌, ℕ, ◌+◌, ◌<◌, List, map}
use Rattle.std.specs.List.{All}
use Rattle.vyrd_base.specs.declared.history.Did.{Did}
use Rattle.vyrd_base.specs.declared.history.Stamped.{Stamped}
use Rattle.vyrd_base.specs.Places.{newest_first, numbers_below}
use Rattle.vyrd_base.specs.Histories.{Cells, value_in}
use Rattle.vyrd_trace.specs.declared.plan.Plan.{Plan}

-- an event with its number and its caller
abbrev pub stamp : ℕ → ℕ → Did → Stamped
stamp number caller did = record { number = number; caller = caller; did = did }

-- the events have numbers below this one
abbrev pub AreBelow : ℕ → List Stamped → Type 0
AreBelow number lane = All (λ (e : Stamped). e.number < number) lane

-- a cell's value after these events
abbrev pub last_value : List Stamped → ℕ → ℕ
last_value history cell = value_in (newest_first history) cell

-- the value that a lock gets from these events of a caller is the caller's number plus 1: it holds
-- the lock by them
abbrev pub HoldsBy : List Stamped → ℕ → ℕ → Type 0
HoldsBy lane caller lock = last_value lane lock ≡ caller + 1

-- how many plain cells, locks and callers the histories of a plan have
abbrev pub cells_in : Plan → Cells
cells_in plan = record { plain = plan.plain; locks = plan.locks; callers = plan.callers }

-- the values of all cells after a history: plain cells and then locks
abbrev pub last_values : Plan → List Stamped → List ℕ
last_values plan history = map (last_value history) (numbers_below (plan.plain + plan.locks))
