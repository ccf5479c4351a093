-- What of an event matters for the blocks: its caller, and what it is to the caller's block.
-- Neither values nor the numbers of locks do. A step is kept as one number.
use Rattle.std.specs.Prelude.{ℕ, zero, suc, ◌+◌, ◌*◌, ◌/◌, ◌%◌, ◌<◌, ◌^◌}
use Rattle.vyrd_base.specs.declared.log.Kind.TheVariants.{BlockOpen, BlockClose, BlockCommit}
use Rattle.vyrd_base.specs.declared.history.Did.{Did}
use Rattle.vyrd_base.specs.declared.history.Did.TheVariants.{Read, Wrote, Took, Gave, Marked}
use Rattle.vyrd_base.specs.declared.history.Stamped.{Stamped}
use Rattle.vyrd_mover.specs.declared.step.Role.{Role}
use Rattle.vyrd_mover.specs.declared.step.Role.TheVariants.{Opens, Ends, Marks, Takes, Gives}
use Rattle.vyrd_mover.specs.declared.step.Role.TheVariants.{Accesses}
use Rattle.vyrd_mover.specs.declared.step.Step.{Step}

-- what it is to the caller's block
abbrev pub role_of : Did → Role
role_of (Marked BlockOpen) = Opens
role_of (Marked BlockClose) = Ends
role_of (Marked BlockCommit) = Ends
role_of (Marked kind) = Marks
role_of (Took lock) = Takes
role_of (Gave lock) = Gives
role_of (Read cell value) = Accesses cell
role_of (Wrote cell value) = Accesses cell

-- the event as a step
abbrev pub step_of : Stamped → Step
step_of e = record { caller = e.caller; role = role_of e.did }

-- the number of a role
abbrev pub role_number : Role → ℕ
role_number Opens = 0
role_number Ends = 1
role_number Marks = 2
role_number Takes = 3
role_number Gives = 4
role_number (Accesses cell) = cell + 5

-- the role with a number
abbrev pub numbered_role : ℕ → Role
numbered_role zero = Opens
numbered_role (suc zero) = Ends
numbered_role (suc (suc zero)) = Marks
numbered_role (suc (suc (suc zero))) = Takes
numbered_role (suc (suc (suc (suc zero)))) = Gives
numbered_role (suc (suc (suc (suc (suc cell))))) = Accesses cell

-- a step in one number: the caller is below 256
abbrev pub code_of : Step → ℕ
code_of step = step.caller + 256 * role_number step.role

-- the step with a code
abbrev pub step_coded : ℕ → Step
step_coded code = record { caller = code % 256; role = numbered_role (code / 256) }

-- whether the cell that is accessed is small enough for a code
abbrev pub IsShort : Role → Type 0
IsShort (Accesses cell) = cell < 2 ^ 22
IsShort Opens = Unit {0}
IsShort Ends = Unit {0}
IsShort Marks = Unit {0}
IsShort Takes = Unit {0}
IsShort Gives = Unit {0}

-- whether the cell that is accessed is among the plain cells
abbrev pub IsWithin : ℕ → Role → Type 0
IsWithin plain (Accesses cell) = cell < plain
IsWithin plain Opens = Unit {0}
IsWithin plain Ends = Unit {0}
IsWithin plain Marks = Unit {0}
IsWithin plain Takes = Unit {0}
IsWithin plain Gives = Unit {0}
