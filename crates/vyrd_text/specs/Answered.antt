-- What a reader answers about the text.
use Rattle.std.specs.Prelude.{◌≡◌, List, ◌++◌, Option, Some, None, Result, Ok, Err}
use Rattle.vyrd_base.specs.declared.log.Entry.{Entry}
use Rattle.vyrd_base.specs.Reading as reading
use Rattle.vyrd_text.specs.declared.fault.TextFault.{TextFault}
use Rattle.vyrd_text.specs.declared.fault.TextFault.TheVariants.{Malformed, Memory}

-- `Ok` if there is no fault of text, and otherwise that fault
abbrev pub IsAnswer : Result (Unit {0}) TextFault → Option reading.TextFault → Type 0
IsAnswer (Ok x) fault = fault ≡ None
IsAnswer (Err (Malformed line rule)) fault = fault ≡ Some (record { line = line; rule = rule })
IsAnswer (Err Memory) fault = ⊥

-- the fact holds, unless memory ran out
abbrev pub UnlessMemory : Result (Unit {0}) TextFault → Type 0 → Type 0
UnlessMemory (Ok x) P = P
UnlessMemory (Err (Malformed line rule)) P = P
UnlessMemory (Err Memory) P = Unit {0}

-- two lists grew by the same entries
pub record IsGrownBy (first second first_new second_new : List Entry) : Type 0 where
  pub more : List Entry
  pub one : first_new ≡ first ++ more
  pub other : second_new ≡ second ++ more
