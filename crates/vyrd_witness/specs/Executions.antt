-- Which execution of a caller is open at a place of a log, where its call stands, and where it
-- returns. Positions count from 0.
use Rattle.std.specs.Prelude.{ℕ, ◌+◌, List, [], ◌∷◌, length, take, drop, Option, None}
use Rattle.std.specs.Option.{option_map, option_or}
use Rattle.vyrd_base.specs.declared.log.Entry.{Entry}
use Rattle.vyrd_base.specs.declared.log.Kind.{Kind}
use Rattle.vyrd_base.specs.Callers.{open_call, by_caller, entries_before_call}
use Rattle.vyrd_base.specs.Commits.{returned}
use Rattle.vyrd_base.specs.Places.{newest_first}
use Rattle.vyrd_witness.specs.declared.execution.Execution.{Execution}
use Rattle.vyrd_witness.specs.declared.execution.Returned.{Returned}
use Rattle.vyrd_witness.specs.declared.execution.Begun.{Begun}

-- what was called, if the caller has an open execution after these entries, which are given the
-- newest first, and how many entries stand before the call
abbrev pub begun_in : ℕ → List Entry → Option Begun
begun_in c earlier = option_map
    (λ called. record {
      at = length (entries_before_call c earlier);
      method = called.method;
      args = called.args;
    })
    (open_call c earlier)

-- the return that the entry at a position is, if it is one
abbrev pub return_at : ℕ → Kind → Option Returned
return_at at kind = option_map (λ reply. record { at = at; reply = reply }) (returned kind)

-- the caller's next return among entries, the first of which stands at this position
abbrev pub next_return : ℕ → ℕ → List Entry → Option Returned
next_return c at [] = None
next_return c at (e ∷ later) =
    option_or (by_caller c (return_at at) e) (next_return c (at + 1) later)

-- the execution that began so and returns so
abbrev pub with_return : ℕ → Option Returned → Begun → Execution
with_return c back begun = record {
  caller = c;
  called_at = begun.at;
  method = begun.method;
  args = begun.args;
  returned = back;
}

-- the caller's execution that is open before the entry at a position, if there is one; it may
-- return with that entry, or behind it
abbrev pub execution_in : List Entry → ℕ → ℕ → Option Execution
execution_in log at c =
    option_map (with_return c (next_return c at (drop at log)))
    (begun_in c (newest_first (take at log)))
