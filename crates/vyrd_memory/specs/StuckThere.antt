-- What is left of the machines' scripts where a run by turns gets stuck.
use Rattle.std.specs.Prelude.{◌≡◌, ℕ, List, Some, slice_get}
use Rattle.vyrd_memory.specs.declared.op.Turn.{Turn}
use Rattle.vyrd_memory.specs.Scripts.{Script, left_after}
use Rattle.vyrd_memory.specs.Turns.{script_of, part_of, run_for, GetsStuck}

-- The run by turns gets stuck, and the machine of caller i, which is at place i, has what is left
-- of the caller's script there.
pub record AreStuckThere {M : Type 0} (script : M → Script) (scripts : List Script)
    (turns : List Turn) (machines : List M) : Type 0 where
  pub stuck : GetsStuck scripts turns
  pub left : (i : ℕ) (m : M) → slice_get machines i ≡ Some m
      → script m ≡ left_after (script_of scripts i)
      (part_of i (run_for scripts turns stuck.rounds))
