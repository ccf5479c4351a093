use Rattle.vyrd_memory.proofs.Prelude.{◌≡◌, slice_get, filter, numbers_below, is_unfinished}
use Rattle.vyrd_memory.proofs.turns.unfinished.Given as goal

-- those before this one whose machines aren't done
abbrev pub invariant-loop-caller : goal.invariant-loop-caller
invariant-loop-caller g l =
    l.callers.items ≡ filter (λ c. is_unfinished g.M.Machine.script (slice_get l.machines c))
    (numbers_below l.caller)
