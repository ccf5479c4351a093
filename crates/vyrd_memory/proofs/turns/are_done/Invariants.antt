use Rattle.vyrd_memory.proofs.Prelude.{◌≡◌, take, true, list_all, next_act, is_done}
use Rattle.vyrd_memory.proofs.turns.are_done.Given as goal

-- those before are done
abbrev pub invariant-loop-machine : goal.invariant-loop-machine
invariant-loop-machine g l = list_all (λ m. is_done (next_act (g.M.Machine.script m)))
    (take l.machine-index l.machines) ≡ true
