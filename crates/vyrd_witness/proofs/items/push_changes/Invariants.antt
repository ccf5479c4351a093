use Rattle.vyrd_witness.proofs.Prelude.{◌≡◌, ◌++◌, map, take, Changed}
use Rattle.vyrd_witness.proofs.items.push_changes.Given as goal

abbrev pub invariant-loop-change : goal.invariant-loop-change
invariant-loop-change l =
    l.items.items ≡ l.initial.items.items ++ map (Changed l.fn.key) (take l.change-index l.changes)
