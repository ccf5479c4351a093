use Rattle.vyrd_observers.proofs.Prelude.{◌≡◌, ◌+◌, moved, changed_below}
use Rattle.vyrd_observers.proofs.leaving.move_all.Given as goal

abbrev pub invariant-loop-watch : goal.invariant-loop-watch
invariant-loop-watch g l = record {
  moved : l.watch-items ≡ changed_below (moved l.trail l.n) l.watch-index l.initial.watch-items;
  steps : l.steps ≡ l.initial.steps + l.watch-index;
}
