use Rattle.vyrd_observers.proofs.Prelude.{◌≡◌, ◌≤◌, ◌+◌, ◌*◌, after_state, rules_by, changed_below}
use Rattle.vyrd_observers.proofs.trails.see_all.Given as goal

abbrev pub invariant-loop-i : goal.invariant-loop-i
invariant-loop-i g l = record {
  changed : l.trails.items ≡ changed_below
      (after_state (g.S.Spec.affects l.spec)
      ((rules_by (g.S.Spec.charter l.spec)).answer (g.S.Spec.state l.spec))) l.i
      l.initial.trails.items;
  within : l.i ≤ l.reach;
  steps : l.steps + 3 * l.initial.i ≤ l.initial.steps + 3 * l.i;
}
