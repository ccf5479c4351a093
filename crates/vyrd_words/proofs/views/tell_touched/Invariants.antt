use Rattle.vyrd_words.proofs.Prelude.{◌≡◌, ◌≤◌, ◌+◌, ◌*◌, take, rules_by, with_touched}
use Rattle.vyrd_words.proofs.views.tell_touched.Given as goal

abbrev pub invariant-loop-key : goal.invariant-loop-key
invariant-loop-key g l = record {
  told : g.C.Compare.known l.compared
      ≡ record (g.C.Compare.known l.initial.compared) {
        specified = with_touched (take l.key-index (g.S.Spec.touched l.spec))
            ((rules_by (g.S.Spec.charter l.spec)).shown (g.S.Spec.state l.spec))
            (g.C.Compare.known l.initial.compared).specified;
      };
  steps : l.steps ≤ l.initial.steps + 2 * l.key-index;
}
