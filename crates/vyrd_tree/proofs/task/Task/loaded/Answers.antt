use Rattle.vyrd_tree.proofs.Prelude.{◌≡◌, ◌∙◌, length, ap, sym, arith, rules, after_answer, loading}
use Rattle.vyrd_tree.proofs.Steps.Loads.{value_kept}
use Rattle.vyrd_tree.proofs.task.Task.loaded.Goals as goal

pub returns-in-Level-clause-rest : goal.returns-in-Level-clause-rest
returns-in-Level-clause-rest c = λ h. ap
    (λ w. after_answer (loading h c.args.self c.args.visit.now w) c.args.answer) (sym c.in-Level.is)

pub returns-in-Value-clause-rest : goal.returns-in-Value-clause-rest
returns-in-Value-clause-rest c = λ h.
    let v = c.args.visit.now in
    let slot = c.in-Value.slot in
    let len : length v.entries.slots ≡ 4 = search rules in
    c.values_from.ensures.rest h c.args.self
    ∙ value_kept h c.args.self v slot c.args.answer c.set_value.new.self.slots c.set_value.ensures
    (omega (arith, len, slot.within, slot.few))
    ∙ ap (λ w. after_answer (loading h c.args.self v w) c.args.answer) (sym c.in-Value.is)
