use Rattle.std.proofs.Common.{sym, ◌∙◌}
use Rattle.vyrd_judge.proofs.CostLaws.{event_paid}
use Rattle.vyrd_judge.proofs.online.Judge.take_event.Goals as goal

pub returns-in-Some-clause-steps : goal.returns-in-Some-clause-steps
returns-in-Some-clause-steps g c = λ starting log f.
    rw (← sym c.in-Some.is ∙ c.entry_of.ensures)
    (event_paid g.S.Compared.Compare.price g.S.Spec.most_touched c.args.self.now.kept
    c.in-Some.entry c.take.result _ _ _ _ _ c.tick.ensures (c.take.ensures.steps starting log f))
