use Rattle.vyrd_mover.proofs.Prelude.{ap, ◌∙◌, fields_of, event_in, mark_or, act_from}
use Rattle.vyrd_mover.proofs.line.read_event.Goals as goal

pub returns-in-Some : goal.returns-in-Some
unfolding event_in
returns-in-Some c =
    c.mark_of.ensures
    ∙ ap (λ o. mark_or c.args.number o
    (act_from c.args.subject c.args.line.now c.args.number (fields_of c.args.line.now)))
    c.in-Some.ensures

pub returns-in-None : goal.returns-in-None
unfolding event_in
returns-in-None c =
    c.read_act.ensures
    ∙ ap (λ o. mark_or c.args.number o
    (act_from c.args.subject c.args.line.now c.args.number (fields_of c.args.line.now)))
    c.in-None.ensures
