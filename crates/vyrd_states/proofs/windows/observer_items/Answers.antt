use Rattle.vyrd_states.proofs.Prelude.{◌∙◌, sym, rules_by}
use Rattle.vyrd_states.proofs.CallLaws.{execution_allowed}
use Rattle.vyrd_states.proofs.WindowLaws.{call_low}
use Rattle.vyrd_states.proofs.windows.observer_items.Goals as goal

pub answers_to-requires-clause-before : goal.answers_to-requires-clause-before
answers_to-requires-clause-before g c =
    call_low c.args.front.now c.args.at c.entry_at-caller.result c.in-Some.call
    (sym c.execution_of.ensures ∙ c.in-Some.is)

pub answers_to-requires-clause-has : goal.answers_to-requires-clause-has
answers_to-requires-clause-has g c =
    execution_allowed (rules_by (g.B.Begins.charter c.args.begins.now)).header c.args.front.now
    c.args.at c.entry_at-caller.result.caller
    c.in-Some.call c.requires.kept (sym c.execution_of.ensures ∙ c.in-Some.is)
