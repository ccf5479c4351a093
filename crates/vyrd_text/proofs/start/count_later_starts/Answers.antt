use Rattle.vyrd_text.proofs.Prelude.{ap, sym, ◌∙◌, cut, front_starts, after_first}
use Rattle.vyrd_text.proofs.AheadLaws.{later_step, later_last}
use Rattle.vyrd_text.proofs.start.count_later_starts.Goals as goal

pub returns-in-Some-clause-count : goal.returns-in-Some-clause-count
returns-in-Some-clause-count c =
    c.count_starts.ensures.count
    ∙ sym (ap (λ t. front_starts (after_first (cut t))) c.in-Some.ensures.1
    ∙ later_step c.in-Some.field-0-0.now c.in-Some.after.now c.in-Some.ensures.0)

pub returns-in-None-clause-count : goal.returns-in-None-clause-count
returns-in-None-clause-count c = sym (later_last c.args.text.now c.in-None.ensures)
