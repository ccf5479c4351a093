use Rattle.std.proofs.Common.{◌++◌, ap, sym, ◌∙◌, append-nil, option_map}
use Rattle.vyrd_explain.proofs.LastLaws.{no_last}
use Rattle.vyrd_explain.proofs.last.with_last.Goals as goal

pub returns-in_default : goal.returns-in_default
returns-in_default g c = λ charter same state.
    let items = c.args.items.items in
    let none = sym state ∙ ap (λ s. option_map g.S.Spec.state s) c.in_default.is in
    sym (ap (λ last. items ++ last)
    (no_last charter c.args.starting.now c.args.front.now none c.args.at items)
    ∙ append-nil items)
