use Rattle.std.proofs.Common.{ap, sym, ◌∙◌}
use Rattle.std.proofs.lemmas.Result.{IfOk-weaker}
use Rattle.vyrd_base.specs.Rules.{built_in}
use Rattle.vyrd_base.specs.Verdicts.{line_of}
use Rattle.vyrd_item_text.specs.ItemText.{items_text}
use Rattle.vyrd_explain.specs.Explained.{items_about}
use Rattle.vyrd_explain.specs.Verdicts.{verdict_items}
use Rattle.vyrd_explain.proofs.text.said_text.Goals as goal

pub returns-in_ok-items-in-Fault : goal.returns-in_ok-items-in-Fault
returns-in_ok-items-in-Fault c =
    let starting = c.args.starting.now in
    let entries = c.args.entries.now in
    let lines = line_of starting in
    let h = c.args.header in
    IfOk-weaker c.text_of.result _ _ (λ text e. e ∙ ap (items_text lines)
    (c.deref.ensures.value ∙ c.in_ok-items-in-Fault.ensures
    ∙ ap (λ h. verdict_items (built_in h) lines starting entries c.args.verdict)
    c.new-shown.ensures
    ∙ ap (λ about. items_about about (built_in h) lines starting entries c.args.verdict)
    (sym c.in-Fault.is)))
    c.text_of.ensures
