use Rattle.std.proofs.Common.{ap, ◌∙◌, ◌++◌, codes}
use Rattle.std.proofs.lemmas.Result.{on_ok_weaker}
use Rattle.vyrd_item_text.specs.ItemText.{line_words, register_words}
use Rattle.vyrd_item_text.proofs.TextLaws.{two_behind}
use Rattle.vyrd_item_text.proofs.own_text.put_register.Goals as goal

pub returns : goal.returns
returns g c =
    let s = g.L.Lines.line c.args.lines.now in
    let place = line_words s (codes "state before line ") c.args.at in
    let said = register_words c.args.number c.args.value in
    on_ok_weaker c.put_register_value.result
    (λ last. last ∙ ap (λ xs. xs ++ said) c.in_ok-put_line.ensures
    ∙ two_behind c.args.text.now.items place said)
    c.put_register_value.ensures
