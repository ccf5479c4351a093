use Rattle.std.proofs.Common.{ap, ◌∙◌, ◌++◌, codes}
use Rattle.std.proofs.lemmas.Result.{on_ok_weaker}
use Rattle.vyrd_item_text.specs.ItemText.{line_words, hidden_words}
use Rattle.vyrd_item_text.proofs.TextLaws.{two_behind}
use Rattle.vyrd_item_text.proofs.own_text.put_hidden.Goals as goal

pub returns : goal.returns
returns g c =
    let s = g.L.Lines.line c.args.lines.now in
    let place = line_words s (codes "state before line ") c.args.at in
    let said = hidden_words c.args.key c.args.amount in
    on_ok_weaker c.put_hidden_amount.result
    (λ last. last ∙ ap (λ xs. xs ++ said) c.in_ok-put_line.ensures
    ∙ two_behind c.args.text.now.items place said)
    c.put_hidden_amount.ensures
