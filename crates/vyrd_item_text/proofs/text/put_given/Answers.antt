use Rattle.std.proofs.Common.{ap, ◌∙◌, ◌++◌, codes}
use Rattle.std.proofs.lemmas.Result.{on_ok_weaker}
use Rattle.vyrd_item_text.specs.ItemText.{line_words, part_words, amount_words}
use Rattle.vyrd_item_text.proofs.TextLaws.{three_behind}
use Rattle.vyrd_item_text.proofs.text.put_given.Goals as goal

pub returns : goal.returns
returns g c =
    let part = part_words c.args.part in
    let s = g.L.Lines.line c.args.lines.now in
    let place = line_words s (codes " after line ") c.args.at in
    let said = amount_words c.args.key c.args.amount in
    on_ok_weaker c.put_amount.result
    (λ last. last ∙ ap (λ xs. xs ++ said) (c.in_ok-put_line.ensures
    ∙ ap (λ xs. xs ++ place) c.in_ok-put_part.ensures)
    ∙ three_behind c.args.text.now.items part place said)
    c.put_amount.ensures
