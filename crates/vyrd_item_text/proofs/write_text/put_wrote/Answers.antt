use Rattle.std.proofs.Common.{ap, ◌∙◌, ◌++◌, codes}
use Rattle.std.proofs.lemmas.Result.{on_ok_weaker}
use Rattle.vyrd_item_text.specs.ItemText.{line_words, value_words}
use Rattle.vyrd_item_text.proofs.TextLaws.{three_behind}
use Rattle.vyrd_item_text.proofs.write_text.put_wrote.Goals as goal

pub returns : goal.returns
returns g c =
    let s = g.L.Lines.line c.args.lines.now in
    let x = c.args.effect in
    let place = line_words s (codes "write at line ") x.written in
    let at = line_words s (codes ", in effect at line ") x.at in
    on_ok_weaker c.put_line-2.result
    (λ last. last ∙ ap (λ xs. xs ++ at) (c.in_ok-put_value.ensures
    ∙ ap (λ xs. xs ++ value_words x c.args.was) c.in_ok-put_line.ensures)
    ∙ three_behind c.args.text.now.items place (value_words x c.args.was) at)
    c.put_line-2.ensures
