use Rattle.std.proofs.Common.{ap, ◌∙◌, ◌++◌, codes}
use Rattle.std.proofs.lemmas.Result.{on_ok_weaker}
use Rattle.vyrd_item_text.specs.ItemText.{line_words, value_words, shown_words}
use Rattle.vyrd_item_text.proofs.TextLaws.{four_behind}
use Rattle.vyrd_item_text.proofs.write_text.put_change.Goals as goal

pub returns : goal.returns
returns g c =
    let s = g.L.Lines.line c.args.lines.now in
    let x = c.args.change in
    on_ok_weaker c.put_shown.result
    (λ last. last
    ∙ ap (λ xs. xs ++ shown_words c.args.key x) (c.in_ok-put_line-2.ensures
    ∙ ap (λ xs. xs ++ line_words s (codes ", in effect at line ") x.effect.at)
    (c.in_ok-put_value.ensures
    ∙ ap (λ xs. xs ++ value_words x.effect x.was) c.in_ok-put_line.ensures))
    ∙ four_behind c.args.text.now.items
    (line_words s (codes "change at line ") x.effect.written) (value_words x.effect x.was)
    (line_words s (codes ", in effect at line ") x.effect.at) (shown_words c.args.key x))
    c.put_shown.ensures
