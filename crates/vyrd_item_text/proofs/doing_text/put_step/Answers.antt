use Rattle.std.proofs.Common.{ap, ◌∙◌, ◌++◌}
use Rattle.std.proofs.lemmas.Result.{on_ok_weaker}
use Rattle.vyrd_item_text.specs.ItemText.{line_words, doing_words}
use Rattle.vyrd_item_text.proofs.TextLaws.{two_behind}
use Rattle.vyrd_item_text.proofs.doing_text.put_step.Goals as goal

pub returns : goal.returns
returns g c =
    let s = g.L.Lines.line c.args.lines.now in
    let place = line_words s c.args.words.now c.args.at in
    let said = doing_words c.args.doing in
    on_ok_weaker c.put_doing.result
    (λ last. last ∙ ap (λ xs. xs ++ said) c.in_ok-put_line.ensures
    ∙ two_behind c.args.text.now.items place said)
    c.put_doing.ensures
