use Rattle.std.proofs.Common.{ap, ◌∙◌, ◌++◌, codes}
use Rattle.vyrd_item_text.specs.ItemText.{line_words}
use Rattle.vyrd_item_text.proofs.TextLaws.{two_behind}
use Rattle.vyrd_item_text.proofs.text.put_unanswered.Goals as goal

pub returns : goal.returns
returns g c =
    let s = g.L.Lines.line c.args.lines.now in
    let place = line_words s (codes "answer from line ") c.args.at in
    let said = codes ": none" in
    c.in_ok-extend_from_slice.ensures.items ∙ ap (λ xs. xs ++ said) c.in_ok-put_line.ensures
    ∙ two_behind c.args.text.now.items place said
