use Rattle.vyrd_text.proofs.Prelude.{◌≡◌, ap, ◌∙◌, take, length, true, false, not, refl, bytes_eq}
use Rattle.vyrd_text.proofs.Prelude.{take_at, bytes_same}
use Rattle.vyrd_text.proofs.line.after.Goals as goal

pub returns-then-ne : goal.returns-then-ne
returns-then-ne c = λ rest e.
    let front : c.split_at.result.0.now ≡ c.args.word.now =
    c.split_at.ensures.front ∙ ap (take (length c.args.word.now)) e ∙ take_at c.args.word.now rest
    (length c.args.word.now) refl in
    let both : true ≡ false = c.if-ne.ensures ∙ ap (λ t. not (bytes_eq t c.args.word.now)) front
    ∙ ap not (bytes_same c.args.word.now) in
    cc
