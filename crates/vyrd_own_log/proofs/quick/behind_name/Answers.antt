use Rattle.vyrd_own_log.proofs.Prelude.{◌≡◌, ap, ◌∙◌, take, length, true, false, not, refl}
use Rattle.vyrd_own_log.proofs.Prelude.{bytes_eq, take_at, bytes_same}
use Rattle.vyrd_own_log.proofs.quick.behind_name.Goals as goal

pub returns-then-ne : goal.returns-then-ne
returns-then-ne c = λ rest ends e.
    let name = c.args.name.now in
    let front : c.split_at.result.0.now ≡ name = c.split_at.ensures.front
    ∙ ap (take (length name)) e ∙ take_at name rest (length name) refl in
    let both : true ≡ false = c.if-ne.ensures ∙ ap (λ t. not (bytes_eq t name)) front
    ∙ ap not (bytes_same name) in
    cc
