use Rattle.vyrd_own_check.proofs.Prelude.{◌≡◌, ℕ, get_or, ap, ◌∙◌, sym, Vec, nothing_read}
use Rattle.vyrd_own_check.proofs.Prelude.{read_next}
use Rattle.vyrd_own_check.proofs.SpecifiedLaws.{read_more}
use Rattle.vyrd_own_check.proofs.starting.read_program.Goals as goal

pub loop-line-preserved : goal.loop-line-preserved
loop-line-preserved c =
    let lines = c.args.lines.now in
    let i = c.loop-line.line-index in
    let d = c.line-item.result in
    let line : c.deref.result.now ≡ (get_or lines i d).items = c.deref.ensures.value
    ∙ ap (λ (v : Vec ℕ). v.items) c.line-item.is in
    c.in_ok-take_line.ensures.left
    ∙ (λ k. (read_next (c.loop-line.invariant k) (line k)).1)
    ∙ sym (read_more nothing_read lines i d c.loop-line-test.true)
