use Rattle.std.proofs.Common.{ℕ, Option, length, ap, sym, ◌∙◌}
use Rattle.std.specs.Prelude.{◌==◌}
use Rattle.std.specs.Bool.{then_some}
use Rattle.vyrd_base.proofs.TestLaws.{isnt_same}
use Rattle.vyrd_explain.proofs.PositionLaws.{passed}
use Rattle.vyrd_explain.proofs.items.position_on.Goals as goal

pub loop-at-preserved : goal.loop-at-preserved
loop-at-preserved g c =
    let at = c.loop-at.at in
    let line = g.L.Lines.line c.args.lines.now in
    let f : ℕ → Option ℕ = λ k. then_some (line k == c.args.line) k in
    sym (passed f at (length c.args.front.now) c.loop-at-test.true
    (ap (λ b. then_some b at) (isnt_same (line at) c.args.line
    (λ e. c.if-line-from.false (c.line.ensures ∙ e ∙ sym c.from.ensures)))))
    ∙ c.loop-at.invariant
