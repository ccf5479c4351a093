use Rattle.std.proofs.Common.{◌≡◌, ◌-◌, length}
use Rattle.std.specs.Prelude.{◌==◌}
use Rattle.std.specs.Bool.{then_some}
use Rattle.vyrd_base.specs.Places.{first_answer, numbers_from, numbers_below}
use Rattle.vyrd_explain.proofs.items.position_on.Given as goal

abbrev pub invariant-loop-at : goal.invariant-loop-at
invariant-loop-at g l =
    first_answer (λ at. then_some (g.L.Lines.line l.fn.lines at == l.fn.line) at)
    (numbers_from l.at (length l.front - l.at))
    ≡ first_answer (λ at. then_some (g.L.Lines.line l.fn.lines at == l.fn.line) at)
    (numbers_below (length l.front))
