use Rattle.vyrd_states.proofs.Prelude.{◌≡◌, ◌-◌, ◌++◌, Some, None, numbers_from, rules_by, IsKnown}
use Rattle.vyrd_states.proofs.Prelude.{called_by, run_by, answer_after, answers_along}
use Rattle.vyrd_states.proofs.windows.answers_to.Given as goal

abbrev pub invariant-loop-position : goal.invariant-loop-position
invariant-loop-position g l =
    let of = g.B.Running.Spec in
    let charter = g.B.Begins.charter l.fn.begins in
    IsKnown charter l.fn.starting l.fn.front l.position
    (Some (run_by of.charter of.state of.made l.spec))
    × (let f = answer_after (rules_by charter) l.fn.starting l.fn.front (called_by l.fn.call) in
    l.items.items ++ answers_along l.fn.call.method f l.last
    (numbers_from l.position (l.fn.at - l.position))
    ≡ answers_along l.fn.call.method f None
    (numbers_from l.fn.call.called_at (l.fn.at - l.fn.call.called_at)))
