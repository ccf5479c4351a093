use Rattle.vyrd_states.proofs.Prelude.{Some, IsKnown, run_by}
use Rattle.vyrd_states.proofs.known.spec_at.Given as goal

abbrev pub invariant-loop-at : goal.invariant-loop-at
invariant-loop-at g l =
    let of = g.B.Running.Spec in
    IsKnown (g.B.Begins.charter l.fn.begins) l.fn.starting l.fn.front l.at
    (Some (run_by of.charter of.state of.made l.spec))
