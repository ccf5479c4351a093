use Rattle.vyrd_spec.proofs.RowAmounts.{HasBelow}
use Rattle.vyrd_spec.proofs.row.row_shown.Given as goal

abbrev pub invariant-loop-key : goal.invariant-loop-key
invariant-loop-key l = HasBelow l.row l.key l.view
