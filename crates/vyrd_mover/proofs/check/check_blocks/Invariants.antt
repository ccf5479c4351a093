use Rattle.vyrd_mover.proofs.Prelude.{◌≡◌, take, HasTaken}
use Rattle.vyrd_mover.proofs.check.check_blocks.Given as goal

abbrev pub invariant-loop-event : goal.invariant-loop-event
invariant-loop-event l = record {
  header : l.checker.header ≡ l.fn.header;
  taken : HasTaken l.checker (take l.event-index l.history);
}
