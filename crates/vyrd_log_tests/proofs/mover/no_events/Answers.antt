use Rattle.std.proofs.Common.{refl}
use Rattle.vyrd_base.specs.Histories.{is_legal}
use Rattle.vyrd_log_tests.proofs.mover.no_events.Goals as goal

pub check_blocks-requires : goal.check_blocks-requires
unfolding is_legal
check_blocks-requires g c = refl
