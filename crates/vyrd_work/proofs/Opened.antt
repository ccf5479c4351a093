-- Names whose unfolding opens the definitions of a workload, so that a written-out text or a small
-- number computes.
use Rattle.vyrd_work.proofs.Prelude.{ℕ, begun_in, item_in, work_reading, generated}
use Rattle.std.specs.Fmt.{digits}

unfoldable pub opened_reading : ℕ
unfolding digits begun_in item_in work_reading
opened_reading = 0

unfoldable pub opened_generated : ℕ
unfolding generated
opened_generated = 0
