-- One name whose unfolding opens the definitions of a batch, so that what written-out bytes say
-- computes.
use Rattle.vyrd_batch.proofs.Prelude.{ℕ, logs_from, batch_reading}
use Rattle.std.specs.Fmt.{digits}

unfoldable pub opened_batch : ℕ
unfolding digits logs_from batch_reading
opened_batch = 0
