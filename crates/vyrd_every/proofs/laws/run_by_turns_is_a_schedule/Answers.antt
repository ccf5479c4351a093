use Rattle.vyrd_every.proofs.Interleaved.{run_is_schedule}
use Rattle.vyrd_every.proofs.laws.run_by_turns_is_a_schedule.Goals as goal

pub returns : goal.returns
returns c = run_is_schedule
