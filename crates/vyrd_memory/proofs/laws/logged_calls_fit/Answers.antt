use Rattle.vyrd_memory.proofs.LoggedCalls.{calls_fit}
use Rattle.vyrd_memory.proofs.laws.logged_calls_fit.Goals as goal

pub returns : goal.returns
returns c = calls_fit
