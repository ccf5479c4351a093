use Rattle.vyrd_every.proofs.Refused as refused
use Rattle.vyrd_every.proofs.worked.lock_given_back_before_the_writes.Goals as goal

pub returns : goal.returns
returns c = refused.lock_too_early
