use Rattle.vyrd_every.proofs.Refused as refused
use Rattle.vyrd_every.proofs.worked.slot_looked_for_without_the_lock.Goals as goal

pub returns : goal.returns
returns c = refused.no_lock
