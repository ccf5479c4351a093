use Rattle.vyrd_every.proofs.Refused as refused
use Rattle.vyrd_every.proofs.worked.root_stored_without_its_lock.Goals as goal

pub returns : goal.returns
returns c = refused.no_root_lock
