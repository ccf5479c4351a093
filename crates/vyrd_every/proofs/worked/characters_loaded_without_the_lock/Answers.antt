use Rattle.vyrd_every.proofs.Refused as refused
use Rattle.vyrd_every.proofs.worked.characters_loaded_without_the_lock.Goals as goal

pub returns : goal.returns
returns c = refused.no_source_lock
