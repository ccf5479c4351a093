use Rattle.vyrd_every.proofs.Refused as refused
use Rattle.vyrd_every.proofs.worked.lock_taken_below_another.Goals as goal

pub returns : goal.returns
returns c = refused.not_above
