use Rattle.vyrd_cache.proofs.GiveUps as give_ups
use Rattle.vyrd_cache.proofs.laws.never_gives_up.Goals as goal

pub returns : goal.returns
returns c = give_ups.never_gives_up
