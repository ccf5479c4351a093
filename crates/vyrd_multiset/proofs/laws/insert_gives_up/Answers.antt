use Rattle.vyrd_multiset.proofs.GiveUps as give_ups
use Rattle.vyrd_multiset.proofs.laws.insert_gives_up.Goals as goal

pub returns : goal.returns
returns c = give_ups.insert_gives_up
