use Rattle.vyrd_buffers.proofs.GiveUps as give_ups
use Rattle.vyrd_buffers.proofs.laws.append_from_gives_up.Goals as goal

pub returns : goal.returns
returns c = give_ups.append_from_gives_up
