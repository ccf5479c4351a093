use Rattle.vyrd_buffers.proofs.GiveUps as give_ups
use Rattle.vyrd_buffers.proofs.laws.cut_never_gives_up.Goals as goal

pub returns : goal.returns
returns c = give_ups.cut_never_gives_up
