use Rattle.vyrd_tree.proofs.GiveUps as rooms
use Rattle.vyrd_tree.proofs.laws.insert_gives_up.Goals as goal
use Rattle.vyrd_memory.proofs.Small.{small_a, small_b}

pub returns : goal.returns
returns c = λ h memory state caller args is e small. rooms.insert_gives_up h memory state caller
    args.a args.b is e
    (small_a args small) (small_b args small)
