use Rattle.vyrd_tree.proofs.PassLaws as passes
use Rattle.vyrd_tree.proofs.laws.insert_splits_leaf.Goals as goal
use Rattle.vyrd_memory.proofs.Small.{small_a, small_b}

pub returns : goal.returns
returns c = λ h memory state caller args is e small none full room.
    passes.insert_splits_leaf h caller args memory state is e (small_a args small)
    (small_b args small) none full room
