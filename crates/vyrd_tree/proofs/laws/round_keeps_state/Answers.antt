use Rattle.vyrd_tree.proofs.PassLaws as passes
use Rattle.vyrd_tree.proofs.laws.round_keeps_state.Goals as goal

pub returns : goal.returns
returns c = λ h memory state caller level key node is e hangs. passes.round_keeps_state h caller
    level key node memory state is e hangs
