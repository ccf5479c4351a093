use Rattle.vyrd_follow.proofs.Prelude.{◌≡◌, take, view_of_words}
use Rattle.vyrd_follow.proofs.NodeTurnLaws.{turns_among}
use Rattle.vyrd_follow.proofs.nodes.node_turns.Given as goal

abbrev pub invariant-loop-key : goal.invariant-loop-key
invariant-loop-key l = l.found.items
    ≡ turns_among l.shown (view_of_words l.fn.header l.words) (take l.key-index l.key-items)
