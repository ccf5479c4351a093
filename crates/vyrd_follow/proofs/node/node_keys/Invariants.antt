use Rattle.vyrd_follow.proofs.Prelude.{◌≢◌, ℕ, ◌+◌, ◌<◌, amount_of, node_word}
use Rattle.vyrd_follow.proofs.node.node_keys.Given as goal

abbrev pub invariant-loop-j : goal.invariant-loop-j
invariant-loop-j l =
    (j : ℕ) → j < l.j → amount_of l.keys (node_word l.words l.node (4 + j)) ≢ 0
