use Rattle.vyrd_spec.proofs.Prelude.{◌≡◌, true, list_all, numbers_below, is_sound_below}
use Rattle.vyrd_spec.proofs.nodes.Nodes.are_sound_below.Given as goal

abbrev pub invariant-loop-node : goal.invariant-loop-node
invariant-loop-node l = list_all (is_sound_below l.self.last l.self.words.now l.highest)
    (numbers_below l.node) ≡ true
