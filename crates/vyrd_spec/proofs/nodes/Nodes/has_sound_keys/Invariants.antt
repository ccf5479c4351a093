use Rattle.vyrd_spec.proofs.Prelude.{◌≡◌, true, list_all, numbers_below, is_sound_key}
use Rattle.vyrd_spec.proofs.nodes.Nodes.has_sound_keys.Given as goal

abbrev pub invariant-loop-place : goal.invariant-loop-place
invariant-loop-place l = list_all (is_sound_key l.self.last l.self.words.now l.node)
    (numbers_below l.place) ≡ true
