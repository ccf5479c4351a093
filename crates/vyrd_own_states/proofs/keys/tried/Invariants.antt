use Rattle.vyrd_own_states.proofs.Prelude.{◌≡◌, [], ◌∷◌, map, drop, each_once}
use Rattle.vyrd_own_states.proofs.keys.tried.Given as goal

abbrev pub invariant-loop-worth : goal.invariant-loop-worth
invariant-loop-worth l =
    each_once l.replies.items (map (λ worth. worth.value) (drop l.worth-index l.worths))
    ≡ each_once (0 ∷ 1 ∷ 2 ∷ []) (map (λ worth. worth.value) l.worths)
