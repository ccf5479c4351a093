use Rattle.vyrd_follow.proofs.Prelude.{◌≡◌, ◌++◌, ℕ, List, map, take, Effect, placed_at, last_of}
use Rattle.vyrd_follow.proofs.last.noted.Given as goal

abbrev pub invariant-loop-effect : goal.invariant-loop-effect
invariant-loop-effect l = (before : List (ℕ × Effect)) → l.fn.last ≡ last_of before l.fn.told
    → l.found ≡ last_of (before ++ map (placed_at l.fn.at) (take l.effect-index l.done)) l.fn.told
