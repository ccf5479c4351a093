use Rattle.vyrd_follow.proofs.Prelude.{◌≡◌, ◌++◌, map, take, Stepped}
use Rattle.vyrd_follow.proofs.following.put_steps.Given as goal

abbrev pub invariant-loop-effect : goal.invariant-loop-effect
invariant-loop-effect l =
    l.items.items ≡ l.initial.items.items ++ map (Stepped l.at) (take l.effect-index l.done)
