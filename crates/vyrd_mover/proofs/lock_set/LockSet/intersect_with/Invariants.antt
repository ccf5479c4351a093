use Rattle.vyrd_mover.proofs.LockLaws.{IsMet}
use Rattle.vyrd_mover.proofs.lock_set.LockSet.intersect_with.Given as goal

abbrev pub invariant-loop-place : goal.invariant-loop-place
invariant-loop-place l = IsMet l.initial.self-inside.words.items l.other l.self-inside.words.items
    l.place
