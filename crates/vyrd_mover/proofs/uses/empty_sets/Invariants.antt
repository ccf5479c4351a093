use Rattle.vyrd_mover.proofs.Prelude.{◌≡◌, replicate, words_for}
use Rattle.vyrd_mover.proofs.uses.empty_sets.Given as goal

abbrev pub invariant-loop : goal.invariant-loop
invariant-loop l = l.sets.items ≡ replicate l.counter (replicate (words_for l.locks) 0)
