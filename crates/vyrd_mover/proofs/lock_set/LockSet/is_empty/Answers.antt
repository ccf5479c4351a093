use Rattle.vyrd_mover.proofs.Prelude.{arith, has_lock}
use Rattle.vyrd_mover.proofs.LockLaws.{has_none, word_is_0}
use Rattle.vyrd_mover.proofs.lock_set.LockSet.is_empty.Goals as goal

pub loop-word-init : goal.loop-word-init
loop-word-init c = grind arith

pub returns-then-word-ne0-clause-some : goal.returns-then-word-ne0-clause-some
returns-then-word-ne0-clause-some = grind (arith, word_is_0, has_lock)

pub returns-clause-none : goal.returns-clause-none
returns-clause-none = grind (arith, has_lock, has_none)
