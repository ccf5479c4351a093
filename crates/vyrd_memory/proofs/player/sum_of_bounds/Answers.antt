use Rattle.vyrd_memory.proofs.Prelude.{arith, Op}
use Rattle.vyrd_base.specs.declared.subject.Method.TheVariants.{Multiset as OfMultiset}
use Rattle.vyrd_base.specs.declared.multiset.MultisetMethod.TheVariants.{Insert}
use Rattle.vyrd_memory.proofs.BoundSums.{sum_more}
use Rattle.vyrd_memory.proofs.player.sum_of_bounds.Goals as goal

-- what stands for the operation past the end
abbrev past : Op
past = record { method = OfMultiset Insert; args = record { a = 0; b = 0; c = 0 } }

pub loop-op-preserved : goal.loop-op-preserved
loop-op-preserved c = search (sum_more, past, arith)
