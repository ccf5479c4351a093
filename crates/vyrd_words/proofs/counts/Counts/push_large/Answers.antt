use Rattle.std.proofs.Common.{arith, length-append}
use Rattle.vyrd_words.proofs.CountLaws.{pushed_large, apart_in-append}
use Rattle.vyrd_words.proofs.counts.Counts.push_large.Goals as goal

pub invariant_of-self-2 : goal.invariant_of-self-2
invariant_of-self-2 = grind (arith, apart_in-append, length-append)

pub returns : goal.returns
returns = grind (arith, pushed_large)
