use Rattle.std.proofs.Common.{arith}
use Rattle.vyrd_words.proofs.CountLaws.{pushed_small, apart_small}
use Rattle.vyrd_words.proofs.counts.Counts.push.Goals as goal

pub invariant_of-self-then-count-from : goal.invariant_of-self-then-count-from
invariant_of-self-then-count-from = grind (arith, apart_small)

pub returns-then-count-from : goal.returns-then-count-from
returns-then-count-from = grind (arith, pushed_small)
