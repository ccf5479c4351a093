use Rattle.std.proofs.Common.{[]}
use Rattle.vyrd_judge.proofs.OnlineLaws.{faultless_first}
use Rattle.vyrd_judge.proofs.online.Judge.begin.Goals as goal

pub invariant_of-result : goal.invariant_of-result
invariant_of-result g c = λ works none. ∣
    (c.args.start.now, [], faultless_first c.in_ok-new.ensures.taken_in) ∣₁

pub returns-clause-followed : goal.returns-clause-followed
returns-clause-followed g c = record { follows = faultless_first c.in_ok-new.ensures.taken_in }
