use Rattle.vyrd_plain.proofs.Prelude.{length, accepted, Accepted}
use Rattle.vyrd_plain.proofs.counts.accepted.Goals as goal

pub returns : goal.returns
unfolding accepted
returns c = (λ i. Accepted (length c.args.entries.now) (c.commit_count.ensures i)
    (c.in_ok-observer_count.ensures i))
