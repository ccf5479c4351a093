use Rattle.vyrd_witness.proofs.Prelude.{newest_first, held_by}
use Rattle.vyrd_witness.proofs.BelowLaws.{below_next}
use Rattle.vyrd_witness.proofs.races.push_held.Goals as goal

pub loop-other-preserved : goal.loop-other-preserved
loop-other-preserved c =
    below_next (held_by c.args.caller c.args.word (newest_first c.args.front.now))
    c.loop-other.other c.args.items.now.items c.loop-other.items.items
    c.push_held_by.new.items.items c.loop-other.invariant c.in_ok-push_held_by.ensures
