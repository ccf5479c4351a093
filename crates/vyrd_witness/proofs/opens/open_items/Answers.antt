use Rattle.vyrd_witness.proofs.Prelude.{[], newest_first, open_items_of}
use Rattle.vyrd_witness.proofs.BelowLaws.{below_next}
use Rattle.vyrd_witness.proofs.opens.open_items.Goals as goal

pub loop-caller-preserved : goal.loop-caller-preserved
loop-caller-preserved c = below_next (open_items_of (newest_first c.args.front.now))
    c.loop-caller.caller [] c.loop-caller.items.items c.push_open.new.items.items
    c.loop-caller.invariant c.in_ok-push_open.ensures
