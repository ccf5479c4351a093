use Rattle.vyrd_shadow.proofs.Prelude.{None, get_or_read}
use Rattle.vyrd_shadow.proofs.PlacedLaws.{pushed_read}
use Rattle.vyrd_shadow.proofs.blocks.Blocks.push.Goals as goal

pub invariant_of-self-2 : goal.invariant_of-self-2
invariant_of-self-2 c = let s = c.self.inside in
    let low = rw (← c.self.view_is) at c.requires.caller in
    let read = get_or_read s.blocks.items c.args.caller c.index_mut-block.result.now low
    c.index_mut-block.ensures.value None in
    pushed_read s.blocks.items s.holders.items c.reach.new.holders.items c.args.caller c.args.word
    c.args.value c.len-place.result
    c.index_mut-block.result.now c.push.new.self low c.self.invariant c.reach.ensures.same
    c.in_ok-reach.ensures.reached
    (rw (← c.self.view_is) at c.requires.new) read c.len-place.ensures c.in_ok-push.ensures.ok
