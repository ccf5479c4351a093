use Rattle.std.proofs.Common.{◌≡◌, ◌<◌, ◌+◌, ◌++◌, arith, length, take, drop, map}
use Rattle.std.proofs.lemmas.Grind.{common_steps}
use Rattle.vyrd_shape.specs.Holding.{released}
use Rattle.vyrd_shape.proofs.ChainLaws.{linked_release}
use Rattle.vyrd_shape.proofs.holders.Holders.release.Goals as goal

pub invariant_of-self : goal.invariant_of-self
invariant_of-self g c =
    let s = c.self.inside in
    let low_c : c.args.caller < length s.firsts.items = rw (← c.self.view_is) at c.requires in
    let linked = linked_release s.by_word.items s.links.items s.firsts.items c.args.caller low_c
    c.self.invariant in
    let same : take s.by_word.len
    (c.release_linked.new.by_word ++ drop (length c.release_linked.new.by_word) s.by_word.items)
    ≡ map (released (c.args.caller + 1)) s.by_word.items = grind (arith, common_steps) in
    rw same linked
