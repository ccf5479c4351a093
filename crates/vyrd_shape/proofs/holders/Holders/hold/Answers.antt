use Rattle.vyrd_shape.proofs.Prelude.{◌≡◌, ◌<◌, ◌∙◌, sym, length, get_or, get_or_read}
use Rattle.vyrd_shape.proofs.ChainLaws.{linked_hold}
use Rattle.vyrd_shape.proofs.holders.Holders.hold.Goals as goal

pub invariant_of-self : goal.invariant_of-self
invariant_of-self c =
    let s = c.self.inside in
    let low : c.args.word < length s.by_word.items = rw (← c.self.view_is) at c.requires.word in
    let low_c : c.args.caller < length s.firsts.items =
    rw (← c.self.view_is) at c.requires.caller in
    let free : get_or s.by_word.items c.args.word 0
    ≡ 0 = sym (get_or_read s.by_word.items _ _ low c.index.ensures 0) ∙ c.if-index-eq0.true in
    let before = get_or_read s.firsts.items _ _ low_c c.index-then-index-eq0.ensures 0 in
    rw before (linked_hold s.by_word.items s.links.items s.firsts.items c.args.caller c.args.word
    low low_c free c.self.invariant)
