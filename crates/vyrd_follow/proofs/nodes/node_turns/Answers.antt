use Rattle.vyrd_follow.proofs.Prelude.{◌/◌, ap, ◌∙◌, amount_of, is_built_in, view_of_words}
use Rattle.vyrd_base.proofs.HeaderLaws.{some_size}
use Rattle.vyrd_follow.proofs.NodeTurnLaws.{no_turns, all_found, marks_off, marks_low, marks_on}
use Rattle.vyrd_follow.proofs.TreeLaws.{node_unturned}
use Rattle.vyrd_follow.proofs.nodes.node_turns.Goals as goal

pub returns-then-not-is_marked : goal.returns-then-not-is_marked
returns-then-not-is_marked c =
    let h = c.args.header in
    let words = c.args.words.now in
    let off = marks_off h.size c.size.result words c.in_ok-marks.marks.items c.deref.result.now
    (c.args.word / 12) c.is_marked.result c.size.ensures c.deref.ensures.value
    c.in_ok-marks.ensures.marks c.is_marked.ensures c.if-not-is_marked.true in
    c.new.ensures.items
    ∙ no_turns c.args.shown.now (view_of_words h words)
    (λ q. ap (λ s. amount_of s q) c.requires.shown
    ∙ node_unturned h c.args.word c.args.was words q c.requires.tree
    (some_size h (ap is_built_in c.requires.tree)) c.requires.unlinked off)

pub returns : goal.returns
returns c =
    let h = c.args.header in
    let words = c.args.words.now in
    let node = c.args.word / 12 in
    let marks = c.in_ok-marks.marks.items in
    let low = marks_low h.size c.size.result words marks c.deref.result.now node c.is_marked.result
    c.size.ensures c.deref.ensures.value c.in_ok-marks.ensures.marks c.is_marked.ensures
    c.in_ok-marks.ensures.count c.if-not-is_marked.false in
    let on = marks_on h.size c.size.result words marks c.deref.result.now node c.is_marked.result
    c.size.ensures c.deref.ensures.value c.in_ok-marks.ensures.marks c.is_marked.ensures
    c.in_ok-marks.ensures.count c.if-not-is_marked.false in
    all_found h c.args.word c.args.was words c.requires.tree
    (some_size h (ap is_built_in c.requires.tree)) c.requires.unlinked c.requires.within low on
    c.in_ok-keys.keys c.pairs-key-items.ensures.amounts c.in_ok-keys.ensures.was
    c.in_ok-keys.ensures.damage c.in_ok-keys.ensures.entries c.args.shown.now
    c.pairs-key-items.result.now c.loop-key.found.items c.loop-key.key-index c.requires.shown
    c.pairs-key-items.ensures.pairs c.loop-key-test.false c.loop-key.invariant
