use Rattle.vyrd_spec.proofs.Prelude.{◌+◌, ◌∙◌, sym, is_sound_below}
use Rattle.vyrd_spec.proofs.RowLaws.{one_fails, passes_more}
use Rattle.vyrd_spec.proofs.nodes.Nodes.are_sound_below.Goals as goal

pub returns-then-not-is_sound_below : goal.returns-then-not-is_sound_below
returns-then-not-is_sound_below c =
    let nodes = c.args.self.now in
    sym (one_fails (is_sound_below nodes.last nodes.words.now c.args.highest)
    (nodes.last + 1) c.loop-node.node c.loop-node-test.true
    (sym c.is_sound_below.ensures ∙ c.if-not-is_sound_below.true))

pub loop-node-preserved : goal.loop-node-preserved
loop-node-preserved c =
    let nodes = c.args.self.now in
    passes_more (is_sound_below nodes.last nodes.words.now c.args.highest) c.loop-node.node
    c.loop-node.invariant
    (sym c.is_sound_below.ensures ∙ c.if-not-is_sound_below.false)
