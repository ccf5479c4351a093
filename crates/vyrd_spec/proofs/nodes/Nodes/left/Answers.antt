use Rattle.std.proofs.Common.{arith, ◌∙◌}
use Rattle.vyrd_spec.proofs.NodeLaws.{left_at, many_lefts, left_in_use}
use Rattle.vyrd_spec.proofs.nodes.Nodes.left.Goals as goal

pub index-requires : goal.index-requires
index-requires = grind (arith, many_lefts)

pub returns-clause-left : goal.returns-clause-left
returns-clause-left = grind (arith, left_at)

pub returns-clause-in_use : goal.returns-clause-in_use
returns-clause-in_use c =
    let nodes = c.args.self.now in
    left_in_use nodes.last nodes.words.now c.args.node c.index.result.now
    (c.index.ensures ∙ left_at nodes.last nodes.words.now nodes.lefts.items c.args.node
    c.index.result.now nodes.each c.requires)
