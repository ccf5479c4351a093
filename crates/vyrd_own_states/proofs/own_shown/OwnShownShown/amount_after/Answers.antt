use Rattle.std.proofs.Common.{arith}
use Rattle.vyrd_own_states.proofs.OwnShownLaws.{are_whole, whole_seen}
use Rattle.vyrd_own_states.proofs.OwnAfterLaws.{behind_whole, among_whole}
use Rattle.vyrd_own_states.proofs.own_shown.OwnShownShown.amount_after.Goals as goal

pub returns-then-word-whole : goal.returns-then-word-whole
returns-then-word-whole c =
    let known = are_whole c.self.view_is c.self.invariant.0 c.requires.count
    c.self.inside.parts.width_is c.self.invariant.2 c.parts.ensures c.width.ensures in
    behind_whole known c.args.key c.args.word c.args.was c.args.before c.requires.before
    (omega (arith, c.if-word-whole.true))

pub amount_after-requires-clause-before : goal.amount_after-requires-clause-before
amount_after-requires-clause-before c =
    let known = are_whole c.self.view_is c.self.invariant.0 c.requires.count
    c.self.inside.parts.width_is c.self.invariant.2 c.parts.ensures c.width.ensures in
    among_whole known c.args.key c.args.word c.args.was c.args.before c.requires.before
    (omega (arith, c.if-word-whole.false))

pub returns : goal.returns
returns = grind (arith, whole_seen)
