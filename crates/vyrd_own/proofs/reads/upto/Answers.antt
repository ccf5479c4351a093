use Rattle.std.proofs.Common.{refl, ◌∙◌, sym}
use Rattle.vyrd_own.proofs.NodeLaws.{expr_none, earlier_is, earlier_none}
use Rattle.vyrd_own.proofs.reads.upto.Goals as goal

pub returns-then-i-front-clause-is : goal.returns-then-i-front-clause-is
returns-then-i-front-clause-is c = earlier_is c.args.front.now _ c.args.i c.if-i-front.true refl

pub returns-clause-is : goal.returns-clause-is
returns-clause-is c =
    expr_none _ refl ∙ sym (earlier_none c.args.front.now c.args.i c.if-i-front.false)
