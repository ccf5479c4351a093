use Rattle.vyrd_own_text.proofs.Prelude.{ap, ◌∙◌, arith, earlier, exprs_of}
use Rattle.vyrd_own_text.proofs.GrowthLaws.{expr_of-last}
use Rattle.vyrd_own_text.proofs.expression.last.Goals as goal

pub returns-clause-number : goal.returns-clause-number
returns-clause-number c =
    ap (earlier (exprs_of c.args.nodes.now.items)) (omega arith)
    ∙ expr_of-last c.args.nodes.now.items
