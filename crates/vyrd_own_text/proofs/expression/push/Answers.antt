use Rattle.vyrd_own_text.proofs.Prelude.{ap, ◌∙◌, subst, sym, expr_of, Adds}
use Rattle.vyrd_own_text.proofs.GrowthLaws.{expr_of-snoc, Adds-snoc}
use Rattle.vyrd_own_text.proofs.expression.push.Goals as goal

pub returns-clause-expr : goal.returns-clause-expr
returns-clause-expr c = ap expr_of c.in_ok-push.ensures.items
    ∙ expr_of-snoc c.args.nodes.now.items c.args.node

pub returns-clause-adds : goal.returns-clause-adds
returns-clause-adds c = subst (Adds c.args.nodes.now.items) (sym c.in_ok-push.ensures.items)
    (Adds-snoc c.args.nodes.now.items c.args.node)
