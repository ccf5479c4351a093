use Rattle.vyrd_spec.proofs.Prelude.{sym, subst, Tree, IsAmounts, parts_of, IsAmounts-collected}
use Rattle.vyrd_spec.proofs.StartFromLaws.{no_state, a_state}
use Rattle.vyrd_spec.proofs.tree.TreeSpecBuiltIn.start_from.Goals as goal

pub invariant_of-result-clause-formed : goal.invariant_of-result-clause-formed
invariant_of-result-clause-formed c =
    subst IsAmounts (sym c.in_ok-values.ensures.values)
    (IsAmounts-collected (parts_of Tree c.size-size.result c.args.words.now))

pub returns-then-not-branch-clause-state : goal.returns-then-not-branch-clause-state
returns-then-not-branch-clause-state c =
    no_state c.args.header Tree c.args.words.now c.requires.serves c.requires.count
    (cc (c.size-size.ensures, c.in_ok-is_tree.ensures, c.if-not-branch.true))

pub returns-clause-state : goal.returns-clause-state
returns-clause-state c =
    a_state c.args.header Tree c.args.words.now c.in_ok-values.field-0 c.requires.serves
    c.requires.count
    (cc (c.size-size.ensures, c.in_ok-is_tree.ensures, c.if-not-branch.false))
    (cc (c.in_ok-values.ensures.values, c.size-size.ensures))
