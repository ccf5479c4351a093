use Rattle.vyrd_own_text.proofs.Prelude.{◌∙◌, sym, ◌-◌, scope_of, expr_read}
use Rattle.vyrd_own_text.proofs.WholeLaws.{expr_whole, moved, whole_round, whole_square}
use Rattle.vyrd_own_text.proofs.WholeLaws.{whole_curly, whole_atom}
use Rattle.vyrd_own_text.proofs.expression.+expr.Goals as goal

pub read_expr-returns-in-Some-clause-read : goal.read_expr-returns-in-Some-clause-read
read_expr-returns-in-Some-clause-read t c =
    moved c.read_round.result _ _ _
    (sym (expr_whole (scope_of c.args.names.now) c.args.depth c.args.text.now c.if-depth-eq0.false
    ∙ whole_round (expr_read (scope_of c.args.names.now) (c.args.depth - 1))
    (scope_of c.args.names.now) c.args.text.now c.in-Some.rest.now c.in-Some.ensures))
    c.read_round.ensures.read

pub read_expr-returns-in-Some-after-clause-read : goal.read_expr-returns-in-Some-after-clause-read
read_expr-returns-in-Some-after-clause-read t c =
    moved c.read_of_state.result _ _ _
    (sym (expr_whole (scope_of c.args.names.now) c.args.depth c.args.text.now c.if-depth-eq0.false
    ∙ whole_square (expr_read (scope_of c.args.names.now) (c.args.depth - 1))
    (scope_of c.args.names.now) c.args.text.now c.in-Some-after.rest.now
    c.in_default.ensures c.in-Some-after.ensures))
    c.read_of_state.ensures.read

pub read_expr-returns-in-Some-after-2-clause-read :
    goal.read_expr-returns-in-Some-after-2-clause-read
read_expr-returns-in-Some-after-2-clause-read t c =
    moved c.read_of_state-in-Some-after-2.result _ _ _
    (sym (expr_whole (scope_of c.args.names.now) c.args.depth c.args.text.now c.if-depth-eq0.false
    ∙ whole_curly (expr_read (scope_of c.args.names.now) (c.args.depth - 1))
    (scope_of c.args.names.now) c.args.text.now c.in-Some-after-2.rest.now
    c.in_default.ensures c.in_default-after.ensures c.in-Some-after-2.ensures))
    c.read_of_state-in-Some-after-2.ensures.read

pub read_expr-returns-clause-read : goal.read_expr-returns-clause-read
read_expr-returns-clause-read t c =
    moved c.read_atom.result _ _ _
    (sym (expr_whole (scope_of c.args.names.now) c.args.depth c.args.text.now c.if-depth-eq0.false
    ∙ whole_atom (expr_read (scope_of c.args.names.now) (c.args.depth - 1))
    (scope_of c.args.names.now) c.args.text.now c.args.text.now
    c.in_default.ensures c.in_default-after.ensures c.in_default-after-2.ensures))
    c.read_atom.ensures.read
