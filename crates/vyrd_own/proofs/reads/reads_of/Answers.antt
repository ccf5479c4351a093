use Rattle.vyrd_own.proofs.Prelude.{ap, sym, ◌∙◌, value, exprs_of, expr_at, reads_of}
use Rattle.vyrd_own.specs.declared.reads.Reads.TheVariants.{Shown, Hidden}
use Rattle.vyrd_own.proofs.NodeLaws.{expr_last, expr_none, length_zero}
use Rattle.vyrd_own.proofs.ReadLaws.{reads_nothing}
use Rattle.vyrd_own.proofs.reads.reads_of.Goals as goal

pub returns-in_default : goal.returns-in_default
returns-in_default c =
    let empty = length_zero c.args.nodes.now c.in_default.ensures.cases in
    sym (ap (reads_of c.args.state.now c.args.values.now) (expr_none c.args.nodes.now empty))

pub returns-in-Shown : goal.returns-in-Shown
returns-in-Shown c =
    let s = c.args.state.now in
    let values = c.args.values.now in
    let front = c.in-Some.front.now in
    let is = expr_last front c.args.nodes.now c.in-Some.last.now c.in-Some.ensures.cases.0 in
    ap Shown (c.evaluate.ensures ∙ ap (value s values) c.upto.ensures.is)
    ∙ sym (ap (reads_of s values) (is ∙ ap (expr_at (exprs_of front)) c.in-Shown.is))

pub returns-in-Hidden : goal.returns-in-Hidden
returns-in-Hidden c =
    let s = c.args.state.now in
    let values = c.args.values.now in
    let front = c.in-Some.front.now in
    let is = expr_last front c.args.nodes.now c.in-Some.last.now c.in-Some.ensures.cases.0 in
    ap Hidden (c.evaluate-in-Hidden.ensures ∙ ap (value s values) c.upto-in-Hidden.ensures.is)
    ∙ sym (ap (reads_of s values) (is ∙ ap (expr_at (exprs_of front)) c.in-Hidden.is))

pub returns-in_default-last : goal.returns-in_default-last
returns-in_default-last c =
    let s = c.args.state.now in
    let values = c.args.values.now in
    let front = c.in-Some.front.now in
    let is = expr_last front c.args.nodes.now c.in-Some.last.now c.in-Some.ensures.cases.0 in
    sym (ap (reads_of s values) is
    ∙ reads_nothing s values (exprs_of front) c.in-Some.last.now c.in_default-last.not-Shown
    c.in_default-last.not-Hidden)
