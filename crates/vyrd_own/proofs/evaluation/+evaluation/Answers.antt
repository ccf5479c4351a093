use Rattle.vyrd_own.proofs.Prelude.{refl, ap, sym, ◌∙◌, arith, value, looked_at, expr_of}
use Rattle.vyrd_own.proofs.NodeLaws.{expr_last, expr_none, earlier_is, earlier_at, earlier_none}
use Rattle.vyrd_own.proofs.NodeLaws.{length_zero}
use Rattle.vyrd_own.proofs.LookedLaws.{looked_few}
use Rattle.vyrd_own.proofs.evaluation.+evaluation.Goals as goal

pub earlier-returns-in-Number-clause-value : goal.earlier-returns-in-Number-clause-value
earlier-returns-in-Number-clause-value g t c =
    sym (ap (value c.args.state.now c.args.values.now)
    (earlier_at c.args.front.now c.args.i _ _ c.if-i-front.true c.in-Number.is))

pub earlier-returns-in-Number-clause-looked_at : goal.earlier-returns-in-Number-clause-looked_at
earlier-returns-in-Number-clause-looked_at g t c =
    omega (
      arith,
      c.tick.ensures,
      ap (looked_at c.args.state.now c.args.values.now)
          (earlier_at c.args.front.now c.args.i _ _ c.if-i-front.true c.in-Number.is),
    )

pub earlier-returns-in-At-clause-value : goal.earlier-returns-in-At-clause-value
earlier-returns-in-At-clause-value g t c =
    c.at.ensures
    ∙ sym (ap (value c.args.state.now c.args.values.now)
    (earlier_at c.args.front.now c.args.i _ _ c.if-i-front.true c.in-At.is))

pub earlier-returns-in-At-clause-looked_at : goal.earlier-returns-in-At-clause-looked_at
earlier-returns-in-At-clause-looked_at g t c =
    omega (
      arith,
      c.tick-in-At.ensures,
      ap (looked_at c.args.state.now c.args.values.now)
          (earlier_at c.args.front.now c.args.i _ _ c.if-i-front.true c.in-At.is),
    )

pub earlier-returns-in_default : goal.earlier-returns-in_default
earlier-returns-in_default g t c =
    let is = earlier_is c.args.front.now _ c.args.i c.if-i-front.true refl in
    record {
      value = c.evaluate_counted.ensures.value
          ∙ ap (value c.args.state.now c.args.values.now) is;
      looked_at = omega (
        arith,
        c.evaluate_counted.ensures.looked_at,
        ap
            (looked_at c.args.state.now c.args.values.now) is,
      );
    }

pub earlier-returns-clause-value : goal.earlier-returns-clause-value
earlier-returns-clause-value g t c =
    sym (ap (value c.args.state.now c.args.values.now)
    (earlier_none c.args.front.now c.args.i c.if-i-front.false))

pub evaluate_counted-returns-in_default-clause-value :
    goal.evaluate_counted-returns-in_default-clause-value
evaluate_counted-returns-in_default-clause-value g t c =
    sym (ap (value c.args.state.now c.args.values.now)
    (expr_none c.args.nodes.now (length_zero c.args.nodes.now c.in_default.ensures.cases)))

pub evaluate_counted-returns-clause-value : goal.evaluate_counted-returns-clause-value
evaluate_counted-returns-clause-value g t c =
    c.node_value.ensures.value
    ∙ sym (ap (value c.args.state.now c.args.values.now)
    (expr_last c.in-Some.front.now c.args.nodes.now c.in-Some.last.now c.in-Some.ensures.cases.0))

pub evaluate_counted-returns-clause-looked_at : goal.evaluate_counted-returns-clause-looked_at
evaluate_counted-returns-clause-looked_at g t c =
    omega (
      arith,
      c.node_value.ensures.looked_at,
      ap (looked_at c.args.state.now c.args.values.now)
          (expr_last c.in-Some.front.now c.args.nodes.now c.in-Some.last.now
          c.in-Some.ensures.cases.0),
    )

pub evaluate_counted-returns-clause-steps : goal.evaluate_counted-returns-clause-steps
evaluate_counted-returns-clause-steps g t c =
    let is = expr_last c.in-Some.front.now c.args.nodes.now c.in-Some.last.now
    c.in-Some.ensures.cases.0 in
    omega (
      arith,
      c.node_value.ensures.looked_at,
      ap (looked_at c.args.state.now c.args.values.now) is,
      looked_few c.args.state.now c.args.values.now (expr_of c.args.nodes.now),
    )
