use Rattle.vyrd_batch.proofs.Prelude.{◌+◌, length, ap, ◌∙◌, sym, arith, log_at, line_look}
use Rattle.vyrd_batch.proofs.RoundLaws.{cut_more, cut_rest}
use Rattle.vyrd_batch.proofs.CostLaws.{more_spans, found_cost, first_cost}
use Rattle.vyrd_batch.proofs.reader.whole_logs.Goals as goal

pub loop-rest-preserved : goal.loop-rest-preserved
loop-rest-preserved g c =
    let bytes = c.args.bytes.now in
    let place = c.args.place in
    let taken = c.loop-rest.taken in
    let rest = c.loop-rest.rest.now in
    let span = c.in-Some.span in
    let found = c.in-Some.ensures.log in
    record {
      cut = cut_more bytes c.args.log place c.loop-rest.spans.items c.push.new.self.items span taken
          c.loop-rest.invariant.cut
          (omega (arith, c.loop-rest-test.true, c.len.ensures))
          (ap (log_at (place + taken)) (sym c.loop-rest.invariant.rest_is) ∙ found.0)
          c.in_ok-push.ensures.items;
      rest_is = cut_rest bytes rest c.in-Some.next.now place taken span found.0
          c.loop-rest.invariant.rest_is found.1;
      found = more_spans bytes rest place taken c.args.steps.now c.loop-rest.steps
          c.log_at.new.steps c.loop-rest.spans.items
          c.push.new.self.items span c.loop-rest.invariant.found found.0
          c.loop-rest.invariant.rest_is c.in_ok-push.ensures.items
          c.in-Some.ensures.steps;
    }

pub returns-in_default-clause-steps : goal.returns-in_default-clause-steps
returns-in_default-clause-steps g c = λ left fresh spent is.
    found_cost c.args.bytes.now left fresh c.args.log c.args.place (length c.loop-rest.spans.items)
    c.loop-rest.taken c.args.steps.now c.loop-rest.steps c.log_at.new.steps
    c.loop-rest.invariant.found
    spent is c.loop-rest.invariant.cut.within c.loop-rest.invariant.cut.few
    (omega (arith, c.in_default.ensures.steps, ap line_look c.loop-rest.invariant.rest_is))

pub returns-in_default-clause-first : goal.returns-in_default-clause-first
returns-in_default-clause-first g c =
    first_cost c.args.bytes.now c.args.place (length c.loop-rest.spans.items) c.loop-rest.taken
    c.args.steps.now c.loop-rest.steps c.log_at.new.steps c.loop-rest.invariant.found
    c.loop-rest.invariant.cut.within
    (omega (arith, c.in_default.ensures.steps, ap line_look c.loop-rest.invariant.rest_is))

pub returns-in_default-clause-ever : goal.returns-in_default-clause-ever
returns-in_default-clause-ever g c = λ left fresh spent is.
    omega (
      arith,
      found_cost c.args.bytes.now left fresh c.args.log c.args.place
          (length c.loop-rest.spans.items) c.loop-rest.taken c.args.steps.now c.loop-rest.steps
          c.log_at.new.steps c.loop-rest.invariant.found
          spent is c.loop-rest.invariant.cut.within c.loop-rest.invariant.cut.few
          (omega (arith, c.in_default.ensures.steps, ap line_look c.loop-rest.invariant.rest_is)),
    )

pub returns-in_err-push-clause-ever : goal.returns-in_err-push-clause-ever
returns-in_err-push-clause-ever g c = λ left fresh spent is.
    omega (
      arith,
      found_cost c.args.bytes.now left fresh c.args.log c.args.place
          (length c.loop-rest.spans.items) c.loop-rest.taken c.args.steps.now c.loop-rest.steps
          c.log_at.new.steps c.loop-rest.invariant.found
          spent is c.loop-rest.invariant.cut.within c.loop-rest.invariant.cut.few
          (omega (arith, c.in-Some.ensures.steps, ap line_look c.loop-rest.invariant.rest_is)),
    )

pub returns-clause-steps : goal.returns-clause-steps
returns-clause-steps g c = λ left fresh spent is.
    found_cost c.args.bytes.now left fresh c.args.log c.args.place (length c.loop-rest.spans.items)
    c.loop-rest.taken c.args.steps.now c.loop-rest.steps c.loop-rest.steps
    c.loop-rest.invariant.found
    spent is c.loop-rest.invariant.cut.within c.loop-rest.invariant.cut.few (omega arith)

pub returns-clause-first : goal.returns-clause-first
returns-clause-first g c =
    first_cost c.args.bytes.now c.args.place (length c.loop-rest.spans.items) c.loop-rest.taken
    c.args.steps.now c.loop-rest.steps c.loop-rest.steps c.loop-rest.invariant.found
    c.loop-rest.invariant.cut.within (omega arith)

pub returns-clause-ever : goal.returns-clause-ever
returns-clause-ever g c = λ left fresh spent is.
    omega (
      arith,
      found_cost c.args.bytes.now left fresh c.args.log c.args.place
          (length c.loop-rest.spans.items) c.loop-rest.taken c.args.steps.now c.loop-rest.steps
          c.loop-rest.steps c.loop-rest.invariant.found
          spent is c.loop-rest.invariant.cut.within c.loop-rest.invariant.cut.few (omega arith),
    )
