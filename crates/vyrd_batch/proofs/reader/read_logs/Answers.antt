use Rattle.std.proofs.Common.{◌≡◌, ◌+◌, true, false, length, refl, arith}
use Rattle.vyrd_batch.specs.Batches.{most_logs, logs_from}
use Rattle.vyrd_batch.proofs.LogFacts.{found_none, found_more, found_all, found_too_many}
use Rattle.vyrd_batch.proofs.LogFacts.{found_no_log}
use Rattle.vyrd_batch.proofs.CostLaws.{framed, look_within}
use Rattle.vyrd_batch.proofs.reader.read_logs.Goals as goal

pub loop-rest-init : goal.loop-rest-init
loop-rest-init g c = record {
  found = found_none c.args.first c.args.bytes.now c.new-spans.result.items
      c.new-spans.ensures.items;
  steps = omega arith;
}

pub returns-then-log-eq-MOST_LOGS-clause-refused :
    goal.returns-then-log-eq-MOST_LOGS-clause-refused
returns-then-log-eq-MOST_LOGS-clause-refused g c = λ log is.
    found_too_many (logs_from most_logs 0 c.args.first c.args.bytes.now)
    (c.args.first + length c.args.bytes.now) c.loop-rest.spans.items c.loop-rest.place log
    c.loop-rest.rest.now c.loop-rest.invariant.found
    (λ e. let x : false ≡ true = c.loop-rest-test.ensures.1 e in cc)
    (omega (arith, c.len-log.ensures, c.if-log-eq-MOST_LOGS.true))
    (let same : c.len-log.result ≡ log = cc in omega (arith, c.len-log.ensures, same))

pub returns-in_default-clause-refused : goal.returns-in_default-clause-refused
returns-in_default-clause-refused g c = λ log is.
    found_no_log (logs_from most_logs 0 c.args.first c.args.bytes.now)
    (c.args.first + length c.args.bytes.now) c.loop-rest.spans.items c.loop-rest.place log
    c.loop-rest.rest.now c.loop-rest.invariant.found
    (λ e. let x : false ≡ true = c.loop-rest-test.ensures.1 e in cc)
    (λ e. c.if-log-eq-MOST_LOGS.false (omega (arith, c.len-log.ensures, e)))
    c.in_default.ensures.log
    (let same : c.len-log.result ≡ log = cc in omega (arith, c.len-log.ensures, same))

pub loop-rest-preserved : goal.loop-rest-preserved
loop-rest-preserved g c =
    let found = c.in-Some.ensures.log in
    let f = framed c.loop-rest.place c.loop-rest.rest.now c.in-Some.span found.0 in
    record {
      found = found_more (logs_from most_logs 0 c.args.first c.args.bytes.now)
          (c.args.first + length c.args.bytes.now) c.loop-rest.spans.items c.keep.new.spans.items
          c.in-Some.span c.loop-rest.place c.loop-rest.rest.now c.in-Some.next.now
          c.loop-rest.invariant.found
          (omega (
            arith,
            c.loop-rest.invariant.found.few,
            c.len-log.ensures,
            c.if-log-eq-MOST_LOGS.false,
          ))
          (λ e. let x : false ≡ true = c.loop-rest-test.ensures.1 e in cc) found.0 found.1 found.3
          found.4
          c.in_ok-keep.ensures;
      steps = omega (arith, c.loop-rest.invariant.steps, c.in-Some.ensures.steps, found.4, f.past);
    }

pub returns-clause-spans : goal.returns-clause-spans
returns-clause-spans g c =
    found_all (logs_from most_logs 0 c.args.first c.args.bytes.now)
    (c.args.first + length c.args.bytes.now) c.loop-rest.spans.items c.loop-rest.place
    c.loop-rest.rest.now c.loop-rest.invariant.found (c.loop-rest-test.ensures.0 refl)

pub returns-in_default-clause-steps : goal.returns-in_default-clause-steps
returns-in_default-clause-steps g c =
    omega (
      arith,
      c.loop-rest.invariant.steps,
      c.in_default.ensures.steps,
      look_within
          c.loop-rest.rest.now,
    )
