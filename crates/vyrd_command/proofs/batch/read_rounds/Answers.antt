use Rattle.vyrd_command.proofs.Prelude.{◌+◌, ◌-◌, arith, false, reads_in_row, longest_batch_input}
use Rattle.vyrd_command.proofs.BatchLaws.{reading_more, reading_judged, few_read, since_more}
use Rattle.vyrd_command.proofs.BatchLaws.{steps_for}
use Rattle.vyrd_command.proofs.batch.read_rounds.Goals as goal

pub returns-in_err-next-clause-few : goal.returns-in_err-next-clause-few
returns-in_err-next-clause-few g c =
    let before = g.S.Source.known c.args.source.now in
    let between = g.S.Source.known c.loop-count.source in
    let after = g.S.Source.known c.read_more.new.source in
    let more = c.in_ok-n.ensures.more in
    let many = c.loop-count.count + c.in_ok-n.n in
    few_read before after c.loop-count.judge c.read_more.new.bytes.items many
    (reading_more before between after c.loop-count.judge c.loop-count.bytes.items
    c.read_more.new.bytes.items c.loop-count.count c.in_ok-n.n
    (longest_batch_input - c.loop-count.count) c.loop-count.invariant.reading more)
    (omega (arith, more.few, c.loop-count.invariant.few))

pub returns-in_err-next-clause-steps : goal.returns-in_err-next-clause-steps
returns-in_err-next-clause-steps g c =
    let before = g.S.Source.known c.args.source.now in
    let between = g.S.Source.known c.loop-count.source in
    let after = g.S.Source.known c.read_more.new.source in
    let more = c.in_ok-n.ensures.more in
    let many = c.loop-count.count + c.in_ok-n.n in
    let most = longest_batch_input - c.loop-count.count in
    let p = c.loop-count.invariant.paid in
    let since = since_more between after c.loop-count.judge c.loop-count.bytes.items
    c.read_more.new.bytes.items c.loop-count.next p.0 c.in_ok-n.n
    most p.1 more in
    steps_for before after c.loop-count.judge c.read_more.new.bytes.items many c.args.steps.now
    c.judge_round.new.steps
    (reading_more before between after c.loop-count.judge c.loop-count.bytes.items
    c.read_more.new.bytes.items c.loop-count.count c.in_ok-n.n
    most c.loop-count.invariant.reading more)
    (omega (arith, more.few, c.loop-count.invariant.few))
    (omega (arith, c.judge_round.ensures.steps (p.0 + c.in_ok-n.n) since, p.2))

pub loop-count-preserved : goal.loop-count-preserved
loop-count-preserved g c =
    let before = g.S.Source.known c.args.source.now in
    let between = g.S.Source.known c.loop-count.source in
    let after = g.S.Source.known c.read_more.new.source in
    let more = c.in_ok-n.ensures.more in
    let many = c.loop-count.count + c.in_ok-n.n in
    let p = c.loop-count.invariant.paid in
    let round = c.in_ok-next.ensures.paid (p.0 + c.in_ok-n.n)
    (since_more between after c.loop-count.judge c.loop-count.bytes.items
    c.read_more.new.bytes.items c.loop-count.next p.0 c.in_ok-n.n
    (longest_batch_input - c.loop-count.count) p.1 more) in
    record {
      reading = reading_judged before after c.loop-count.judge c.judge_round.new.judge
          c.read_more.new.bytes.items c.judge_round.new.bytes.items many
          (reading_more before between after c.loop-count.judge c.loop-count.bytes.items
          c.read_more.new.bytes.items c.loop-count.count c.in_ok-n.n
          (longest_batch_input - c.loop-count.count) c.loop-count.invariant.reading more)
          c.in_ok-next.ensures.judged;
      few = omega (arith, more.few, c.loop-count.invariant.few);
      unended = more.goes_on (omega (arith, c.if-n-eq0.false));
      source = reads_in_row false before between after c.loop-count.invariant.source
          c.in_ok-n.ensures.source;
      paid = (round.0, round.1, omega (arith, round.2, p.2));
    }
