use Rattle.vyrd_command.proofs.Prelude.{◌≤◌, ◌+◌, ◌*◌, length, arith, round_bytes}
use Rattle.vyrd_command.proofs.BatchLaws.{round_paid, since_none}
use Rattle.vyrd_command.proofs.batch.judge_round.Goals as goal

pub returns-clause-paid : goal.returns-clause-paid
returns-clause-paid g c = λ count s.
    let steps : c.judge_counted.new.steps ≤ c.args.steps.now + 4 * count =
    round_paid c.args.judge.now c.args.bytes.now.items c.args.next count c.args.steps.now
    c.judge_counted.new.steps s
    (omega (arith, c.len.ensures, c.if-len-next.false))
    (c.judge_counted.ensures.steps s.left s.fresh s.spent s.bytes_are) in
    let late : length c.judge_counted.new.bytes.items + round_bytes ≤ c.saturating_add.result =
    omega (arith, c.saturating_add.ensures, c.len-2.ensures, c.in_ok-judge_counted.ensures.short) in (
      0,
      since_none c.judge_counted.new.self c.judge_counted.new.bytes.items c.saturating_add.result
          c.in_ok-judge_counted.ensures.spent late,
      omega (arith, steps),
    )
