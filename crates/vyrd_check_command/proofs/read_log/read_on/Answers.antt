use Rattle.std.proofs.Common.{refl, arith, false}
use Rattle.vyrd_base.proofs.DeviceLaws.{no_read, reads_in_row}
use Rattle.vyrd_check_command.proofs.PieceLaws.{rounds_end}
use Rattle.vyrd_check_command.proofs.CountedLaws.{counting_starts}
use Rattle.vyrd_check_command.proofs.read_log.read_on.Goals as goal

pub loop-round-init : goal.loop-round-init
loop-round-init g c = record {
  counting = counting_starts c.args.checker.now.max_lines (g.S.Source.known c.args.source.now)
      c.args.checker.now c.args.steps.now refl c.requires.fresh c.requires.owed c.requires.unended;
  buffer = c.requires.room;
  source = no_read (g.S.Source.known c.args.source.now);
}

pub loop-round-preserved : goal.loop-round-preserved
loop-round-preserved g c = record {
  counting = rw c.in_default.is at
      (c.in_ok-verdict.ensures.counting c.args.checker.now.max_lines
      (g.S.Source.known c.args.source.now) c.loop-round.round c.args.steps.now c.requires.limit
      c.loop-round.invariant.counting);
  buffer = omega (arith, c.read_piece.auto.buffer, c.loop-round.invariant.buffer);
  source = reads_in_row false (g.S.Source.known c.args.source.now)
      (g.S.Source.known c.loop-round.source) (g.S.Source.known c.read_piece.new.source)
      c.loop-round.invariant.source c.in_ok-verdict.ensures.source;
}

pub unreachable-requires : goal.unreachable-requires
unreachable-requires g c =
    let few = rounds_end c.args.checker.now.max_lines (g.S.Source.known c.args.source.now)
    (g.S.Source.known c.loop-round.source) c.loop-round.checker c.loop-round.round
    c.requires.limit c.loop-round.invariant.counting.checking in
    omega (arith, few, c.loop-round-test.false)

pub returns-in_err-verdict-clause-no_further : goal.returns-in_err-verdict-clause-no_further
returns-in_err-verdict-clause-no_further g c =
    c.in_err-verdict.ensures.no_further c.args.checker.now.max_lines
    (g.S.Source.known c.args.source.now) c.loop-round.round c.requires.limit
    c.loop-round.invariant.counting.checking

pub returns-in-Some-clause-no_further : goal.returns-in-Some-clause-no_further
returns-in-Some-clause-no_further g c =
    c.in_ok-verdict.ensures.no_further c.args.checker.now.max_lines
    (g.S.Source.known c.args.source.now) c.loop-round.round c.requires.limit
    c.loop-round.invariant.counting.checking

pub returns-in-Some-clause-reached : goal.returns-in-Some-clause-reached
returns-in-Some-clause-reached g c =
    rw c.in-Some.is at
    (c.in_ok-verdict.ensures.reached c.args.checker.now.max_lines
    (g.S.Source.known c.args.source.now) c.loop-round.round c.requires.limit
    c.loop-round.invariant.counting.checking)

pub returns-in-Some-clause-steps : goal.returns-in-Some-clause-steps
returns-in-Some-clause-steps g c =
    rw c.in-Some.is at
    (c.in_ok-verdict.ensures.counted c.args.checker.now.max_lines
    (g.S.Source.known c.args.source.now) c.loop-round.round c.args.steps.now c.requires.limit
    c.loop-round.invariant.counting)
