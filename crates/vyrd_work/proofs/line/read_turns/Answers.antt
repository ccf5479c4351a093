use Rattle.std.proofs.Common.{arith, sym}
use Rattle.vyrd_work.proofs.ItemLaws.{no_count, bad_count}
use Rattle.vyrd_work.proofs.line.read_turns.Goals as goal

pub returns-in_err-count : goal.returns-in_err-count
returns-in_err-count = grind (arith, no_count)

pub returns-then-not-is_count : goal.returns-then-not-is_count
returns-then-not-is_count c =
    bad_count c.args.text.now c.in_ok-caller.caller c.in_ok-caller.rest.now
    (omega (arith, c.in_ok-caller.ensures.0)) c.in_ok-caller.ensures.1
    c.in_ok-count.count (omega arith) c.in_ok-count.ensures (sym c.if-not-is_count.ensures)
