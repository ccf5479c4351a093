use Rattle.std.proofs.Common.{arith}
use Rattle.vyrd_text.proofs.PartLaws.{no_caller, no_kind, entry_read}
use Rattle.vyrd_text.proofs.line.read_line.Goals as goal

pub returns-in_err-caller : goal.returns-in_err-caller
returns-in_err-caller c = rw c.from_residual.ensures
    (no_caller c.args.subject c.args.line.now c.in_err-caller.ensures)

pub returns-in_err-kind : goal.returns-in_err-kind
returns-in_err-kind c = rw c.from_residual-in_err-kind.ensures
    (no_kind c.args.subject c.args.line.now c.in_ok-caller.caller c.in_ok-caller.rest.now
    (omega (arith, c.in_ok-caller.ensures.0)) c.in_ok-caller.ensures.1 c.in_err-kind.ensures)

pub returns : goal.returns
returns c = entry_read c.args.subject c.args.line.now c.in_ok-caller.caller c.in_ok-kind.kind
    c.in_ok-caller.rest.now
    (omega (arith, c.in_ok-caller.ensures.0)) c.in_ok-caller.ensures.1 c.in_ok-kind.ensures
