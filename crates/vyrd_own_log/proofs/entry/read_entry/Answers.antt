use Rattle.vyrd_own_log.proofs.Prelude.{arith, length, nat_le, written, second_true}
use Rattle.vyrd_own_log.proofs.EntryLaws.{AllCallable, no_caller, no_kind, entry_read}
use Rattle.vyrd_own_log.proofs.entry.read_entry.Goals as goal

pub returns-in_err-caller : goal.returns-in_err-caller
returns-in_err-caller c =
    let w = written c.args.program.now in
    let all : AllCallable w = second_true (nat_le (length w.methods) 64) _ c.requires in
    rw c.from_residual.ensures (no_caller w c.args.line.now all c.in_err-caller.ensures)

pub returns-in_err-kind : goal.returns-in_err-kind
returns-in_err-kind c =
    let w = written c.args.program.now in
    let all : AllCallable w = second_true (nat_le (length w.methods) 64) _ c.requires in
    rw c.from_residual-in_err-kind.ensures
    (no_kind w c.args.line.now all c.in_ok-caller.caller c.in_ok-caller.rest.now
    (omega (arith, c.in_ok-caller.ensures.0)) c.in_ok-caller.ensures.1 c.in_err-kind.ensures)

pub returns : goal.returns
returns c =
    let w = written c.args.program.now in
    let all : AllCallable w = second_true (nat_le (length w.methods) 64) _ c.requires in
    entry_read w c.args.line.now all c.in_ok-caller.caller c.in_ok-kind.kind c.in_ok-caller.rest.now
    (omega (arith, c.in_ok-caller.ensures.0)) c.in_ok-caller.ensures.1 c.in_ok-kind.ensures
