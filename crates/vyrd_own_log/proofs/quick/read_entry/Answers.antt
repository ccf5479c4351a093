use Rattle.vyrd_own_log.proofs.Prelude.{length, rules, nat_le, written, second_true}
use Rattle.vyrd_own_log.proofs.EntryLaws.{AllCallable}
use Rattle.vyrd_own_log.proofs.QuickLaws.{entry_at_front}
use Rattle.vyrd_own_log.proofs.quick.read_entry.Goals as goal

pub returns : goal.returns
returns c =
    let w = written c.args.program.now in
    let all : AllCallable w = second_true (nat_le (length w.methods) 64) _ c.requires in
    entry_at_front w all c.args.text.now c.in_ok-caller.rest.now c.in_ok-kind.rest.now
    c.in_ok-caller.caller c.in_ok-kind.kind (search rules)
    c.in_ok-caller.ensures c.in_ok-kind.ensures
