use Rattle.vyrd_memory.proofs.Prelude.{sym, subst, LeavesOut, stage}
use Rattle.vyrd_memory.proofs.UnfinishedLaws.{round_shown, callers_below, still_left_out}
use Rattle.vyrd_memory.proofs.turns.round.Goals as goal

pub turn_each-requires-clause-callers : goal.turn_each-requires-clause-callers
turn_each-requires-clause-callers g c =
    callers_below g.M.Machine.script c.args.machines.now c.deref.result.now
    (subst (LeavesOut g.M.Machine.script c.args.machines.now) (sym c.deref.ensures.value)
    c.requires.left_out)

pub returns-in_ok-callers-clause-shown : goal.returns-in_ok-callers-clause-shown
returns-in_ok-callers-clause-shown g c =
    round_shown c.args.header.now g.M.Machine.header_of g.M.Machine.script g.S.EventSink.has_taken
    c.deref.result.now
    (stage c.args.machines.now c.args.words.now.items c.args.sink.now)
    (stage c.turn_each.new.machines c.turn_each.new.words.items c.turn_each.new.sink)
    (subst (LeavesOut g.M.Machine.script c.args.machines.now) (sym c.deref.ensures.value)
    c.requires.left_out)
    c.in_ok-turned.ensures.shown

pub returns-else-idle-len-clause-shown : goal.returns-else-idle-len-clause-shown
returns-else-idle-len-clause-shown g c =
    round_shown c.args.header.now g.M.Machine.header_of g.M.Machine.script g.S.EventSink.has_taken
    c.deref.result.now
    (stage c.args.machines.now c.args.words.now.items c.args.sink.now)
    (stage c.turn_each.new.machines c.turn_each.new.words.items c.turn_each.new.sink)
    (subst (LeavesOut g.M.Machine.script c.args.machines.now) (sym c.deref.ensures.value)
    c.requires.left_out)
    c.in_ok-turned.ensures.shown

pub returns-else-idle-len-clause-left_out : goal.returns-else-idle-len-clause-left_out
returns-else-idle-len-clause-left_out g c =
    still_left_out g.M.Machine.script c.args.machines.now c.turn_each.new.machines
    c.args.callers.now.items c.requires.left_out
    c.in_ok-turned.ensures.shown.count
    (rw (← c.deref.ensures.value) c.in_ok-turned.ensures.others)
