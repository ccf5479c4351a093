use Rattle.std.proofs.Common.{ap, ◌∙◌, arith}
use Rattle.vyrd_witness.proofs.BlockWrites.{ahead_other, ahead_quiet, ahead_write, ahead_done}
use Rattle.vyrd_witness.proofs.BlockWrites.{ahead_returns, ahead_past}
use Rattle.vyrd_witness.proofs.effect.push_ahead.Goals as goal

pub loop-written-preserved : goal.loop-written-preserved
loop-written-preserved c =
    let log = c.args.front.now in
    let at = c.args.at in
    let caller = c.args.caller in
    let n = c.loop-written.written in
    let e = c.entry_at-entry.result in
    let found = c.loop-written.effects.items in
    let here = c.entry_at-entry.ensures in
    c.loop-written.invariant ∙ (elim c.if-entry-caller.branch [
      | goal.then-entry-caller+in-Write+in_ok-push-in-Write w ↦
          ahead_write log at caller n w.in-Write.word w.in-Write.value e found
          c.if-entry-caller.effects.items here w.if-entry-caller.true w.in-Write.is
          (ap (λ v. v.items) w.effects-is ∙ w.in_ok-push-in-Write.ensures.items)
      | goal.then-entry-caller+in_default w ↦
          ahead_quiet log at caller n e found c.if-entry-caller.effects.items here
          w.if-entry-caller.true w.in_default.not-Write w.in_default.not-Return
          w.in_default.not-BlockClose w.in_default.not-BlockCommit (ap (λ v. v.items) w.effects-is)
      | goal.else-entry-caller w ↦
          ahead_other log at caller n e found c.if-entry-caller.effects.items here
          w.if-entry-caller.false (ap (λ v. v.items) w.effects-is)
    ])

pub returns-in-BlockClose-clause-ends : goal.returns-in-BlockClose-clause-ends
returns-in-BlockClose-clause-ends c = λ ends. c.loop-written.invariant
    ∙ ahead_done c.args.front.now c.args.at c.args.caller c.loop-written.written
    c.entry_at-entry.result c.loop-written.effects.items c.entry_at-entry.ensures
    c.if-entry-caller.true c.in-BlockClose.is

pub returns-in-Return-clause-goes_on : goal.returns-in-Return-clause-goes_on
returns-in-Return-clause-goes_on c = search (ahead_returns, arith)

pub returns-clause-goes_on : goal.returns-clause-goes_on
returns-clause-goes_on = grind (arith, ahead_past)
