use Rattle.std.proofs.Common.{ap, ◌∙◌, ◌-◌, refl}
use Rattle.vyrd_witness.proofs.BlockWrites.{back_write, back_other, back_quiet, back_open}
use Rattle.vyrd_witness.proofs.effect.writes_back.Goals as goal

pub returns-in-BlockOpen : goal.returns-in-BlockOpen
returns-in-BlockOpen c =
    back_open c.args.front.now c.args.at c.args.caller c.loop-i.i (c.args.at - 1 - c.loop-i.i)
    c.entry_at-entry.result c.loop-i.effects.items c.loop-i-test.true refl c.entry_at-entry.ensures
    c.if-entry-caller.true c.in-BlockOpen.is c.loop-i.invariant

pub loop-i-preserved : goal.loop-i-preserved
loop-i-preserved c =
    let log = c.args.front.now in
    let at = c.args.at in
    let caller = c.args.caller in
    let i = c.loop-i.i in
    let e = c.entry_at-entry.result in
    let found = c.loop-i.effects.items in
    let low = c.loop-i-test.true in
    let here = c.entry_at-entry.ensures in
    elim c.if-entry-caller.branch [
      | goal.then-entry-caller+in-Write+in_ok-push-in-Write w ↦
          back_write log at caller i (at - 1 - i) w.in-Write.word w.in-Write.value e found
          c.if-entry-caller.effects.items low refl here w.if-entry-caller.true w.in-Write.is
          (ap (λ v. v.items) w.effects-is ∙ w.in_ok-push-in-Write.ensures.items) c.loop-i.invariant
      | goal.then-entry-caller+in_default w ↦
          back_quiet log at caller i (at - 1 - i) e found c.if-entry-caller.effects.items low refl
          here w.if-entry-caller.true w.in_default.not-Write w.in_default.not-BlockOpen
          (ap (λ v. v.items) w.effects-is) c.loop-i.invariant
      | goal.else-entry-caller w ↦
          back_other log at caller i (at - 1 - i) e found c.if-entry-caller.effects.items low refl
          here w.if-entry-caller.false (ap (λ v. v.items) w.effects-is) c.loop-i.invariant
    ]
