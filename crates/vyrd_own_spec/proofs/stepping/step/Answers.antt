use Rattle.vyrd_own_spec.proofs.Prelude.{length, ◌≡◌, ◌≤◌, Some, None, cond, ap, sym, ◌∙◌, subst}
use Rattle.vyrd_own_spec.proofs.Prelude.{arith, with_effects, written, next_by, State, written_in}
use Rattle.vyrd_own_spec.proofs.Prelude.{with_touched, touched_by, most_effects}
use Rattle.vyrd_own_spec.proofs.TouchLaws.{touched_all, registers_stay}
use Rattle.vyrd_own_spec.proofs.EffectCounts.{touched_paid, effects_few}
use Rattle.vyrd_own_spec.proofs.CallLaws.{next_of_effects}
use Rattle.vyrd_own_spec.proofs.stepping.step.Goals as goal

pub returns-then-not-branch-clause-refused : goal.returns-then-not-branch-clause-refused
returns-then-not-branch-clause-refused c _ =
    subst (λ w. next_by w c.args.method c.args.args c.args.reply c.args.state.now ≡ None)
    c.program.ensures.says
    (next_of_effects (written c.program.result.now) c.args.method c.args.args c.args.reply
    c.args.state.now None
    (c.in_ok-plan.ensures ∙ ap (λ b. cond b (Some c.plan.new.room.effects.items) None)
    c.if-not-branch.true))

pub returns-clause-allowed : goal.returns-clause-allowed
returns-clause-allowed c _ =
    let done = Some c.plan.new.room.effects.items in
    subst (λ w. next_by w c.args.method c.args.args c.args.reply c.args.state.now
    ≡ Some c.put_all.new.self) c.program.ensures.says
    (next_of_effects (written c.program.result.now) c.args.method c.args.args c.args.reply
    c.args.state.now done
    (c.in_ok-plan.ensures ∙ ap (λ b. cond b done None) c.if-not-branch.false)
    ∙ ap Some (sym
    (c.in_ok-put_all.ensures.ok ∙ ap (with_effects c.args.state.now) c.deref-2.ensures.value)))

-- the state after the step, and the keys that were touched, by what the call does
after : (c : goal.In_ok-put_all) → c.put_all.new.self
    ≡ with_effects c.args.state.now c.plan.new.room.effects.items
after c = c.in_ok-put_all.ensures.ok ∙ ap (with_effects c.args.state.now) c.deref-2.ensures.value

pub returns-clause-changed : goal.returns-clause-changed
returns-clause-changed c _ =
    let s : State = c.args.state.now in
    let es = c.plan.new.room.effects.items in
    let keys = c.in_ok-put_touched.ensures.touched ∙ ap (touched_by s) c.deref.ensures.value in
    subst (λ (t : State). with_touched c.put_touched.new.touched.items t.shown s.shown ≡ t.shown)
    (sym (after c))
    (ap (λ ks. with_touched ks (with_effects s es).shown s.shown) keys
    ∙ touched_all s es c.in_ok-put_touched.ensures.formed)

pub returns-clause-registers : goal.returns-clause-registers
returns-clause-registers c =
    ap (λ (t : State). length t.registers) (after c)
    ∙ registers_stay c.args.state.now c.plan.new.room.effects.items

pub returns-clause-paid : goal.returns-clause-paid
returns-clause-paid c _ =
    let s : State = c.args.state.now in
    let es = c.plan.new.room.effects.items in
    let keys = c.in_ok-put_touched.ensures.touched ∙ ap (touched_by s) c.deref.ensures.value in
    let done = Some es in
    let few : length es ≤ most_effects (written_in c.args.specification.now) =
    subst (λ w. length es ≤ most_effects w) c.program.ensures.says
    (effects_few (written c.program.result.now) c.args.method c.args.args c.args.reply s es
    (c.in_ok-plan.ensures ∙ ap (λ b. cond b done None) c.if-not-branch.false)) in
    omega (
      arith,
      ap length keys,
      ap (λ (t : State). length t.shown) (after c),
      touched_paid s es,
      few,
    )
