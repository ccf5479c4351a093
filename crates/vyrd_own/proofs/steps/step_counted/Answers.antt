use Rattle.vyrd_own.proofs.Prelude.{ap, sym, ◌∙◌, Some, None, cond, [], ◌∷◌, ◌++◌, ℕ, ◌≤◌, List}
use Rattle.vyrd_own.proofs.Prelude.{length, ◌≡◌, arith, method_of, written, with_effects}
use Rattle.vyrd_own.proofs.Prelude.{option_map_or, State, Written, Method, at_hand, effects_of}
use Rattle.vyrd_own.proofs.Prelude.{Effect, put_price, longest_case}
use Rattle.vyrd_own.proofs.StepLaws.{next_is}
use Rattle.vyrd_own.proofs.PriceLaws.{few_effects, put_mono}
use Rattle.vyrd_own.proofs.steps.step_counted.Goals as goal

-- what the call does costs no more than that of the longest case
put_fits : (w : Written) (m : Method) (s : State) (args : List ℕ) (reply : ℕ)
    (effects : List Effect) → effects_of w m s args reply ≡ Some effects
    → put_price (length effects) ≤ put_price (longest_case m.cases)
put_fits w m s args reply effects is =
    put_mono (length effects) (longest_case m.cases)
    (omega (
      arith,
      ap (λ o. option_map_or length o 0) is,
      few_effects s (at_hand w m s args ++ reply ∷ []) m.cases,
    ))

pub returns-then-not-branch-clause-refused : goal.returns-then-not-branch-clause-refused
returns-then-not-branch-clause-refused g c _ =
    next_is (written c.args.program.now) (method_of c.args.method.now) c.args.args.now c.args.reply
    c.args.state.now None
    (c.in_ok-find_effects_counted.ensures.allowed
    ∙ ap (λ b. cond b (Some c.find_effects_counted.new.room.effects.items) None)
    c.if-not-branch.true)

pub returns-clause-allowed : goal.returns-clause-allowed
returns-clause-allowed g c _ =
    let done = Some c.find_effects_counted.new.room.effects.items in
    next_is (written c.args.program.now) (method_of c.args.method.now) c.args.args.now c.args.reply
    c.args.state.now done
    (c.in_ok-find_effects_counted.ensures.allowed
    ∙ ap (λ b. cond b done None) c.if-not-branch.false)
    ∙ ap Some (sym
    (c.in_ok-put_all_counted.ensures.ok ∙ ap (with_effects c.args.state.now) c.deref.ensures.value))

pub returns-in_err-put_all_counted-clause-steps : goal.returns-in_err-put_all_counted-clause-steps
returns-in_err-put_all_counted-clause-steps g c =
    let done = Some c.find_effects_counted.new.room.effects.items in
    omega (
      arith,
      c.find_effects_counted.ensures.steps,
      c.put_all_counted.ensures.steps,
      ap (λ es. put_price (length es)) c.deref.ensures.value,
      put_fits (written c.args.program.now) (method_of c.args.method.now) c.args.state.now
          c.args.args.now c.args.reply c.find_effects_counted.new.room.effects.items
          (c.in_ok-find_effects_counted.ensures.allowed
          ∙ ap (λ b. cond b done None) c.if-not-branch.false),
    )

pub returns-clause-steps : goal.returns-clause-steps
returns-clause-steps g c =
    let done = Some c.find_effects_counted.new.room.effects.items in
    omega (
      arith,
      c.find_effects_counted.ensures.steps,
      c.put_all_counted.ensures.steps,
      ap (λ es. put_price (length es)) c.deref.ensures.value,
      put_fits (written c.args.program.now) (method_of c.args.method.now) c.args.state.now
          c.args.args.now c.args.reply c.find_effects_counted.new.room.effects.items
          (c.in_ok-find_effects_counted.ensures.allowed
          ∙ ap (λ b. cond b done None) c.if-not-branch.false),
    )
