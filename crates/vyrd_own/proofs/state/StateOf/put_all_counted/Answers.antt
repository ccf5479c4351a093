use Rattle.vyrd_own.proofs.Prelude.{◌≡◌, ℕ, ◌+◌, ◌≤◌, Bool, true, false, cond, List, [], length, ap}
use Rattle.vyrd_own.proofs.Prelude.{sym, ◌∙◌, subst, arith, Amounts, IsAmounts, no_amounts}
use Rattle.vyrd_own.proofs.Prelude.{with_effects, lists_after, Effect, shown_after, hidden_after}
use Rattle.vyrd_own.proofs.Prelude.{sets_price}
use Rattle.vyrd_own.proofs.SetLaws.{formed_set}
use Rattle.vyrd_own.proofs.ApartLaws.{each_part}
use Rattle.vyrd_own.proofs.PriceLaws.{sets_split, gathered_few}
use Rattle.vyrd_own.proofs.state.StateOf.put_all_counted.Goals as goal

-- what stands at the start of a step are amounts, cleared or not
formed_first : (b : Bool) (s : Amounts) → IsAmounts s → IsAmounts (cond b [] s)
formed_first true s is = no_amounts
formed_first false s is = is

pub invariant_of-self-2 : goal.invariant_of-self-2
invariant_of-self-2 g c = (
  subst IsAmounts (sym c.in_ok-put_amounts.ensures.shown)
      (formed_set (cond c.in_ok-clears.clears [] c.self.inside.shown) c.gather.new.self.shown.items
      (formed_first c.in_ok-clears.clears c.self.inside.shown c.self.invariant.0)),
  subst IsAmounts (sym c.in_ok-put_amounts.ensures.hidden)
      (formed_set c.self.inside.hidden c.gather.new.self.hidden.items c.self.invariant.1),
)

pub returns-clause-ok : goal.returns-clause-ok
returns-clause-ok g c =
    each_part _ c.args.effects.now c.in_ok-clears.clears c.gather.new.self.shown.items
    c.gather.new.self.hidden.items
    c.put_amounts.new.shown c.put_amounts.new.hidden c.set_registers.new.registers.items _
    c.in_ok-clears.ensures.clears c.in_ok-clears.ensures.shown c.in_ok-clears.ensures.hidden
    c.in_ok-put_amounts.ensures.shown c.in_ok-put_amounts.ensures.hidden
    c.set_registers.ensures.registers
    (c.change_lists.ensures.lists ∙ ap (λ ls. lists_after ls c.args.effects.now)
    c.in_ok-reserve.ensures.items)
    ∙ ap (λ s. with_effects s c.args.effects.now) c.self.view_is

-- no more amounts are set than there are effects, and they cost no more
sets_fit : (effects : List Effect) (shown hidden : List (ℕ × ℕ)) → shown ≡ shown_after [] effects
    → hidden ≡ hidden_after [] effects
    → sets_price (length shown) + sets_price (length hidden) ≤ sets_price (length effects)
sets_fit effects shown hidden shown_is hidden_is =
    sets_split (length shown) (length hidden) (length effects)
    (omega (arith, ap length shown_is, ap length hidden_is, gathered_few [] [] effects))

pub returns-in_err-put_amounts-clause-steps : goal.returns-in_err-put_amounts-clause-steps
returns-in_err-put_amounts-clause-steps g c =
    omega (
      arith,
      c.gather.ensures.steps,
      c.reserve.ensures.steps,
      c.put_amounts.ensures.steps,
      sets_fit c.args.effects.now _ _ c.in_ok-clears.ensures.shown c.in_ok-clears.ensures.hidden,
    )

pub returns-clause-steps : goal.returns-clause-steps
returns-clause-steps g c =
    omega (
      arith,
      c.gather.ensures.steps,
      c.reserve.ensures.steps,
      c.put_amounts.ensures.steps,
      c.set_registers.ensures.steps,
      c.change_lists.ensures.steps,
      sets_fit c.args.effects.now _ _ c.in_ok-clears.ensures.shown c.in_ok-clears.ensures.hidden,
    )
