use Rattle.vyrd_own.proofs.Prelude.{sym, subst, ◌∙◌, ap, [], IsAmounts, hidden_with, no_amounts}
use Rattle.vyrd_own.proofs.SetLaws.{formed_set}
use Rattle.vyrd_own.proofs.state.StateOf.new.Goals as goal

pub invariant_of-result : goal.invariant_of-result
invariant_of-result c = (
  subst IsAmounts (sym c.in_ok-new.ensures) no_amounts,
  subst IsAmounts
      (sym (c.hidden.view_is ∙ c.in_ok-put_hidden.ensures
      ∙ ap (λ s. hidden_with s c.deref.result.now) c.in_ok-hidden.ensures))
      (formed_set [] c.deref.result.now no_amounts),
)
