use Rattle.vyrd_own.proofs.Prelude.{◌≡◌, ap, sym, ◌∙◌, subst, min, IsAmounts, amount_of}
use Rattle.vyrd_own.proofs.Prelude.{with_amount, IsAmounts-with_amount, marked}
use Rattle.vyrd_own.proofs.MarkLaws.{unmarked, marked_with, marked_stays}
use Rattle.vyrd_own.proofs.SetLaws.{taken_back}
use Rattle.vyrd_own.proofs.shown.ShownAmounts.set.Goals as goal

pub invariant_of-self-then-amount-ne0 : goal.invariant_of-self-then-amount-ne0
invariant_of-self-then-amount-ne0 c =
    let s = c.self.inside.table in (
      c.self.invariant.0
          ∙ marked_stays s c.args.key c.args.amount c.self.invariant.1
          (λ none. c.if-before-ne0.true (c.amount-before.ensures.amount ∙ none))
          c.if-amount-ne0.true
          ∙ ap marked (sym c.in_ok-set.ensures.ok),
      subst IsAmounts (sym c.in_ok-set.ensures.ok)
          (IsAmounts-with_amount s c.args.key c.args.amount c.self.invariant.1),
    )

pub invariant_of-self-in-Ok : goal.invariant_of-self-in-Ok
invariant_of-self-in-Ok c =
    let s = c.self.inside.table in (
      c.in-Ok.ensures.ok ∙ ap (with_amount c.self.inside.keys c.args.key) c.min.ensures
          ∙ ap (λ m. with_amount m c.args.key (min c.args.amount 1)) c.self.invariant.0
          ∙ marked_with s c.args.key c.args.amount c.self.invariant.1
          ∙ ap marked (sym c.in_ok-set.ensures.ok),
      subst IsAmounts (sym c.in_ok-set.ensures.ok)
          (IsAmounts-with_amount s c.args.key c.args.amount c.self.invariant.1),
    )

-- what was set in the table was taken out again
restored : (c : goal.After-remove) → c.remove.new.self ≡ c.self.inside.table
restored c =
    c.remove.ensures ∙ ap (λ s. with_amount s c.args.key 0) c.in_ok-set.ensures.ok
    ∙ taken_back c.self.inside.table c.args.key c.args.amount c.self.invariant.1
    (unmarked c.self.inside.table c.self.inside.keys c.args.key c.self.invariant.0
    c.in-Err.ensures.absent)

pub invariant_of-self-in-Err : goal.invariant_of-self-in-Err
invariant_of-self-in-Err c = (
  c.in-Err.ensures.err ∙ c.self.invariant.0 ∙ ap marked (sym (restored c)),
  subst IsAmounts (sym (restored c)) c.self.invariant.1,
)

pub returns-in-Err-clause-err : goal.returns-in-Err-clause-err
returns-in-Err-clause-err c = restored c ∙ c.self.view_is

pub returns-in-Err-clause-absent : goal.returns-in-Err-clause-absent
returns-in-Err-clause-absent c =
    ap (λ s. amount_of s c.args.key) (sym c.self.view_is)
    ∙ unmarked c.self.inside.table c.self.inside.keys c.args.key c.self.invariant.0
    c.in-Err.ensures.absent
