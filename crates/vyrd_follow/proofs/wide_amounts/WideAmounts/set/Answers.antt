use Rattle.vyrd_follow.proofs.Prelude.{subst, sym, ap, ◌∙◌, IsAmounts, with_amount}
use Rattle.vyrd_follow.proofs.Prelude.{IsAmounts-with_amount}
use Rattle.vyrd_base.proofs.AmountMaps.{insert-with_amount, remove-with_amount}
use Rattle.vyrd_follow.proofs.wide_amounts.WideAmounts.set.Goals as goal

pub invariant_of-self : goal.invariant_of-self
invariant_of-self c =
    let es = c.self.inside.pairs.entries in
    let left = c.remove.ensures.entries
    ∙ remove-with_amount es c.args.key c.self.invariant.rising in
    subst IsAmounts (sym left) (IsAmounts-with_amount es c.args.key 0 c.self.invariant)

pub invariant_of-self-in_ok-insert : goal.invariant_of-self-in_ok-insert
invariant_of-self-in_ok-insert c =
    let es = c.self.inside.pairs.entries in
    let left = c.in_ok-insert.ensures.entries
    ∙ insert-with_amount es c.args.key c.args.amount c.if-amount-eq0.false in
    subst IsAmounts (sym left) (IsAmounts-with_amount es c.args.key c.args.amount c.self.invariant)

pub returns-then-amount-eq0 : goal.returns-then-amount-eq0
returns-then-amount-eq0 c =
    let es = c.self.inside.pairs.entries in
    c.remove.ensures.entries ∙ remove-with_amount es c.args.key c.self.invariant.rising
    ∙ ap (λ a. with_amount es c.args.key a) (sym c.if-amount-eq0.true)
    ∙ ap (λ s. with_amount s c.args.key c.args.amount) c.self.view_is

pub returns-in_ok-insert : goal.returns-in_ok-insert
returns-in_ok-insert c =
    let es = c.self.inside.pairs.entries in
    c.in_ok-insert.ensures.entries
    ∙ insert-with_amount es c.args.key c.args.amount c.if-amount-eq0.false
    ∙ ap (λ s. with_amount s c.args.key c.args.amount) c.self.view_is
