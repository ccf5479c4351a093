use Rattle.vyrd_base.proofs.Prelude.{subst, sym, ap, ◌∙◌, unwrap_or, IsAmounts, amount_of}
use Rattle.vyrd_base.proofs.Prelude.{with_amount}
use Rattle.std.proofs.lemmas.Result.{err_from_is_err_and}
use Rattle.vyrd_base.proofs.AmountLaws.{IsAmounts-with_amount}
use Rattle.vyrd_base.proofs.AmountMaps.{lookup-find, insert-with_amount}
use Rattle.vyrd_base.proofs.amount_map.AmountMap.set.Goals as goal

pub returns-in_err-insert-clause-absent : goal.returns-in_err-insert-clause-absent
returns-in_err-insert-clause-absent c =
    let es = c.self.inside.pairs.entries in
    let p = err_from_is_err_and c.from_residual.result c.from_residual.ensures.1 in
    rw p.1 (sym (ap (λ s. amount_of s c.args.key) c.self.view_is)
    ∙ ap (λ o. unwrap_or o 0) (sym (lookup-find c.args.key es) ∙ c.in_err-insert.ensures.absent))

pub invariant_of-self : goal.invariant_of-self
invariant_of-self c =
    let es = c.self.inside.pairs.entries in
    let left = c.in_ok-insert.ensures.entries ∙ insert-with_amount es c.args.key c.args.amount
    c.if-amount-eq0.false in
    subst IsAmounts (sym left) (IsAmounts-with_amount es c.args.key c.args.amount c.self.invariant)

pub returns-in_ok-insert-clause-ok : goal.returns-in_ok-insert-clause-ok
returns-in_ok-insert-clause-ok c =
    c.in_ok-insert.ensures.entries ∙ insert-with_amount c.self.inside.pairs.entries c.args.key
    c.args.amount c.if-amount-eq0.false
    ∙ ap (λ es. with_amount es c.args.key c.args.amount) c.self.view_is
