use Rattle.vyrd_base.proofs.Prelude.{ap, sym, ◌∙◌, subst, ◌++◌, IsAmounts}
use Rattle.vyrd_base.proofs.KeyLaws.{lesser_keys}
use Rattle.vyrd_base.proofs.amount_map.AmountMap.view.Goals as goal

pub push-requires-clause-greater : goal.push-requires-clause-greater
push-requires-clause-greater c =
    let whole = ap (λ rest. c.loop-key.view ++ rest) (sym c.in-Some.ensures.steps)
    ∙ c.loop-key.invariant.2 ∙ sym c.self.view_is in
    lesser_keys c.loop-key.view c.in-Some.key.now c.in-Some.amount.now c.next.new.self
    (subst IsAmounts (sym whole) c.self.invariant)
