use Rattle.vyrd_states.proofs.Prelude.{[], ◌∷◌, ◌++◌, take, map, sym, ap, ◌∙◌, rules_by, Before}
use Rattle.vyrd_states.proofs.Prelude.{amount_in}
use Rattle.vyrd_base.proofs.FrontLaws.{take_past}
use Rattle.vyrd_states.proofs.replies.push_keys.Goals as goal

pub returns : goal.returns
returns g c =
    let r = rules_by (g.S.Spec.charter c.args.spec.now) in
    let s = g.S.Spec.state c.args.spec.now in
    let n = c.keys_named.result in
    c.loop-key.invariant
    ∙ ap (λ xs. c.args.items.now.items
    ++ map (λ key. Before c.args.at key (amount_in r s key)) xs)
    (take_past (take n (c.from.result ∷ c.from-2.result ∷ [])) c.loop-key.key-index
    c.loop-key.auto.key-index-end c.loop-key-test.false
    ∙ (λ i. take n (c.from.ensures i ∷ c.from-2.ensures i ∷ []))
    ∙ sym c.keys_named.ensures.keys)
