use Rattle.vyrd_own_states.proofs.Prelude.{ℕ, ◌++◌, map, ap, ◌∙◌, append_assoc, on_ok_weaker}
use Rattle.vyrd_own_states.proofs.Prelude.{amount_of, Item, Before, Hidden, shown_keys, hidden_keys}
use Rattle.vyrd_own_states.proofs.states.push_amounts.Goals as goal

pub returns : goal.returns
returns c =
    let s = c.args.state.now in
    let old = c.args.items.now.items in
    let before : ℕ → Item = λ key. Before c.args.at key (amount_of s.shown key) in
    let hidden : ℕ → Item = λ key. Hidden c.args.at key (amount_of s.hidden key) in
    let shown = c.in_ok-push_shown.ensures ∙ ap (λ keys. old ++ map before keys)
    (c.deref.ensures.value ∙ c.in_ok-shown_keys.ensures) in
    let keys = c.deref-2.ensures.value ∙ c.in_ok-hidden_keys.ensures in
    on_ok_weaker c.push_hidden.result
    (λ last. last ∙ (λ i. shown i ++ map hidden (keys i))
    ∙ append_assoc old (map before (shown_keys c.args.worths.now))
    (map hidden (hidden_keys c.args.worths.now)))
    c.push_hidden.ensures
