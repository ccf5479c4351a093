use Rattle.vyrd_states.proofs.Prelude.{◌≡◌, ◌++◌, map, take, rules_by, Before, amount_in}
use Rattle.vyrd_states.proofs.replies.push_keys.Given as goal

abbrev pub invariant-loop-key : goal.invariant-loop-key
invariant-loop-key g l =
    let r = rules_by (g.S.Spec.charter l.spec) in
    l.items.items ≡ l.initial.items.items
    ++ map (λ key. Before l.at key (amount_in r (g.S.Spec.state l.spec) key))
    (take l.key-index l.key-items)
