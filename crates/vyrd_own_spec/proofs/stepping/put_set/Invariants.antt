use Rattle.vyrd_own_spec.proofs.Prelude.{◌≡◌, ◌++◌, drop, shown_keys}
use Rattle.vyrd_own_spec.proofs.stepping.put_set.Given as goal

abbrev pub invariant-loop-effect : goal.invariant-loop-effect
invariant-loop-effect l =
    l.touched.items ++ shown_keys (drop l.effect-index l.effects) ≡ l.fn.touched.items
    ++ shown_keys l.effects
