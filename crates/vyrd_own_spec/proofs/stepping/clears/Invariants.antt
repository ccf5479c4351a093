use Rattle.vyrd_own_spec.proofs.Prelude.{◌≡◌, drop, list_any, is_clearing}
use Rattle.vyrd_own_spec.proofs.stepping.clears.Given as goal

abbrev pub invariant-loop-effect : goal.invariant-loop-effect
invariant-loop-effect l = list_any is_clearing (drop l.effect-index l.effects)
    ≡ list_any is_clearing l.effects
