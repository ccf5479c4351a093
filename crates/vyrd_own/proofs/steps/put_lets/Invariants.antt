use Rattle.vyrd_own.proofs.Prelude.{◌≡◌, ◌≤◌, ◌+◌, drop, map, expr_in, lets_price, with_lets}
use Rattle.vyrd_own.proofs.steps.put_lets.Given as goal

abbrev pub invariant-loop-code : goal.invariant-loop-code
invariant-loop-code g l = record {
  values : with_lets l.state l.values.items (map expr_in (drop l.code-index l.lets))
      ≡ with_lets l.state l.fn.values.items (map expr_in l.lets);
  steps : l.steps + lets_price (map expr_in (drop l.code-index l.lets))
      ≤ l.fn.steps + lets_price (map expr_in l.lets);
}
