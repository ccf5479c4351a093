use Rattle.vyrd_own.proofs.Prelude.{◌≡◌, ◌≤◌, ◌+◌, drop, length, take, map, expr_in, lets_price}
use Rattle.vyrd_own.proofs.Prelude.{with_lets}
use Rattle.vyrd_own.proofs.few.put_few_lets.Given as goal

abbrev pub invariant-loop-code : goal.invariant-loop-code
invariant-loop-code g l = record {
  count : l.count ≡ l.initial.count + l.code-index;
  len : length l.room ≡ length l.initial.room;
  items : with_lets l.state (take l.count l.room) (map expr_in (drop l.code-index l.lets))
      ≡ with_lets l.state (take l.initial.count l.initial.room) (map expr_in l.lets);
  steps : l.steps + lets_price (map expr_in (drop l.code-index l.lets))
      ≤ l.initial.steps + lets_price (map expr_in l.lets);
}
