use Rattle.vyrd_spec.proofs.Prelude.{ℕ, ◌-◌, ◌*◌, ◌^◌, ◌≤◌, amount_of}
use Rattle.vyrd_spec.proofs.LeafLaws.{AreLeafAmounts, LeafWalk}
use Rattle.vyrd_spec.proofs.leaves.values.Given as goal

abbrev pub invariant-loop-turn : goal.invariant-loop-turn
invariant-loop-turn l = record {
  walk : LeafWalk l.size l.words l.values (l.size - l._turn) l.leaf;
  few : (key : ℕ) → amount_of l.values key ≤ l._turn * 2 ^ 35;
  small : AreLeafAmounts l.values;
}
