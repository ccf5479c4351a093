use Rattle.vyrd_view.proofs.Prelude.{◌≡◌, ℕ, ◌-◌, ◌*◌, ◌^◌, ◌<◌, ◌≤◌, length, amount_of}
use Rattle.vyrd_view.proofs.ChainLaws.{Walk}
use Rattle.vyrd_view.proofs.chain.chain.Given as goal

abbrev pub invariant-loop-turn : goal.invariant-loop-turn
invariant-loop-turn l = record {
  walk : Walk l.size l.words l.sums l.seen.items (l.size - l._turn) l.node;
  few : (key : ℕ) → amount_of l.sums key ≤ l._turn * 2 ^ 35;
  flags : length l.seen.items ≡ l.size;
  within : l.node < l.size;
}
