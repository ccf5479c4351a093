use Rattle.vyrd_own.proofs.Prelude.{◌≡◌, ◌+◌, drop, amount_after}
use Rattle.vyrd_own.proofs.store.amount_after.Given as goal

abbrev pub invariant-loop-k : goal.invariant-loop-k
invariant-loop-k g l = record {
  amount : amount_after (drop l.k-index l.pairs) l.key l.amount
      ≡ amount_after l.pairs l.key l.before;
  steps : l.steps ≡ l.fn.steps + l.k-index;
}
