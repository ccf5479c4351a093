use Rattle.vyrd_own.proofs.Prelude.{◌≡◌, ◌+◌, ◌*◌, drop, length, hidden_with, HasKeys}
use Rattle.vyrd_own.proofs.SetLaws.{finals}
use Rattle.vyrd_own.proofs.store.put.Given as goal

abbrev pub invariant-loop-key : goal.invariant-loop-key
invariant-loop-key g l = record {
  amounts : (hidden_with (g.S.Store.amounts l.store) (finals l.pairs (drop l.key-index l.pairs))
      ≡ hidden_with (g.S.Store.amounts l.fn.store) (finals l.pairs l.pairs))
      × HasKeys (g.S.Store.amounts l.store) l.pairs;
  steps : l.steps ≡ l.fn.steps + l.key-index * (length l.pairs + 2);
}
