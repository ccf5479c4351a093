use Rattle.vyrd_own.proofs.Prelude.{◌≡◌, ◌+◌, drop, hidden_with}
use Rattle.vyrd_own.proofs.SetLaws.{zeros}
use Rattle.vyrd_own.proofs.store.take_back.Given as goal

abbrev pub invariant-loop-key : goal.invariant-loop-key
invariant-loop-key g l = record {
  amounts : hidden_with (g.S.Store.amounts l.store) (zeros (drop l.key-index l.added))
      ≡ hidden_with (g.S.Store.amounts l.fn.store) (zeros l.added);
  steps : l.steps ≡ l.fn.steps + l.key-index;
}
