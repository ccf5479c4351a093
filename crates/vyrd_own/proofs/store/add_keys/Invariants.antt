use Rattle.vyrd_own.proofs.Prelude.{◌≤◌, ◌+◌, ◌*◌, length, AreAdded}
use Rattle.vyrd_own.proofs.SetLaws.{HaveRoomTo}
use Rattle.vyrd_own.proofs.store.add_keys.Given as goal

abbrev pub invariant-loop-key : goal.invariant-loop-key
invariant-loop-key g l = record {
  kept : AreAdded (g.S.Store.amounts l.fn.store) (g.S.Store.amounts l.store) l.added.items l.pairs
      × HaveRoomTo (g.S.Store.amounts l.store) l.pairs l.key-index;
  few : length l.added.items ≤ l.key-index;
  steps : l.steps ≤ l.fn.steps + l.key-index * (length l.pairs + 3);
}
