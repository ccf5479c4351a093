use Rattle.vyrd_own.proofs.Prelude.{◌≡◌, ◌≤◌, ◌+◌, take, length, map, HaveRoom}
use Rattle.vyrd_own.proofs.state.reserve.Given as goal

abbrev pub invariant-loop-effect : goal.invariant-loop-effect
invariant-loop-effect g l = record {
  items : map (λ q. q.items) l.lists.items ≡ map (λ q. q.items) l.fn.lists.items;
  room : HaveRoom l.lists.items (take l.effect-index l.effects) (length l.effects);
  steps : l.steps ≤ l.fn.steps + l.effect-index;
}
