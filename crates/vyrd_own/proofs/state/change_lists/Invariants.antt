use Rattle.vyrd_own.proofs.Prelude.{◌≡◌, ◌+◌, ◌-◌, drop, length, map, HaveRoom, lists_after}
use Rattle.vyrd_own.proofs.state.change_lists.Given as goal

abbrev pub invariant-loop-effect : goal.invariant-loop-effect
invariant-loop-effect g l = record {
  lists : lists_after (map (λ q. q.items) l.lists.items) (drop l.effect-index l.effects)
      ≡ lists_after (map (λ q. q.items) l.fn.lists.items) l.effects;
  room : HaveRoom l.lists.items l.effects (length l.effects - l.effect-index);
  steps : l.steps ≡ l.fn.steps + l.effect-index;
}
