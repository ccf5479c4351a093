use Rattle.vyrd_own.proofs.Prelude.{◌≡◌, ◌≤◌, ◌+◌, drop, [], ◌||◌, list_any, is_clearing}
use Rattle.vyrd_own.proofs.Prelude.{shown_after, hidden_after}
use Rattle.vyrd_own.proofs.updates.Updates.gather.Given as goal

abbrev pub invariant-loop-effect : goal.invariant-loop-effect
invariant-loop-effect g l = record {
  clears : (l.clears || list_any is_clearing (drop l.effect-index l.effects))
      ≡ list_any is_clearing l.effects;
  shown : shown_after l.self.shown.items (drop l.effect-index l.effects)
      ≡ shown_after [] l.effects;
  hidden : hidden_after l.self.hidden.items (drop l.effect-index l.effects)
      ≡ hidden_after [] l.effects;
  steps : l.steps ≤ l.fn.steps + l.effect-index;
}
