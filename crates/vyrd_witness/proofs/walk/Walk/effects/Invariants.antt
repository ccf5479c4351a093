use Rattle.vyrd_witness.proofs.Prelude.{◌≡◌, take, newest_first, effects_along, ArePhases}
use Rattle.vyrd_witness.proofs.walk.Walk.effects.Given as goal

abbrev pub invariant-loop-at : goal.invariant-loop-at
invariant-loop-at l = record {
  phases : ArePhases l.header l.self.phases.items (newest_first (take l.at l.front));
  effects : l.effects.items ≡ effects_along l.front l.from l.at;
}
