use Rattle.vyrd_own.proofs.Prelude.{◌≡◌, ◌+◌, drop, registers_after}
use Rattle.vyrd_own.proofs.state.set_registers.Given as goal

abbrev pub invariant-loop-effect : goal.invariant-loop-effect
invariant-loop-effect g l = record {
  registers : registers_after l.registers.items (drop l.effect-index l.effects)
      ≡ registers_after l.fn.registers.items l.effects;
  steps : l.steps ≡ l.fn.steps + l.effect-index;
}
