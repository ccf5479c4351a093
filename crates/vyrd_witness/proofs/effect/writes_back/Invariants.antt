use Rattle.std.proofs.Common.{◌-◌}
use Rattle.vyrd_witness.proofs.BlockWrites.{LooksBack}
use Rattle.vyrd_witness.proofs.effect.writes_back.Given as goal

abbrev pub invariant-loop-i : goal.invariant-loop-i
invariant-loop-i l = LooksBack l.front l.at l.caller l.effects.items (l.at - l.i)
