use Rattle.std.proofs.Common.{◌+◌, ◌≡◌}
use Rattle.vyrd_witness.proofs.BlockWrites.{found_ahead}
use Rattle.vyrd_witness.proofs.effect.push_ahead.Given as goal

abbrev pub invariant-loop-written : goal.invariant-loop-written
invariant-loop-written l =
    found_ahead l.front l.at l.caller l.fn.effects.items (l.at + 1)
    ≡ found_ahead l.front l.at l.caller l.effects.items l.written
