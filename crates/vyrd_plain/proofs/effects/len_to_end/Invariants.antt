use Rattle.vyrd_plain.proofs.EffectFacts.{LooksAhead}
use Rattle.vyrd_plain.proofs.effects.len_to_end.Given as goal

abbrev pub invariant-loop-i : goal.invariant-loop-i
invariant-loop-i l = LooksAhead l.caller l.later l.i
