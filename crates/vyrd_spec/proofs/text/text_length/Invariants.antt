use Rattle.vyrd_spec.proofs.Prelude.{◌≡◌, powers_within}
use Rattle.vyrd_spec.proofs.text.text_length.Given as goal

abbrev pub invariant-loop-n : goal.invariant-loop-n
invariant-loop-n l = l.length ≡ powers_within l.n l.text
