use Rattle.vyrd_witness.proofs.Prelude.{◌≡◌, ◌<◌, IfSome, commit_before}
use Rattle.vyrd_witness.proofs.view.commit_before.Given as goal

abbrev pub invariant-loop-i : goal.invariant-loop-i
invariant-loop-i l = record {
  position : l.found ≡ commit_before l.front l.i;
  before : IfSome l.found (λ p. p < l.i);
}
