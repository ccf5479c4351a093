use Rattle.std.proofs.Common.{◌≡◌, false}
use Rattle.vyrd_log_tests.proofs.view.specify_all.Given as goal

abbrev pub invariant-loop-key : goal.invariant-loop-key
invariant-loop-key g l = l.compared.refused ≡ false
