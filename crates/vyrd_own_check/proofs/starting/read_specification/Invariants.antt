use Rattle.vyrd_own_check.proofs.Prelude.{◌≡◌, take, texts}
use Rattle.vyrd_own_check.proofs.starting.read_specification.Given as goal

abbrev pub invariant-loop-line : goal.invariant-loop-line
invariant-loop-line l = texts l.copied.items ≡ texts (take l.line-index l.lines)
