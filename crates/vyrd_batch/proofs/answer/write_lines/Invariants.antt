use Rattle.vyrd_batch.proofs.Prelude.{◌≡◌, ◌++◌, take, lines_from}
use Rattle.vyrd_batch.proofs.answer.write_lines.Given as goal

-- the lines of the verdicts before this one
abbrev pub invariant-loop-log : goal.invariant-loop-log
invariant-loop-log l = l.out.items ≡ l.fn.out.items ++ lines_from 0 (take l.log l.verdicts)
