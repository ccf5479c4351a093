use Rattle.vyrd_work.proofs.Prelude.{arith, length-append, refused}
use Rattle.vyrd_work.proofs.WalkLaws.{end_found, line_found, lines_last, refusal_at}
use Rattle.vyrd_work.proofs.reader.read_lines.Goals as goal

pub returns-then-is_word-clause-ok : goal.returns-then-is_word-clause-ok
returns-then-is_word-clause-ok = grind (arith, end_found)

pub returns-then-is_word-clause-err : goal.returns-then-is_word-clause-err
returns-then-is_word-clause-err = grind (arith, end_found)

pub returns-in_err-turns-clause-err : goal.returns-in_err-turns-clause-err
returns-in_err-turns-clause-err = grind (arith, line_found, refusal_at)

pub loop-line-preserved : goal.loop-line-preserved
loop-line-preserved = grind (arith, line_found, length-append)

pub returns-clause-err : goal.returns-clause-err
returns-clause-err = grind (arith, lines_last, refused)
