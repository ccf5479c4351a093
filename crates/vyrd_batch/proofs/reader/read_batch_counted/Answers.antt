use Rattle.std.proofs.Common.{arith}
use Rattle.vyrd_batch.proofs.LogFacts.{no_first_line, other_first_line, behind_first_line}
use Rattle.vyrd_batch.proofs.CostLaws.{look_within}
use Rattle.vyrd_batch.proofs.reader.read_batch_counted.Goals as goal

pub returns-in_default-clause-refused : goal.returns-in_default-clause-refused
returns-in_default-clause-refused g c = search (no_first_line, arith)

pub returns-then-not-is_word-clause-refused : goal.returns-then-not-is_word-clause-refused
returns-then-not-is_word-clause-refused = grind (arith, other_first_line)

pub returns-clause-spans : goal.returns-clause-spans
returns-clause-spans = grind (arith, behind_first_line)

pub returns-clause-refused : goal.returns-clause-refused
returns-clause-refused = grind (arith, behind_first_line)

pub returns-in_default-clause-steps : goal.returns-in_default-clause-steps
returns-in_default-clause-steps g c = search (look_within, arith)

pub returns-then-not-is_word-clause-steps : goal.returns-then-not-is_word-clause-steps
returns-then-not-is_word-clause-steps g c = search (look_within, arith)
