use Rattle.std.proofs.Common.{arith}
use Rattle.vyrd_batch.proofs.RoundLaws.{judged_all, judged_refused, judged_unbegun, not_refused}
use Rattle.vyrd_batch.proofs.RoundLaws.{nothing_more, is_refused, refused_at_end}
use Rattle.vyrd_batch.proofs.rounds.BatchJudge.end.Goals as goal

pub returns-then-self-clause-refused : goal.returns-then-self-clause-refused
returns-then-self-clause-refused = grind (arith, refused_at_end, is_refused)

pub returns-in_default-clause-refused : goal.returns-in_default-clause-refused
returns-in_default-clause-refused = grind (arith, not_refused, nothing_more, judged_unbegun)

pub returns-then-not-is_word-clause-refused : goal.returns-then-not-is_word-clause-refused
returns-then-not-is_word-clause-refused = grind (arith, not_refused, nothing_more, judged_refused)

pub returns-clause-verdicts : goal.returns-clause-verdicts
returns-clause-verdicts = grind (arith, not_refused, judged_all)

pub returns-in_default-clause-count : goal.returns-in_default-clause-count
returns-in_default-clause-count = grind (arith, not_refused)
