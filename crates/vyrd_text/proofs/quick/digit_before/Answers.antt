use Rattle.std.proofs.Common.{arith}
use Rattle.vyrd_text.proofs.QuickLaws.{digit_front}
use Rattle.vyrd_text.proofs.quick.digit_before.Goals as goal

pub returns-clause-number : goal.returns-clause-number
returns-clause-number = grind (arith, digit_front)
