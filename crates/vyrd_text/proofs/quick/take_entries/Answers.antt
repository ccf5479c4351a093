use Rattle.std.proofs.Common.{arith}
use Rattle.vyrd_text.proofs.PieceLaws.{count_line}
use Rattle.vyrd_text.proofs.QuickLaws.{one_more}
use Rattle.vyrd_text.proofs.quick.take_entries.Goals as goal

pub loop-count-preserved : goal.loop-count-preserved
loop-count-preserved = grind (arith, one_more, count_line)
