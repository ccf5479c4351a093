use Rattle.std.proofs.Common.{arith}
use Rattle.vyrd_witness.proofs.CommitLaws.{commit_here, no_commit_here, still_before}
use Rattle.vyrd_witness.proofs.view.commit_before.Goals as goal

pub loop-i-preserved : goal.loop-i-preserved
loop-i-preserved = grind (arith, commit_here, no_commit_here, still_before)
