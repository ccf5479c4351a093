use Rattle.std.proofs.Common.{sym}
use Rattle.vyrd_buffers.proofs.ActsLeft.{act_is_left}
use Rattle.vyrd_buffers.proofs.progress.BufferProgressProgress.is_over.Goals as goal

pub returns-in_default : goal.returns-in_default
returns-in_default c =
    λ h subject. sym
    (act_is_left h c.args.self.now.task c.args.self.now.place c.in_default.not-Over)
