use Rattle.std.proofs.Common.{◌≡◌, length, false}
use Rattle.vyrd_base.specs.Devices.{AfterReads}
use Rattle.vyrd_check_command.specs.Inputs.{longest_read}
use Rattle.vyrd_check_command.specs.Inside.Progress.{IsCounting}
use Rattle.vyrd_check_command.proofs.read_log.read_on.Given as goal

abbrev pub invariant-loop-round : goal.invariant-loop-round
invariant-loop-round g l = record {
  counting : IsCounting l.initial.checker.max_lines (g.S.Source.known l.initial.source)
      (g.S.Source.known l.source) l.checker l.round l.initial.steps l.steps;
  buffer : length l.buffer ≡ longest_read;
  source : AfterReads false (g.S.Source.known l.initial.source) (g.S.Source.known l.source);
}
