use Rattle.std.proofs.Common.{map}
use Rattle.vyrd_command.proofs.CheckWords.{check_said, only_check}
use Rattle.vyrd_command.proofs.laws.both_programs_check.Goals as goal

pub returns-clause-whole : goal.returns-clause-whole
returns-clause-whole c = λ words is. check_said (map (λ word. word.now) words) is

pub returns-clause-smaller : goal.returns-clause-smaller
returns-clause-smaller c = λ words is. only_check (map (λ word. word.now) words) is
