use Rattle.vyrd_work.proofs.ShortLines.{short_lines}
use Rattle.vyrd_work.proofs.laws.lines_are_short.Goals as goal

pub returns : goal.returns
returns c = λ w keeps. short_lines w keeps
