use Rattle.vyrd_mover.proofs.ShortLines.{short_lines}
use Rattle.vyrd_mover.proofs.laws.lines_are_short.Goals as goal

pub returns : goal.returns
returns c = short_lines
