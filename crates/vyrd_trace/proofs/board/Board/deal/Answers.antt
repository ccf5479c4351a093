use Rattle.std.proofs.Common.{arith}
use Rattle.vyrd_trace.proofs.Dealing.{splits}
use Rattle.vyrd_trace.proofs.board.Board.deal.Goals as goal

pub split_seat-requires : goal.split_seat-requires
split_seat-requires = grind (arith, splits)
