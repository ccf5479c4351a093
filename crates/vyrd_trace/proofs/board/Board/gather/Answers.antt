use Rattle.std.proofs.Common.{arith}
use Rattle.vyrd_trace.proofs.Dealing.{joins}
use Rattle.vyrd_trace.proofs.board.Board.gather.Goals as goal

pub join_seat-requires : goal.join_seat-requires
join_seat-requires = grind (arith, joins)
