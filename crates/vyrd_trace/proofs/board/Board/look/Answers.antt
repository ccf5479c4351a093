use Rattle.std.proofs.Common.{arith}
use Rattle.vyrd_trace.proofs.Claiming.{looks}
use Rattle.vyrd_trace.proofs.board.Board.look.Goals as goal

pub load-requires : goal.load-requires
load-requires c =
    let z = c.args.self.now.sized in
    let q = c.requires in
    (q.table, omega arith, looks c.args.self.now.table.shared.key _ _ _ c.args.cell q.live)
