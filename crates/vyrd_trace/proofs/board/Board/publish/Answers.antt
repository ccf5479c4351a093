use Rattle.std.proofs.Common.{arith}
use Rattle.vyrd_trace.proofs.Publishing.{stores}
use Rattle.vyrd_trace.proofs.board.Board.publish.Goals as goal

pub store-requires : goal.store-requires
store-requires c =
    let z = c.args.self.now.sized in
    let q = c.requires in (
      q.table,
      omega arith,
      stores c.args.self.now.table.shared.key _ _ _ c.args.cell c.args.word
          q.live q.cell q.drawn,
    )
