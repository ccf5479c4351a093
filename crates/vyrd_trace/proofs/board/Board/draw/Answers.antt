use Rattle.vyrd_trace.proofs.Prelude.{arith, subst, MayDraw}
use Rattle.vyrd_trace.proofs.Drawing.{draws}
use Rattle.vyrd_trace.proofs.board.Board.draw.Goals as goal

pub fetch_add-requires : goal.fetch_add-requires
fetch_add-requires g c =
    let z = c.args.self.now.sized in
    let q = c.requires in (
      q.table,
      omega arith,
      draws c.args.self.now.table.shared.key z.3 z.4 _ _ _ g.J.Intent.did q.live q.room
          (subst (MayDraw c.args.self.now.table.shared.key c.args.seat.now.me.0) q.picked q.may),
    )
