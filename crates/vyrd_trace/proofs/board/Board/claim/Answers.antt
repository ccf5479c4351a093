use Rattle.vyrd_trace.proofs.Prelude.{arith, refl, look_again}
use Rattle.vyrd_trace.proofs.Claiming.{claims_cell}
use Rattle.vyrd_trace.proofs.board.Board.claim.Goals as goal

pub compare_exchange-requires : goal.compare_exchange-requires
compare_exchange-requires c =
    let z = c.args.self.now.sized in
    let q = c.requires in (
      q.table,
      omega arith,
      claims_cell c.args.self.now.table.shared.key look_again _ _ _ c.args.cell c.args.old _ q.live
          (omega arith) q.rest q.even
          (λ l. absurd (omega arith)) refl,
    )
