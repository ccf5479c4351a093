use Rattle.vyrd_trace.proofs.Prelude.{arith, refl, look_first}
use Rattle.vyrd_trace.proofs.Claiming.{claims_cell}
use Rattle.vyrd_trace.proofs.board.Board.claim_lock.Goals as goal

pub compare_exchange-requires : goal.compare_exchange-requires
compare_exchange-requires c =
    let z = c.args.self.now.sized in
    let q = c.requires in (
      q.table,
      omega arith,
      claims_cell c.args.self.now.table.shared.key look_first _ _ _ c.args.cell 0 1 q.live q.cell
          q.rest refl (λ l. refl) refl,
    )
