use Rattle.vyrd_trace.proofs.Prelude.{◌≡◌, true, All, HandView, Rest, own_lane, own_lanes}
use Rattle.vyrd_trace.proofs.board.Board.gather_all.Given as goal

abbrev pub invariant-loop-hand : goal.invariant-loop-hand
invariant-loop-hand l = record {
  table : l.seat.table_id ≡ l.initial.seat.table_id;
  left : All (λ (h : HandView). h.table ≡ l.self.table.shared.table_id) l.hand-iterator.rest.items;
  live : l.seat.me.0.live ≡ true;
  rest : l.seat.me.0.stage ≡ Rest;
  own : own_lane l.seat.me.0 ≡ own_lane l.initial.seat.me.0;
  gathered : l.seat.me.0.gathered ≡ own_lanes l.yielded;
}
