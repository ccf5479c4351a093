use Rattle.vyrd_trace.proofs.Prelude.{◌≡◌, ◌+◌, [], vec_len, vec_capacity, record_of, IsSame}
use Rattle.vyrd_trace.proofs.Prelude.{AreNew, sharing}
use Rattle.vyrd_trace.proofs.board.Board.deal_all.Given as goal

abbrev pub invariant-loop-caller : goal.invariant-loop-caller
invariant-loop-caller l = record {
  same : IsSame l.initial.seat l.seat;
  dealt : l.seat.me ≡ (record_of 0 l.caller, []);
  count : vec_len l.hands + 1 ≡ l.caller;
  room : vec_capacity l.hands ≡ vec_capacity l.initial.hands;
  new : AreNew (sharing l.self.table.shared.table_id l.self.table.shared.key) 1 l.hands.items;
}
