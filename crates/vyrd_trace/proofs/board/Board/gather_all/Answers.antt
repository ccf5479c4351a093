use Rattle.vyrd_trace.proofs.Prelude.{◌≡◌, [], ◌∷◌, ◌++◌, sym, ap, ◌∙◌, own_lane, Sitting, HandView}
use Rattle.vyrd_trace.proofs.Prelude.{own_lane_of}
use Rattle.std.proofs.lemmas.List.{map-append}
use Rattle.std.proofs.lemmas.List.Elements.{All-rest}
use Rattle.vyrd_trace.proofs.board.Board.gather_all.Goals as goal

pub loop-hand-preserved : goal.loop-hand-preserved
loop-hand-preserved c =
    let inv = c.loop-hand.invariant in
    let told = c.gather.ensures.told in
    let parts = c.into_seat.ensures in
    let hand : HandView = c.in-Some.hand in
    let other : Sitting = c.into_seat.result.me in
    let empty : other.0.gathered ≡ [] = parts.record.2 in
    let lane : own_lane other.0 ≡ own_lane_of hand =
    λ i. record { caller = parts.record.0 i; events = parts.record.1 i } in record {
      table = c.gather.ensures.same.0 ∙ inv.table;
      left = All-rest (λ (h : HandView). h.table
          ≡ c.args.self.now.table.shared.table_id) hand c.next.new.self.rest.items
          c.loop-hand.hand-iterator.rest.items c.in-Some.ensures.steps.0 inv.left;
      live = ap (λ (m : Sitting). m.0.live) told ∙ inv.live;
      rest = ap (λ (m : Sitting). m.0.stage) told ∙ inv.rest;
      own = ap (λ (m : Sitting). own_lane m.0) told ∙ inv.own;
      gathered = ap (λ (m : Sitting). m.0.gathered) told ∙ (λ i. inv.gathered i ++ lane i ∷ empty i)
          ∙ sym (map-append own_lane_of c.loop-hand.yielded (hand ∷ []));
    }
