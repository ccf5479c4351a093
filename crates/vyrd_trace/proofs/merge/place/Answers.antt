use Rattle.vyrd_trace.proofs.Prelude.{◌≡◌, ◌+◌, List, take, sym, ap, ◌∙◌, subst, arith, slice_get}
use Rattle.vyrd_trace.proofs.Prelude.{All, Read, Stamped}
use Rattle.vyrd_trace.proofs.Merges.{IsInPlace, write_keeps, write_places, has_place, all_placed}
use Rattle.vyrd_trace.proofs.merge.place.Goals as goal
use Rattle.vyrd_trace.proofs.merge.place.Goals.{then-number-history, else-number-history}

pub loop-event-preserved : goal.loop-event-preserved
loop-event-preserved c =
    let inv = c.loop-event.invariant in
    let k = c.loop-event.event-index in
    let lane = c.args.lane.now in
    let old = c.loop-event.history in
    let d : Stamped = record { number = 0; caller = 0; did = Read 0 0 } in
    let inside = c.loop-event-test.true in
    elim c.if-number-history.branch [
      | then-number-history w ↦ record {
        kept = λ h i all was. subst (λ (l : List Stamped). slice_get l i ≡ slice_get h i)
            (sym w.history-is)
            (write_keeps h old _ i (all k d inside) (inv.kept h i all was));
        placed = λ h all long. subst (λ (l : List Stamped). All (IsInPlace l) (take (k + 1) lane))
            (sym w.history-is)
            (write_places h old lane k d inside all w.if-number-history.true
            (inv.placed h all long));
      }
      | else-number-history w ↦ record {
        kept = λ h i all was. ap (λ (l : List Stamped). slice_get l i) w.history-is
            ∙ inv.kept h i all was;
        placed = λ h all long.
            let there = has_place h old lane k d inside all
            (long ∙ sym c.loop-event.auto.history) in
            let no = w.if-number-history.false in
            absurd (omega arith);
      }
    ]

pub returns-clause-placed : goal.returns-clause-placed
returns-clause-placed c = λ h all long. all_placed c.loop-event.history c.args.lane.now
    c.loop-event.event-index c.loop-event-test.false (c.loop-event.invariant.placed h all long)
