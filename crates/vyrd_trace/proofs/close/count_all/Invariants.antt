use Rattle.vyrd_trace.proofs.Prelude.{◌≡◌, ◌≤◌, ◌*◌, length, take, sum_by, HandView, most_events}
use Rattle.vyrd_trace.proofs.close.count_all.Given as goal

abbrev pub invariant-loop-hand : goal.invariant-loop-hand
invariant-loop-hand l =
    (l.total ≡ sum_by (λ (h : HandView). length h.lane) (take l.hand-index l.hands))
    × (l.total ≤ most_events * l.hand-index)
