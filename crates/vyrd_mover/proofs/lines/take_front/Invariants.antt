use Rattle.vyrd_mover.proofs.Prelude.{◌-◌, Recorded, HaveRead, GoesTo}
use Rattle.vyrd_mover.proofs.lines.take_front.Given as goal

abbrev pub invariant-loop-number : goal.invariant-loop-number
invariant-loop-number l = (r : Recorded) → HaveRead l.fn.events.ledger l.fn.events.checker r
    → GoesTo l.events r l.fn.first l.number l.fn.text l.rest

abbrev pub decreases-loop-number : goal.decreases-loop-number
decreases-loop-number l = 4000001 - l.number
