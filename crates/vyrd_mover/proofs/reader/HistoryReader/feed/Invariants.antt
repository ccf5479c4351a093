use Rattle.vyrd_mover.proofs.Prelude.{ℕ, List, length, HasRead, IsFedTo}
use Rattle.vyrd_mover.proofs.reader.HistoryReader.feed.Given as goal

abbrev pub invariant-loop-line : goal.invariant-loop-line
invariant-loop-line l =
    (bytes : List ℕ) → HasRead l.fn.self bytes → IsFedTo l.self bytes l.piece l.rest

abbrev pub decreases-loop-line : goal.decreases-loop-line
decreases-loop-line l = length l.rest
