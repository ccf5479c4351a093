use Rattle.std.proofs.Common.{◌≡◌, length, drop}
use Rattle.vyrd_view.proofs.ApartLaws.{first_apart}
use Rattle.vyrd_view.proofs.difference.first_difference.Given as goal

abbrev pub invariant-loop-x : goal.invariant-loop-x
invariant-loop-x l =
    (goal.iterator-loop-x).can_next l.x-iterator × (goal.iterator-loop-x).is_finite l.x-iterator
    × (first_apart (drop (length l.yielded) l.ours) (drop (length l.yielded) l.theirs)
    ≡ first_apart l.ours l.theirs)
