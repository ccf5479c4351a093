use Rattle.vyrd_tree.proofs.Prelude.{◌≡◌, ◌<◌, take, map, child_place}
use Rattle.vyrd_tree.proofs.entries.Entries.child_slot.Given as goal

abbrev pub invariant-loop-place : goal.invariant-loop-place
invariant-loop-place l =
    (l.last ≡ child_place l.key (map (λ entry. entry.0) (take l.place l.self.slots)))
    × (l.last < l.place)
