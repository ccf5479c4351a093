use Rattle.std.proofs.Common.{◌≡◌, filter_map, take}
use Rattle.vyrd_follow.proofs.last.found_in.Given as goal

abbrev pub invariant-loop-item : goal.invariant-loop-item
invariant-loop-item l = l.found.items ≡ filter_map (λ o. o) (take l.item-index l.last)
