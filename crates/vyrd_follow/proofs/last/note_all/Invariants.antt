use Rattle.vyrd_follow.proofs.Prelude.{◌≡◌, ◌++◌, ℕ, List, map, take, drop, length, vec_len, Effect}
use Rattle.vyrd_follow.proofs.Prelude.{placed_at, last_item}
use Rattle.vyrd_follow.proofs.last.note_all.Given as goal

abbrev pub invariant-loop-i : goal.invariant-loop-i
invariant-loop-i l = record {
  count : vec_len l.last ≡ length l.items;
  last : (before : List (ℕ × Effect)) → l.fn.last.items ≡ map (last_item before) l.items
      → l.last.items
      ≡ map (last_item (before ++ map (placed_at l.fn.at) l.done)) (take l.i l.items)
      ++ map (last_item before) (drop l.i l.items);
}
