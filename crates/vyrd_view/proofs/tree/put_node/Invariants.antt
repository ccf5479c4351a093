use Rattle.std.proofs.Common.{◌≡◌, ℕ, ◌+◌, ◌*◌, ◌<◌, ◌≤◌, false, length, get_or}
use Rattle.vyrd_view.proofs.tree.put_node.Given as goal

abbrev pub invariant-loop-j : goal.invariant-loop-j
invariant-loop-j g l = record {
  sound : l.parts.refused ≡ false;
  specified : l.parts.specified ≡ l.initial.parts.specified;
  places : length l.parts.pairs ≡ length l.initial.parts.pairs;
  below : (m : ℕ) → m < 4 * l.node → get_or l.parts.pairs m (0, 0) ≡ get_or l.initial.parts.pairs m
      (0, 0);
  inside : (i : ℕ) → i < l.j → get_or l.parts.pairs (4 * l.node + i) (0, 0) ≡ get_or l.entries i
      (0, 0);
  above : (m : ℕ) → 4 * l.node + l.j ≤ m → get_or l.parts.pairs m (0, 0)
      ≡ get_or l.initial.parts.pairs m (0, 0);
  counted : l.steps ≤ l.initial.steps + 2 * l.j;
}
