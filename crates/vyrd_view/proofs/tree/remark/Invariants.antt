use Rattle.std.proofs.Common.{◌≡◌, ℕ, ◌+◌, ◌-◌, ◌*◌, ◌<◌, ◌≤◌, false, length, get_or}
use Rattle.vyrd_view.specs.Chains.{node_pair}
use Rattle.vyrd_view.proofs.tree.remark.Given as goal

abbrev pub invariant-loop-node : goal.invariant-loop-node
invariant-loop-node g l = record {
  within : l.node ≤ length l.marks;
  same : length l.marks ≡ length l.initial.marks;
  sound : l.parts.refused ≡ false;
  specified : l.parts.specified ≡ l.initial.parts.specified;
  places : length l.parts.pairs ≡ length l.initial.parts.pairs;
  marks : (n : ℕ) → n < l.node → get_or l.marks n false ≡ get_or l.next n false;
  nodes : (m : ℕ) → m < 4 * length l.marks → get_or l.parts.pairs m (0, 0)
      ≡ node_pair l.words l.marks m;
  counted : l.steps ≤ l.initial.steps + 9 * l.node;
}

abbrev pub decreases-loop-node : goal.decreases-loop-node
decreases-loop-node g l = length l.initial.marks - l.node
