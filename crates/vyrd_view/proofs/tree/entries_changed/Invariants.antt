use Rattle.vyrd_view.proofs.Prelude.{◌≡◌, ℕ, ◌+◌, ◌*◌, ◌/◌, ◌<◌, ◌≤◌, false, length, drop, get_or}
use Rattle.vyrd_view.proofs.Prelude.{node_pair, is_stale, differing}
use Rattle.vyrd_view.proofs.tree.entries_changed.Given as goal

abbrev pub invariant-loop-word : goal.invariant-loop-word
invariant-loop-word g l = record {
  sound : l.parts.refused ≡ false;
  specified : l.parts.specified ≡ l.initial.parts.specified;
  places : length l.parts.pairs ≡ length l.initial.parts.pairs;
  others : (m : ℕ) → m < 4 * length l.marks
      → is_stale l.marks (m / 4) (differing l.before l.words (drop l.word-index l.changed)) ≡ false
      → get_or l.parts.pairs m (0, 0) ≡ node_pair l.words l.marks m;
  end : get_or l.parts.pairs (4 * length l.marks) (0, 0)
      ≡ get_or l.initial.parts.pairs (4 * length l.marks) (0, 0);
  counted : l.steps + 9 * length (differing l.before l.words (drop l.word-index l.changed))
      ≤ l.initial.steps + 9 * length (differing l.before l.words l.changed);
}
