use Rattle.vyrd_view.proofs.Prelude.{◌≡◌, ℕ, false, length, drop, get_or, ◌==◌, list_any}
use Rattle.vyrd_view.proofs.words.copy_changed.Given as goal

abbrev pub invariant-loop-word : goal.invariant-loop-word
invariant-loop-word l = record {
  count : length l.before ≡ length l.words;
  elsewhere : (w : ℕ) → list_any (λ x. x == w) (drop l.word-index l.changed) ≡ false
      → get_or l.words w 0 ≡ get_or l.before w 0;
}
