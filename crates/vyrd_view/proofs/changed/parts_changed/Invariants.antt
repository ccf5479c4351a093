use Rattle.vyrd_view.proofs.Prelude.{◌≡◌, ℕ, ◌+◌, ◌*◌, ◌/◌, ◌<◌, ◌≤◌, false, length, drop, get_or}
use Rattle.vyrd_view.proofs.Prelude.{pair_at, is_touched}
use Rattle.vyrd_view.proofs.changed.parts_changed.Given as goal

abbrev pub invariant-loop-word : goal.invariant-loop-word
invariant-loop-word g l = record {
  sound : l.parts.refused ≡ false;
  specified : l.parts.specified ≡ l.initial.parts.specified;
  places : length l.parts.pairs ≡ length l.initial.parts.pairs;
  others : (m : ℕ) → m < length l.parts.pairs
      → is_touched (g.D.Decode.width l.decoder) (m / (g.D.Decode.places l.decoder))
      (drop l.word-index l.changed) ≡ false
      → get_or l.parts.pairs m (0, 0)
      ≡ pair_at (g.D.Decode.width l.decoder) (g.D.Decode.places l.decoder)
      (g.D.Decode.gives l.decoder) l.words m;
  counted : l.steps ≤ l.initial.steps + l.word-index * (1 + 2 * g.D.Decode.places l.decoder);
}
