use Rattle.std.proofs.Common.{◌≡◌, ◌≢◌, ℕ, ◌+◌, ◌*◌, ◌/◌, ◌<◌, ◌≤◌, false, length, get_or}
use Rattle.vyrd_view.specs.Decoded.{pair_at}
use Rattle.vyrd_view.proofs.changed.part_changed.Given as goal

abbrev pub invariant-loop-place : goal.invariant-loop-place
invariant-loop-place g l = record {
  sound : l.parts.refused ≡ false;
  specified : l.parts.specified ≡ l.initial.parts.specified;
  places : length l.parts.pairs ≡ length l.initial.parts.pairs;
  inside : (j : ℕ) → j < l.place → get_or l.parts.pairs (l.part * g.D.Decode.places l.decoder + j)
      (0, 0)
      ≡ pair_at (g.D.Decode.width l.decoder) (g.D.Decode.places l.decoder)
      (g.D.Decode.gives l.decoder) l.words
      (l.part * g.D.Decode.places l.decoder + j);
  outside : (m : ℕ) → m / (g.D.Decode.places l.decoder) ≢ l.part
      → get_or l.parts.pairs m (0, 0) ≡ get_or l.initial.parts.pairs m (0, 0);
  counted : l.steps ≤ l.initial.steps + 2 * l.place;
}
