use Rattle.std.proofs.Common.{◌≡◌, ℕ, ◌*◌, ◌/◌, ◌%◌, ◌<◌, ◌≤◌, false, length, replicate, get_or}
use Rattle.vyrd_view.proofs.room.grow.Given as goal

abbrev pub invariant-loop-part : goal.invariant-loop-part
invariant-loop-part g l = record {
  sound : l.parts.refused ≡ false;
  specified : l.parts.specified ≡ l.initial.parts.specified;
  places : length l.parts.pairs ≡ l.part * g.D.Decode.places l.decoder;
  grown : length l.initial.parts.pairs ≤ length l.parts.pairs;
  old : (m : ℕ) → m < length l.initial.parts.pairs
      → get_or l.parts.pairs m (0, 0) ≡ get_or l.initial.parts.pairs m (0, 0);
  new : (m : ℕ) → length l.initial.parts.pairs ≤ m → m < length l.parts.pairs
      → get_or l.parts.pairs m (0, 0)
      ≡ g.D.Decode.gives l.decoder (m / g.D.Decode.places l.decoder)
      (replicate (g.D.Decode.width l.decoder) 0) (m % g.D.Decode.places l.decoder);
}
