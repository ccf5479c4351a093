use Rattle.std.proofs.Common.{ℕ, ◌*◌, ◌<◌, ◌≤◌, get_or}
use Rattle.vyrd_view.proofs.room.needed_parts.Given as goal

abbrev pub invariant-loop-word : goal.invariant-loop-word
invariant-loop-word g l = record {
  few : l.needed ≤ g.D.Decode.parts l.decoder;
  room : (i : ℕ) → i < l.word-index
      → get_or l.changed i 0 < l.needed * g.D.Decode.width l.decoder;
}
