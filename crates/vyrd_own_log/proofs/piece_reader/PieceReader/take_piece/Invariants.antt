use Rattle.vyrd_own_log.proofs.Prelude.{◌≡◌, length, kept_of, IsFedFront, IsSafe, IsSound}
use Rattle.vyrd_own_log.proofs.piece_reader.PieceReader.take_piece.Given as goal

abbrev pub invariant-loop-line : goal.invariant-loop-line
invariant-loop-line l = record {
  safe : IsSafe (kept_of l.self);
  limit : l.self.lines.max_lines ≡ l.fn.self.lines.max_lines;
  fed : IsSound (kept_of l.fn.self) → IsFedFront (kept_of l.fn.self) l.piece l.rest l.fn.out.items
      l.out.items
      l.fn.numbers.items l.numbers.items (kept_of l.self);
}

abbrev pub decreases-loop-line : goal.decreases-loop-line
decreases-loop-line l = length l.rest
