use Rattle.vyrd_own_log.proofs.Prelude.{◌+◌, ◌-◌, ◌≤◌, length, kept_of, IsFedFront, IsSound}
use Rattle.vyrd_own_log.proofs.FrontLaws.{at_line}
use Rattle.vyrd_own_log.proofs.piece_reader.PieceReader.take_entries.Given as goal

abbrev pub invariant-loop-line : goal.invariant-loop-line
invariant-loop-line l = record {
  counted : l.line ≤ l.self.lines.max_lines + 1;
  shorter : length l.rest ≤ length l.piece;
  fed : IsSound (kept_of l.self) → IsFedFront (kept_of l.self) l.piece l.rest l.initial.out.items
      l.out.items
      l.initial.numbers.items l.numbers.items (at_line (kept_of l.self) l.line);
}

abbrev pub decreases-loop-line : goal.decreases-loop-line
decreases-loop-line l = l.self.lines.max_lines + 1 - l.line
