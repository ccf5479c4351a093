use Rattle.vyrd_text.proofs.Prelude.{◌≡◌, ℕ, ◌+◌, ◌≤◌, List, ◌++◌, length, vec_len, ◌==◌, count_by}
use Rattle.vyrd_text.proofs.Prelude.{vec_capacity, starts_ahead, IsFed}
use Rattle.vyrd_text.proofs.line_reader.LineReader.take_piece.Given as goal

abbrev pub invariant-loop-line : goal.invariant-loop-line
invariant-loop-line l = record {
  read : List ℕ;
  parted : l.piece ≡ read ++ l.rest;
  fed : IsFed l.initial.self read l.initial.start.items l.start.items l.initial.out.items
      l.out.items l.self;
  start_room : vec_len l.start + starts_ahead l.self l.rest ≤ vec_capacity l.start;
  room : vec_len l.out + count_by (λ b. b == 10) l.rest ≤ vec_capacity l.out;
}

abbrev pub decreases-loop-line : goal.decreases-loop-line
decreases-loop-line l = length l.rest
