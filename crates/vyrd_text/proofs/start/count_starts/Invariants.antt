use Rattle.vyrd_text.proofs.Prelude.{◌≡◌, ◌≤◌, ◌+◌, length, ◌==◌, slice_split, front_starts}
use Rattle.vyrd_text.proofs.start.count_starts.Given as goal

abbrev pub invariant-loop-line : goal.invariant-loop-line
invariant-loop-line l = record {
  counted : l.count + front_starts (slice_split (λ b. b == 10) l.rest)
      ≡ front_starts (slice_split (λ b. b == 10) l.text);
  few : l.count + length l.rest ≤ length l.text;
}

abbrev pub decreases-loop-line : goal.decreases-loop-line
decreases-loop-line l = length l.rest
