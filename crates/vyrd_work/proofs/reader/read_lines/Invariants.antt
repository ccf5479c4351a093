use Rattle.vyrd_work.proofs.Prelude.{◌≡◌, ◌+◌, ◌≤◌, length, cut, workload_of, turns_in, lines_read}
use Rattle.vyrd_work.proofs.reader.read_lines.Given as goal

abbrev pub invariant-loop-line : goal.invariant-loop-line
invariant-loop-line l =
    (lines_read (workload_of l.initial.work) 2 (cut l.text)
    ≡ lines_read (workload_of l.work) l.number (cut l.rest))
    × (l.turns ≡ turns_in l.work.turns.items) × (l.number + length l.rest ≤ length l.text + 2)

abbrev pub decreases-loop-line : goal.decreases-loop-line
decreases-loop-line l = length l.rest
