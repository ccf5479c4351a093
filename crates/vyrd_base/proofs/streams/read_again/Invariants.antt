-- Reads that were broken off have taken nothing, and the buffer keeps its length.
use Rattle.vyrd_base.proofs.Prelude.{◌≡◌, length, Keeps}
use Rattle.vyrd_base.proofs.streams.read_again.Given as goal

abbrev pub invariant-loop : goal.invariant-loop
invariant-loop g l = (length l.buf ≡ length l.initial.buf)
    × Keeps (g.R.Read.remaining l.initial.reader) (g.R.Read.remaining l.reader)
