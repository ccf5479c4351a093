use Rattle.vyrd_witness.proofs.Prelude.{◌≡◌, ◌+◌, drop, sum_by}
use Rattle.vyrd_witness.proofs.parts.sum_of.Given as goal

abbrev pub invariant-loop-part : goal.invariant-loop-part
invariant-loop-part l = l.sum + sum_by (λ part. part.1) (drop l.part-index l.parts)
    ≡ sum_by (λ part. part.1) l.parts
