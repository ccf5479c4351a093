use Rattle.std.proofs.Common.{arith}
use Rattle.vyrd_shape.proofs.ChainLaws.{linked_new}
use Rattle.vyrd_shape.proofs.holders.Holders.new.Goals as goal

pub invariant_of-result : goal.invariant_of-result
invariant_of-result c =
    rw (
      c.in_ok-vec.ensures.items_if_clones_equal (λ y e. e),
      c.in_ok-vec-2.ensures.items_if_clones_equal (λ y e. e),
      c.in_ok-vec-3.ensures.items_if_clones_equal (λ y e. e),
    )
    (linked_new c.args.words c.args.callers (omega arith) (omega arith))
