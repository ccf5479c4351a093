use Rattle.vyrd_shape.proofs.Prelude.{◌≡◌, ◌+◌, map, sum_by, held_count, released, IsLinked}
use Rattle.vyrd_shape.proofs.StampLaws.{IsRaising}
use Rattle.vyrd_shape.proofs.holders.release_linked.Given as goal

abbrev pub invariant-loop-first : goal.invariant-loop-first
invariant-loop-first g l = record {
  linked : IsLinked l.holder l.by_word l.links l.first;
  same : map (released l.holder) l.by_word ≡ map (released l.holder) l.fn.by_word;
  raising : IsRaising l.holder l.stamp l.fn.by_word l.fn.stamps l.by_word l.stamps;
  steps : l.steps + held_count l.by_word ≡ l.fn.steps + held_count l.fn.by_word;
}

abbrev pub decreases-loop-first : goal.decreases-loop-first
decreases-loop-first g l = sum_by (λ x. x) l.by_word
