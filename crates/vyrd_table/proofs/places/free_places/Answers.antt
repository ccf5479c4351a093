use Rattle.vyrd_table.proofs.Prelude.{replicate, ◌∙◌, IfOk-weaker}
use Rattle.vyrd_table.proofs.places.free_places.Goals as goal

pub returns-clause-free : goal.returns-clause-free
returns-clause-free g c = IfOk-weaker c.vec.result _ _ (λ v is.
    is (λ y clone i. (clone.0 i, g.met.V.Value.clones_equal c.nothing.result y.1 clone.1 i))
    ∙ (λ i. replicate (c.count_of-count.ensures i) (0, c.nothing.ensures i)))
    c.vec.ensures.items_if_clones_equal
