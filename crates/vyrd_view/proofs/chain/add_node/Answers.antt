use Rattle.vyrd_view.proofs.Prelude.{arith, ap, ◌∙◌, flat_map, numbers_below, amount_of, added}
use Rattle.vyrd_base.proofs.AddedLaws.{added-push, amount_of-added}
use Rattle.vyrd_base.proofs.PartLaws.{places_at_most, place_is, place_parts, node_parts-places}
use Rattle.vyrd_view.proofs.chain.add_node.Goals as goal

pub add_entry-requires : goal.add_entry-requires
add_entry-requires c = record {
  few = λ key.
      let so_far = flat_map (place_parts c.args.words.now c.args.node) (numbers_below c.loop-j.j) in
      omega (
        arith,
        ap (λ s. amount_of s key) c.loop-j.invariant ∙ amount_of-added so_far c.args.sums.now key,
        places_at_most c.args.words.now c.args.node c.loop-j.j key,
        c.requires.few key,
      );
}

pub loop-j-preserved : goal.loop-j-preserved
loop-j-preserved = grind (arith, added-push, added, place_is)

pub returns : goal.returns
returns = grind (arith, added, node_parts-places)
