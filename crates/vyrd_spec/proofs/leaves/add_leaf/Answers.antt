use Rattle.vyrd_spec.proofs.Prelude.{arith, ap, ◌∙◌, ◌+◌, ◌*◌, flat_map, slice_index, added}
use Rattle.vyrd_spec.proofs.Prelude.{numbers_below, amount_of, place_parts}
use Rattle.vyrd_base.proofs.AddedLaws.{added-push, amount_of-added}
use Rattle.vyrd_base.proofs.PartLaws.{places_at_most, node_parts-places, place_is}
use Rattle.vyrd_spec.proofs.LeafLaws.{entry_sound}
use Rattle.vyrd_spec.proofs.leaves.add_leaf.Goals as goal

pub add_entry-requires : goal.add_entry-requires
add_entry-requires c =
    let words = c.args.words.now in
    let leaf = c.args.leaf in
    let place = c.loop-place.place in
    let key = slice_index words (12 * leaf + 4 + place) in
    record {
      sound = entry_sound words leaf place c.requires.sound (omega arith);
      few = omega (
        arith,
        ap (λ s. amount_of s key) c.loop-place.invariant
            ∙ amount_of-added (flat_map (place_parts words leaf) (numbers_below place))
            c.args.values.now key,
        places_at_most words leaf place key,
        c.requires.few key,
      );
    }

pub loop-place-preserved : goal.loop-place-preserved
loop-place-preserved = grind (arith, added-push, added, place_is)

pub returns : goal.returns
returns = grind (arith, added, node_parts-places)
