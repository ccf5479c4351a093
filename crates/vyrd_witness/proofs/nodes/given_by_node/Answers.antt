use Rattle.vyrd_witness.proofs.Prelude.{ap, ◌∙◌, arith, given, given_flat_push}
use Rattle.vyrd_base.proofs.PartLaws.{place_is, place_parts, node_parts-places}
use Rattle.vyrd_witness.proofs.nodes.given_by_node.Goals as goal

pub loop-j-preserved : goal.loop-j-preserved
loop-j-preserved c =
    let words = c.args.words.now in
    let node = c.args.node in
    let j = c.loop-j.j in
    let more = c.given_by_entry-amount.ensures in
    let own = more.given ∙ ap (given c.args.key) (place_is words node j) in record {
      given = omega (
        arith,
        c.loop-j.invariant.given,
        own,
        given_flat_push c.args.key (place_parts words node) j,
      );
      low = omega (arith, c.loop-j.invariant.low, more.low);
    }

pub returns-clause-given : goal.returns-clause-given
returns-clause-given = grind (arith, given, node_parts-places)
