use Rattle.std.proofs.Common.{arith}
use Rattle.vyrd_own_states.proofs.PairLaws.{part_added, all_parts}
use Rattle.vyrd_own_states.proofs.own_amount.amount_by.Goals as goal

pub overflow_add-amount : goal.overflow_add-amount
overflow_add-amount = grind arith

pub loop-part-preserved : goal.loop-part-preserved
loop-part-preserved g c =
    let d = g.D.Decode in
    let decoder = c.args.decoder.now in
    let known = c.loop-part.invariant in
    let more = c.amount_of_part-amount in record {
      given = part_added (d.width decoder) (d.places decoder) (d.gives decoder) c.args.words.now
          c.args.key c.loop-part.part c.loop-part.amount more.result known.given
          more.ensures.given;
      low = omega (arith, known.low, more.ensures.low);
    }

pub returns : goal.returns
returns = grind (arith, all_parts)
