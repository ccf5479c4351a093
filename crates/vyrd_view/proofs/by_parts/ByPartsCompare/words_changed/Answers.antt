use Rattle.std.proofs.Common.{◌+◌, ◌*◌, arith}
use Rattle.vyrd_view.proofs.PriceLaws.{same_price}
use Rattle.vyrd_view.proofs.by_parts.ByPartsCompare.words_changed.Goals as goal

pub returns-clause-steps : goal.returns-clause-steps
returns-clause-steps g c =
    omega (
      arith,
      c.words_changed.ensures.steps,
      same_price (1 + 2 * g.D.Decode.most_places c.args.self.now.shows) c.args.changed.now,
    )
