use Rattle.std.proofs.Common.{arith}
use Rattle.vyrd_relay.proofs.NumberLaws.{places_kept}
use Rattle.vyrd_relay.proofs.reorder.make_places.Goals as goal

pub returns-clause-same : goal.returns-clause-same
returns-clause-same c =
    let short = c.if-len.false in
    places_kept _ _ c.args.len _ (omega (arith, c.len.ensures, short))
    (c.in_ok-resize.ensures.items_if_clones_equal (λ y h. grind arith))
