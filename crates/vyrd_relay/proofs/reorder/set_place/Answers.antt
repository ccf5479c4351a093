use Rattle.std.proofs.Common.{arith}
use Rattle.vyrd_relay.proofs.NumberLaws.{place_set}
use Rattle.vyrd_relay.proofs.reorder.set_place.Goals as goal

pub returns-clause-set : goal.returns-clause-set
returns-clause-set c = let enough = c.in_ok-make_places.ensures.enough in place_set _ _ _ _
    (omega (arith, enough)) c.in_ok-make_places.ensures.same
