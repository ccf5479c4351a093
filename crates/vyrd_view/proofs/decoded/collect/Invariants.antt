use Rattle.vyrd_view.proofs.Prelude.{◌≡◌, collected, pairs_by}
use Rattle.vyrd_view.proofs.decoded.collect.Given as goal

abbrev pub invariant-loop-part : goal.invariant-loop-part
invariant-loop-part g l = l.sums
    ≡ collected (pairs_by (g.D.Decode.width l.decoder) (g.D.Decode.places l.decoder) l.part
    (g.D.Decode.gives l.decoder) l.words)
