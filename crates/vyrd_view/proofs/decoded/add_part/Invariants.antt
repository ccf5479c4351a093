use Rattle.vyrd_view.proofs.Prelude.{◌≡◌, ◌+◌, ◌*◌, map, numbers_below, collected, pair_at}
use Rattle.vyrd_view.proofs.decoded.add_part.Given as goal

abbrev pub invariant-loop-place : goal.invariant-loop-place
invariant-loop-place g l =
    l.sums ≡ collected
    (map (pair_at (g.D.Decode.width l.decoder) (g.D.Decode.places l.decoder)
    (g.D.Decode.gives l.decoder)
    l.words) (numbers_below (l.part * g.D.Decode.places l.decoder + l.place)))
