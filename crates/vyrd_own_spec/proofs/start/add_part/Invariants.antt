use Rattle.vyrd_own_spec.proofs.Prelude.{◌+◌, ◌*◌, arc_value, written_in, pair_at, own_gives}
use Rattle.vyrd_own_spec.proofs.Prelude.{HasSums}
use Rattle.vyrd_own_spec.proofs.start.add_part.Given as goal

abbrev pub invariant-loop-place : goal.invariant-loop-place
invariant-loop-place l =
    HasSums l.shown
    (pair_at l.decoder.width l.decoder.places
    (own_gives (written_in (arc_value l.decoder.specification))) l.words)
    (l.part * l.decoder.places + l.place)
