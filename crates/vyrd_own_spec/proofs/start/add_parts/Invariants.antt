use Rattle.vyrd_own_spec.proofs.Prelude.{◌*◌, arc_value, written_in, pair_at, own_gives, HasSums}
use Rattle.vyrd_own_spec.proofs.start.add_parts.Given as goal

abbrev pub invariant-loop-part : goal.invariant-loop-part
invariant-loop-part l =
    HasSums l.shown
    (pair_at l.decoder.width l.decoder.places
    (own_gives (written_in (arc_value l.decoder.specification))) l.words)
    (l.part * l.decoder.places)
