use Rattle.vyrd_own_states.proofs.Prelude.{◌≡◌, ◌*◌, ◌≤◌, ◌^◌, flat_map, given, numbers_below}
use Rattle.vyrd_own_states.proofs.Prelude.{part_pairs}
use Rattle.vyrd_own_states.proofs.own_amount.amount_by.Given as goal

abbrev pub invariant-loop-part : goal.invariant-loop-part
invariant-loop-part g l =
    let d = g.D.Decode in record {
      given : l.amount ≡ given l.key (flat_map
          (part_pairs (d.width l.decoder) (d.places l.decoder) (d.gives l.decoder) l.words)
          (numbers_below l.part));
      low : l.amount ≤ l.part * (4 * 2 ^ 64);
    }
