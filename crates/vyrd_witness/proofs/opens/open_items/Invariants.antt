use Rattle.vyrd_witness.proofs.Prelude.{◌≡◌, newest_first, numbers_below, open_items_of}
use Rattle.std.specs.List.{flat_map}
use Rattle.vyrd_witness.proofs.opens.open_items.Given as goal

abbrev pub invariant-loop-caller : goal.invariant-loop-caller
invariant-loop-caller l =
    l.items.items ≡ flat_map (open_items_of (newest_first l.front)) (numbers_below l.caller)
