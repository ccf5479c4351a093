use Rattle.vyrd_witness.proofs.Prelude.{◌≡◌, ◌++◌, newest_first, numbers_below, held_by}
use Rattle.std.specs.List.{flat_map}
use Rattle.vyrd_witness.proofs.races.push_held.Given as goal

abbrev pub invariant-loop-other : goal.invariant-loop-other
invariant-loop-other l = l.items.items ≡ l.fn.items.items
    ++ flat_map (held_by l.caller l.word (newest_first l.front)) (numbers_below l.other)
