use Rattle.vyrd_witness.proofs.Prelude.{◌≡◌, ◌++◌, take, given_items}
use Rattle.vyrd_witness.proofs.items.push_given.Given as goal

abbrev pub invariant-loop-given : goal.invariant-loop-given
invariant-loop-given l =
    l.items.items
    ≡ l.initial.items.items ++ given_items l.fn.at l.fn.key (take l.given-index l.parts)
