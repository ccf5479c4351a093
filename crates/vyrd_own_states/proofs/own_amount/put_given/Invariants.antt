use Rattle.vyrd_own_states.proofs.Prelude.{◌≡◌, ◌++◌, flat_map, given, numbers_below, part_pairs}
use Rattle.vyrd_own_states.proofs.Prelude.{told}
use Rattle.vyrd_own_states.proofs.own_amount.put_given.Given as goal

abbrev pub invariant-loop-part : goal.invariant-loop-part
invariant-loop-part g l =
    let d = g.D.Decode in
    let pairs = part_pairs (d.width l.decoder) (d.places l.decoder) (d.gives l.decoder) l.words in
    l.parts.items ≡ l.fn.parts.items
    ++ flat_map (λ i. told i (given l.key (pairs i))) (numbers_below l.part)
