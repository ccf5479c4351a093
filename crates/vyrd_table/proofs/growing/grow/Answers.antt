use Rattle.vyrd_table.proofs.Prelude.{◌+◌, ◌-◌, ◌^◌, min, length, ap, sym, subst, ◌∙◌, arith}
use Rattle.vyrd_table.proofs.Prelude.{HasRoom, entries_of, names_of, first_room}
use Rattle.vyrd_table.proofs.NameLaws.{keys_fewer}
use Rattle.vyrd_table.proofs.PlaceLaws.{entries_formed}
use Rattle.vyrd_table.proofs.GrowingLaws.{few_keys, grown_room, grown_cost}
use Rattle.vyrd_table.proofs.growing.grow.Goals as goal

pub moved-requires-clause-fits : goal.moved-requires-clause-fits
moved-requires-clause-fits g c =
    let s = c.args.places.now in
    let is_nothing = g.V.Value.is_nothing in
    let fewer = keys_fewer is_nothing s.pairs.items s.rest.map.entries
    (entries_formed g.V.Value.nothing is_nothing s.pairs.items s.rest.map.entries
    c.requires.placed.formed) in
    few_keys (64 - s.shift) c.args.most_bits (length (entries_of is_nothing s))
    (omega (arith, fewer, c.requires.half)) c.requires.least c.requires.larger
    c.requires.most

pub returns-in-Ok-clause-room : goal.returns-in-Ok-clause-room
returns-in-Ok-clause-room g c =
    let most = c.args.most_bits in
    let bits = min (64 - c.args.places.now.shift + 2) most in
    let is = grown_room (64 - c.args.places.now.shift) most (names_of c.in-Ok.larger)
    (omega (arith, c.in-Ok.ensures.names, c.requires.half)) c.requires.least
    c.requires.larger c.requires.most in
    subst (λ b. HasRoom b (names_of c.in-Ok.larger) most c.room_for.result)
    (omega (arith, c.in-Ok.ensures.shift, c.grown_bits-bits.ensures))
    (subst (λ r. HasRoom bits (names_of c.in-Ok.larger) most r)
    (sym (c.room_for.ensures ∙ ap (λ b. first_room b most) c.grown_bits-bits.ensures)) is)

pub returns-in-Ok-clause-steps : goal.returns-in-Ok-clause-steps
returns-in-Ok-clause-steps g c =
    let s = c.args.places.now in
    let is_nothing = g.V.Value.is_nothing in
    let fewer = keys_fewer is_nothing s.pairs.items s.rest.map.entries
    (entries_formed g.V.Value.nothing is_nothing s.pairs.items s.rest.map.entries
    c.requires.placed.formed) in
    omega (
      arith,
      c.moved.ensures.steps,
      c.requires.placed.size,
      ap (λ b. 2 ^ b) c.grown_bits-bits.ensures,
      grown_cost (64 - s.shift) c.args.most_bits (length (entries_of is_nothing s))
          (omega (arith, fewer, c.requires.half)) c.requires.least
          c.requires.larger c.requires.most,
    )

pub returns-in-Err-clause-steps : goal.returns-in-Err-clause-steps
returns-in-Err-clause-steps g c =
    let s = c.args.places.now in
    let is_nothing = g.V.Value.is_nothing in
    let fewer = keys_fewer is_nothing s.pairs.items s.rest.map.entries
    (entries_formed g.V.Value.nothing is_nothing s.pairs.items s.rest.map.entries
    c.requires.placed.formed) in
    omega (
      arith,
      c.moved.ensures.steps,
      c.requires.placed.size,
      ap (λ b. 2 ^ b) c.grown_bits-bits.ensures,
      grown_cost (64 - s.shift) c.args.most_bits (length (entries_of is_nothing s))
          (omega (arith, fewer, c.requires.half)) c.requires.least
          c.requires.larger c.requires.most,
    )
