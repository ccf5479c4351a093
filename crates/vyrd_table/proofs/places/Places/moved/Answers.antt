use Rattle.vyrd_table.proofs.Prelude.{[], ap, sym, subst, ◌∙◌, arith, length, count_by, entries_of}
use Rattle.vyrd_table.proofs.Prelude.{is_taken, is_named, AreNew, entries_in}
use Rattle.std.proofs.lemmas.List.Sums.{count_by-le-length}
use Rattle.vyrd_table.proofs.MovedLaws.{entries_new, entries_again, places_new, length_in}
use Rattle.vyrd_table.proofs.PlaceLaws.{rest_fewer}
use Rattle.vyrd_table.proofs.places.Places.moved.Goals as goal

pub returns-in_err-rest-clause-steps : goal.returns-in_err-rest-clause-steps
returns-in_err-rest-clause-steps g c =
    let s = c.args.self.now in
    let fewer = rest_fewer g.V.Value.nothing g.V.Value.is_nothing s.pairs.items s.rest.map.entries
    c.requires.placed.formed in
    omega (arith, c.add.ensures, c.len.ensures.len, c.new.ensures.steps, fewer)

pub take_all-requires-clause-new : goal.take_all-requires-clause-new
take_all-requires-clause-new g c =
    let nothing = g.V.Value.nothing in
    let is_nothing = g.V.Value.is_nothing in
    let rest = c.args.self.now.rest.map.entries in
    subst (λ base. AreNew nothing is_nothing base c.deref.result.now)
    (sym c.in_ok-larger.ensures.entries)
    (subst (AreNew nothing is_nothing []) (sym (c.deref.ensures.value ∙ c.in_ok-rest.ensures.pairs))
    (entries_new nothing is_nothing rest g.met.V.Value.nothing_passes c.requires.placed.formed))

pub take_all-requires-clause-fits : goal.take_all-requires-clause-fits
take_all-requires-clause-fits g c =
    let s = c.args.self.now in
    let is_nothing = g.V.Value.is_nothing in
    let fewer = rest_fewer g.V.Value.nothing is_nothing s.pairs.items s.rest.map.entries
    c.requires.placed.formed in
    omega (
      arith,
      ap length c.in_ok-larger.ensures.entries,
      count_by-le-length (is_taken is_nothing) c.deref.result.now,
      ap length (c.deref.ensures.value ∙ c.in_ok-rest.ensures.pairs),
      fewer,
      c.requires.fits,
    )

pub returns-in_err-take_all-clause-steps : goal.returns-in_err-take_all-clause-steps
returns-in_err-take_all-clause-steps g c =
    let s = c.args.self.now in
    let is_nothing = g.V.Value.is_nothing in
    let fewer = rest_fewer g.V.Value.nothing is_nothing s.pairs.items s.rest.map.entries
    c.requires.placed.formed in
    omega (
      arith,
      c.new.ensures.steps,
      c.add.ensures,
      c.len.ensures.len,
      c.take_all.ensures.steps,
      count_by-le-length (is_taken is_nothing) c.deref.result.now,
      ap length (c.deref.ensures.value ∙ c.in_ok-rest.ensures.pairs),
      fewer,
    )

pub take_all-requires-2-clause-new : goal.take_all-requires-2-clause-new
take_all-requires-2-clause-new g c =
    let nothing = g.V.Value.nothing in
    let is_nothing = g.V.Value.is_nothing in
    let s = c.args.self.now in
    let rest = s.rest.map.entries in
    let copied = c.in_ok-take_all.ensures.ok
    ∙ ap (λ base. entries_in is_nothing c.deref.result.now base) c.in_ok-larger.ensures.entries
    ∙ ap (λ ps. entries_in is_nothing ps []) (c.deref.ensures.value ∙ c.in_ok-rest.ensures.pairs)
    ∙ entries_again nothing is_nothing rest c.requires.placed.formed in
    subst (λ base. AreNew nothing is_nothing base c.deref-2.result.now) (sym copied)
    (subst (AreNew nothing is_nothing rest) (sym c.deref-2.ensures.value)
    (places_new nothing is_nothing g.met.V.Value.nothing_passes g.met.V.Value.only_nothing s.shift
    s.pairs.items rest c.requires.placed))

pub take_all-requires-2-clause-fits : goal.take_all-requires-2-clause-fits
take_all-requires-2-clause-fits g c =
    let nothing = g.V.Value.nothing in
    let is_nothing = g.V.Value.is_nothing in
    let s = c.args.self.now in
    let rest = s.rest.map.entries in
    let copied = c.in_ok-take_all.ensures.ok
    ∙ ap (λ base. entries_in is_nothing c.deref.result.now base) c.in_ok-larger.ensures.entries
    ∙ ap (λ ps. entries_in is_nothing ps []) (c.deref.ensures.value ∙ c.in_ok-rest.ensures.pairs)
    ∙ entries_again nothing is_nothing rest c.requires.placed.formed in
    omega (
      arith,
      ap length copied,
      ap (λ ps. count_by (is_taken is_nothing) ps) c.deref-2.ensures.value,
      length_in nothing is_nothing s.pairs.items rest c.requires.placed.formed
          (places_new nothing is_nothing g.met.V.Value.nothing_passes g.met.V.Value.only_nothing
          s.shift s.pairs.items rest c.requires.placed),
      c.requires.fits,
    )

pub returns-in_err-take_all-2-clause-steps : goal.returns-in_err-take_all-2-clause-steps
returns-in_err-take_all-2-clause-steps g c =
    let nothing = g.V.Value.nothing in
    let is_nothing = g.V.Value.is_nothing in
    let s = c.args.self.now in
    let rest = s.rest.map.entries in
    omega (
      arith,
      c.new.ensures.steps,
      c.add.ensures,
      c.len.ensures.len,
      c.take_all.ensures.steps,
      c.take_all-2.ensures.steps,
      count_by-le-length (is_taken is_nothing) c.deref.result.now,
      ap length (c.deref.ensures.value ∙ c.in_ok-rest.ensures.pairs),
      ap length c.deref-2.ensures.value,
      ap (λ ps. count_by (is_taken is_nothing) ps) c.deref-2.ensures.value,
      length_in nothing is_nothing s.pairs.items rest c.requires.placed.formed
          (places_new nothing is_nothing g.met.V.Value.nothing_passes g.met.V.Value.only_nothing
          s.shift s.pairs.items rest c.requires.placed),
    )

pub returns-clause-entries : goal.returns-clause-entries
returns-clause-entries g c =
    let nothing = g.V.Value.nothing in
    let is_nothing = g.V.Value.is_nothing in
    let s = c.args.self.now in
    let copied = c.in_ok-take_all.ensures.ok
    ∙ ap (λ base. entries_in is_nothing c.deref.result.now base) c.in_ok-larger.ensures.entries
    ∙ ap (λ ps. entries_in is_nothing ps []) (c.deref.ensures.value ∙ c.in_ok-rest.ensures.pairs)
    ∙ entries_again nothing is_nothing s.rest.map.entries c.requires.placed.formed in
    c.in_ok-take_all-2.ensures.ok
    ∙ ap (λ ps. entries_in is_nothing ps (entries_of is_nothing c.take_all.new.self))
    c.deref-2.ensures.value
    ∙ ap (λ base. entries_in is_nothing s.pairs.items base) copied

pub returns-clause-steps : goal.returns-clause-steps
returns-clause-steps g c =
    let nothing = g.V.Value.nothing in
    let is_nothing = g.V.Value.is_nothing in
    let s = c.args.self.now in
    let rest = s.rest.map.entries in
    omega (
      arith,
      c.new.ensures.steps,
      c.add.ensures,
      c.len.ensures.len,
      c.take_all.ensures.steps,
      c.take_all-2.ensures.steps,
      count_by-le-length (is_taken is_nothing) c.deref.result.now,
      ap length (c.deref.ensures.value ∙ c.in_ok-rest.ensures.pairs),
      ap length c.deref-2.ensures.value,
      ap (λ ps. count_by (is_taken is_nothing) ps) c.deref-2.ensures.value,
      length_in nothing is_nothing s.pairs.items rest c.requires.placed.formed
          (places_new nothing is_nothing g.met.V.Value.nothing_passes g.met.V.Value.only_nothing
          s.shift s.pairs.items rest c.requires.placed),
    )

pub returns-clause-names : goal.returns-clause-names
returns-clause-names g c =
    omega (
      arith,
      c.in_ok-larger.ensures.names,
      c.in_ok-take_all.ensures.names,
      c.in_ok-take_all-2.ensures.names,
      ap (λ ps. count_by is_named ps) (c.deref.ensures.value ∙ c.in_ok-rest.ensures.pairs),
      ap (λ ps. count_by is_named ps) c.deref-2.ensures.value,
    )
