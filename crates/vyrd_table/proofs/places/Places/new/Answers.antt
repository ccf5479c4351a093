use Rattle.vyrd_table.proofs.Prelude.{◌+◌, ◌-◌, ◌^◌, [], ap, sym, subst, ◌∙◌, arith, ArePlaces}
use Rattle.vyrd_table.proofs.Prelude.{is_named, entries_in, count_by}
use Rattle.vyrd_table.proofs.NameLaws.{new_unnamed}
use Rattle.vyrd_table.proofs.PlaceLaws.{new_places, new_entries}
use Rattle.vyrd_table.proofs.places.Places.new.Goals as goal

pub returns-clause-placed : goal.returns-clause-placed
returns-clause-placed g c =
    let nothing = g.V.Value.nothing in
    let is_nothing = g.V.Value.is_nothing in
    let bits = c.args.bits in
    subst (λ rest. ArePlaces nothing is_nothing (64 - bits) c.in_ok-free_places.field-0.items rest)
    (sym c.new.ensures)
    (subst (λ places. ArePlaces nothing is_nothing (64 - bits) places [])
    (sym c.in_ok-free_places.ensures.free)
    (new_places nothing is_nothing g.met.V.Value.nothing_passes g.met.V.Value.only_nothing
    (64 - bits) bits c.requires.0 (omega (arith, c.requires.1))))

pub returns-clause-entries : goal.returns-clause-entries
returns-clause-entries g c =
    let nothing = g.V.Value.nothing in
    let is_nothing = g.V.Value.is_nothing in
    ap (λ rest. entries_in is_nothing c.in_ok-free_places.field-0.items rest) c.new.ensures
    ∙ ap (λ places. entries_in is_nothing places []) c.in_ok-free_places.ensures.free
    ∙ new_entries nothing is_nothing g.met.V.Value.nothing_passes g.met.V.Value.only_nothing
    (2 ^ c.args.bits + 3)

pub returns-clause-names : goal.returns-clause-names
returns-clause-names g c =
    omega (
      arith,
      ap (λ places. count_by is_named places) c.in_ok-free_places.ensures.free,
      new_unnamed (2 ^ c.args.bits + 3) g.V.Value.nothing,
      ap (λ rest. count_by is_named rest) c.new.ensures,
    )
