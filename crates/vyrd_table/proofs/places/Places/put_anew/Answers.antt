use Rattle.vyrd_table.proofs.Prelude.{◌≡◌, false, ◌+◌, ◌≤◌, ◌∙◌, ap, sym, subst, arith, value_of}
use Rattle.vyrd_table.proofs.Prelude.{with_value, ArePlaces, is_named, one_name, entries_in}
use Rattle.vyrd_table.proofs.Prelude.{names_in, count_by}
use Rattle.std.proofs.Common.{OnOk, OnErr, Result, Ok, Err}
use Rattle.std.proofs.lemmas.Result.{on_ok_weaker, on_err_weaker}
use Rattle.vyrd_table.proofs.NameLaws.{names_set, names_with_value, names_taken_out}
use Rattle.vyrd_table.proofs.PlaceLaws.{value_missing, free_places, free_entries, rest_places}
use Rattle.vyrd_table.proofs.PlaceLaws.{rest_entries, rest_fewer}
use Rattle.vyrd_table.proofs.PriceLaws.{question_mono}
use Rattle.vyrd_table.proofs.places.Places.put_anew.Goals as goal

either : {T E : Type 0} (r : Result T E) (P Q R : Type 0) → (P → R) → (Q → R) → OnOk r P → OnErr r Q
    → R
either (Ok x) P Q R f g p q = f p
either (Err e) P Q R f g p q = g q

pub returns-in-Some-clause-placed : goal.returns-in-Some-clause-placed
returns-in-Some-clause-placed g c =
    let s = c.args.self.now in
    free_places g.V.Value.nothing g.V.Value.is_nothing g.met.V.Value.nothing_passes
    g.met.V.Value.only_nothing s.shift s.pairs.items
    s.rest.map.entries c.in-Some.place c.args.key c.args.value c.requires.placed c.requires.missing
    c.in-Some.ensures.from c.in-Some.ensures.to
    c.in-Some.ensures.free c.in-Some.ensures.away

pub returns-in-Some-clause-ok : goal.returns-in-Some-clause-ok
returns-in-Some-clause-ok g c =
    let s = c.args.self.now in
    free_entries g.V.Value.nothing g.V.Value.is_nothing g.met.V.Value.nothing_passes
    g.met.V.Value.only_nothing s.shift s.pairs.items
    s.rest.map.entries c.in-Some.place c.args.key c.args.value c.requires.placed c.requires.missing
    c.in-Some.ensures.from c.in-Some.ensures.to
    c.in-Some.ensures.free c.in-Some.ensures.away

pub returns-in-Some-clause-steps : goal.returns-in-Some-clause-steps
returns-in-Some-clause-steps g c =
    let s = c.args.self.now in
    omega (
      arith,
      c.tick.ensures,
      c.in-Some.ensures.steps,
      question_mono _ _
          (rest_fewer g.V.Value.nothing g.V.Value.is_nothing s.pairs.items s.rest.map.entries
          c.requires.placed.formed),
    )

pub returns-in-None-clause-placed : goal.returns-in-None-clause-placed
returns-in-None-clause-placed g c =
    let s = c.args.self.now in
    let nothing = g.V.Value.nothing in
    let is_nothing = g.V.Value.is_nothing in
    let rest = s.rest.map.entries in
    let after = c.set.new.self.map.entries in
    either c.set.result (after ≡ with_value is_nothing rest c.args.key c.args.value) (after ≡ rest)
    (ArePlaces nothing is_nothing s.shift s.pairs.items after)
    (λ is. subst (ArePlaces nothing is_nothing s.shift s.pairs.items) (sym is)
    (rest_places nothing is_nothing g.met.V.Value.nothing_passes g.met.V.Value.only_nothing s.shift
    s.pairs.items rest c.args.key c.args.value
    c.requires.placed c.requires.missing))
    (λ is. subst (ArePlaces nothing is_nothing s.shift s.pairs.items) (sym is) c.requires.placed)
    c.set.ensures.ok c.set.ensures.err

pub returns-in-None-clause-ok : goal.returns-in-None-clause-ok
returns-in-None-clause-ok g c =
    let s = c.args.self.now in
    let nothing = g.V.Value.nothing in
    let is_nothing = g.V.Value.is_nothing in
    let rest = s.rest.map.entries in
    let after = c.set.new.self.map.entries in
    on_ok_weaker {P = after ≡ with_value is_nothing rest c.args.key c.args.value}
    {Q = entries_in is_nothing s.pairs.items after
    ≡ with_value is_nothing (entries_in is_nothing s.pairs.items rest) c.args.key c.args.value}
    c.set.result
    (λ is. ap (λ r. entries_in is_nothing s.pairs.items r) is
    ∙ rest_entries nothing is_nothing g.met.V.Value.nothing_passes g.met.V.Value.only_nothing
    s.shift s.pairs.items rest c.args.key c.args.value
    c.requires.placed c.requires.missing)
    c.set.ensures.ok

pub returns-in-None-clause-steps : goal.returns-in-None-clause-steps
returns-in-None-clause-steps g c =
    let s = c.args.self.now in
    omega (
      arith,
      c.set.ensures.steps,
      c.in-None.ensures.steps,
      question_mono _ _
          (rest_fewer g.V.Value.nothing g.V.Value.is_nothing s.pairs.items s.rest.map.entries
          c.requires.placed.formed),
    )

pub returns-in-Some-clause-names : goal.returns-in-Some-clause-names
returns-in-Some-clause-names g c =
    let s = c.args.self.now in
    let more = names_set s.pairs.items c.in-Some.place (c.args.key, c.args.value) in
    omega (arith, more)

pub returns-in-None-clause-names : goal.returns-in-None-clause-names
returns-in-None-clause-names g c =
    let s = c.args.self.now in
    let is_nothing = g.V.Value.is_nothing in
    let rest = s.rest.map.entries in
    let after = c.set.new.self.map.entries in
    either c.set.result (after ≡ with_value is_nothing rest c.args.key c.args.value) (after ≡ rest)
    (names_in s.pairs.items after ≤ names_in s.pairs.items rest + one_name c.args.key)
    (λ is. omega (
      arith,
      ap (λ r. count_by is_named r) is,
      names_with_value is_nothing rest c.args.key
          c.args.value,
    ))
    (λ is. omega (arith, ap (λ r. count_by is_named r) is)) c.set.ensures.ok c.set.ensures.err

pub returns-in-None-clause-unnamed : goal.returns-in-None-clause-unnamed
returns-in-None-clause-unnamed g c =
    let s = c.args.self.now in
    on_err_weaker {P = c.set.new.self.map.entries ≡ s.rest.map.entries}
    {Q = names_in s.pairs.items c.set.new.self.map.entries
    ≡ names_in s.pairs.items s.rest.map.entries}
    c.set.result (λ is. ap (names_in s.pairs.items) is) c.set.ensures.err

pub returns-in-Some-clause-taken_out : goal.returns-in-Some-clause-taken_out
returns-in-Some-clause-taken_out g c none =
    let some : g.V.Value.is_nothing c.args.value ≡ false = c.in-Some.ensures.some in absurd cc

pub returns-in-None-clause-taken_out : goal.returns-in-None-clause-taken_out
returns-in-None-clause-taken_out g c none =
    let s = c.args.self.now in
    let is_nothing = g.V.Value.is_nothing in
    let rest = s.rest.map.entries in
    let after = c.set.new.self.map.entries in
    either c.set.result (after ≡ with_value is_nothing rest c.args.key c.args.value) (after ≡ rest)
    (names_in s.pairs.items after ≤ names_in s.pairs.items rest)
    (λ is. omega (
      arith,
      ap (λ r. count_by is_named r) is,
      names_taken_out is_nothing rest c.args.key
          c.args.value none,
    ))
    (λ is. omega (arith, ap (λ r. count_by is_named r) is)) c.set.ensures.ok c.set.ensures.err

pub returns-in-None-clause-absent : goal.returns-in-None-clause-absent
returns-in-None-clause-absent g c =
    let s = c.args.self.now in
    let nothing = g.V.Value.nothing in
    let is_nothing = g.V.Value.is_nothing in
    let rest = s.rest.map.entries in
    on_err_weaker {P = value_of nothing rest c.args.key ≡ nothing}
    {Q = value_of nothing (entries_in is_nothing s.pairs.items rest) c.args.key ≡ nothing}
    c.set.result
    (λ none. value_missing nothing is_nothing g.met.V.Value.nothing_passes
    g.met.V.Value.only_nothing s.shift s.pairs.items rest c.requires.placed
    c.args.key c.requires.missing ∙ none) c.set.ensures.absent
