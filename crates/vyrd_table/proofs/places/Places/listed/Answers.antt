use Rattle.vyrd_table.proofs.Prelude.{[], ap, sym, subst, ◌∙◌, IfOk-weaker, IsEntries, AreNew}
use Rattle.vyrd_table.proofs.Prelude.{entries_in}
use Rattle.vyrd_table.proofs.EntryLaws.{no_entries}
use Rattle.vyrd_table.proofs.MovedLaws.{entries_new, entries_again, places_new}
use Rattle.vyrd_table.proofs.places.Places.listed.Goals as goal

pub take_all-requires-clause-formed : goal.take_all-requires-clause-formed
take_all-requires-clause-formed g c = subst (IsEntries g.V.Value.is_nothing) (sym c.new-all.ensures)
    (no_entries g.V.Value.is_nothing)

pub take_all-requires-clause-new : goal.take_all-requires-clause-new
take_all-requires-clause-new g c =
    let nothing = g.V.Value.nothing in
    let is_nothing = g.V.Value.is_nothing in
    subst (λ base. AreNew nothing is_nothing base c.deref.result.now) (sym c.new-all.ensures)
    (subst (AreNew nothing is_nothing []) (sym (c.deref.ensures.value ∙ c.in_ok-rest.ensures.pairs))
    (entries_new nothing is_nothing c.args.self.now.rest.map.entries g.met.V.Value.nothing_passes
    c.requires.formed))

pub take_all-requires-2-clause-formed : goal.take_all-requires-2-clause-formed
take_all-requires-2-clause-formed g c =
    let is_nothing = g.V.Value.is_nothing in
    let copied = c.in_ok-take_all.ensures
    ∙ ap (λ base. entries_in is_nothing c.deref.result.now base) c.new-all.ensures
    ∙ ap (λ ps. entries_in is_nothing ps []) (c.deref.ensures.value ∙ c.in_ok-rest.ensures.pairs)
    ∙ entries_again g.V.Value.nothing is_nothing c.args.self.now.rest.map.entries c.requires.formed
    in
    subst (IsEntries is_nothing) (sym copied) c.requires.formed

pub take_all-requires-2-clause-new : goal.take_all-requires-2-clause-new
take_all-requires-2-clause-new g c =
    let nothing = g.V.Value.nothing in
    let is_nothing = g.V.Value.is_nothing in
    let s = c.args.self.now in
    let rest = s.rest.map.entries in
    let copied = c.in_ok-take_all.ensures
    ∙ ap (λ base. entries_in is_nothing c.deref.result.now base) c.new-all.ensures
    ∙ ap (λ ps. entries_in is_nothing ps []) (c.deref.ensures.value ∙ c.in_ok-rest.ensures.pairs)
    ∙ entries_again nothing is_nothing rest c.requires.formed in
    subst (λ base. AreNew nothing is_nothing base c.deref-2.result.now) (sym copied)
    (subst (AreNew nothing is_nothing rest) (sym c.deref-2.ensures.value)
    (places_new nothing is_nothing g.met.V.Value.nothing_passes g.met.V.Value.only_nothing s.shift
    s.pairs.items rest c.requires))

pub returns : goal.returns
returns g c =
    let is_nothing = g.V.Value.is_nothing in
    let s = c.args.self.now in
    let copied = c.in_ok-take_all.ensures
    ∙ ap (λ base. entries_in is_nothing c.deref.result.now base) c.new-all.ensures
    ∙ ap (λ ps. entries_in is_nothing ps []) (c.deref.ensures.value ∙ c.in_ok-rest.ensures.pairs)
    ∙ entries_again g.V.Value.nothing is_nothing s.rest.map.entries c.requires.formed in
    let all = c.in_ok-take_all-2.ensures
    ∙ ap (λ ps. entries_in is_nothing ps c.take_all.new.self.map.entries)
    c.deref-2.ensures.value
    ∙ ap (λ base. entries_in is_nothing s.pairs.items base) copied in
    IfOk-weaker c.pairs-2.result _ _ (λ pairs is. is ∙ all) c.pairs-2.ensures.pairs
