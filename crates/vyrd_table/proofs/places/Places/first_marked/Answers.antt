use Rattle.vyrd_table.proofs.Prelude.{take, ap, sym, subst, ◌∙◌, not, get_or_default, IsFirst}
use Rattle.vyrd_table.proofs.Prelude.{IsFirstOf, AreNew, entries_in, place_at}
use Rattle.vyrd_table.proofs.FirstLaws.{first_next}
use Rattle.vyrd_table.proofs.MovedLaws.{none_come, all_come, entries_more, places_new}
use Rattle.vyrd_table.proofs.MovedLaws.{unseen_before}
use Rattle.vyrd_table.proofs.places.Places.first_marked.Goals as goal

pub loop-pair-init : goal.loop-pair-init
loop-pair-init g c =
    let nothing = g.V.Value.nothing in
    let is_nothing = g.V.Value.is_nothing in
    subst (λ es. IsFirst nothing g.V.Marked.is_marked es c.first_marked-first.result)
    (none_come nothing is_nothing c.deref-pair-items.result.now c.args.self.now.rest.map.entries)
    c.first_marked-first.ensures

pub loop-pair-preserved : goal.loop-pair-preserved
loop-pair-preserved g c =
    let nothing = g.V.Value.nothing in
    let is_nothing = g.V.Value.is_nothing in
    let test = g.V.Marked.is_marked in
    let s = c.args.self.now in
    let rest = s.rest.map.entries in
    let pairs = c.deref-pair-items.result.now in
    let n = c.loop-pair.pair-index in
    let item = c.pair-item.is
    ∙ get_or_default pairs n c.pair-item.result (0, nothing) c.loop-pair-test.true in
    let new : AreNew nothing is_nothing rest pairs =
    subst (AreNew nothing is_nothing rest) (sym c.deref-pair-items.ensures.value)
    (places_new nothing is_nothing g.met.V.Value.nothing_passes g.met.V.Value.only_nothing s.shift
    s.pairs.items rest c.requires) in
    subst (λ es. IsFirst nothing test es c.first_of-first.result)
    (sym (entries_more nothing is_nothing rest pairs n c.loop-pair-test.true c.requires.formed new))
    (first_next nothing test g.met.V.Marked.nothing_is_plain is_nothing g.met.V.Value.only_nothing
    (entries_in is_nothing (take n pairs) rest)
    (place_at nothing pairs n).0 (place_at nothing pairs n).1
    (λ some. unseen_before nothing is_nothing rest pairs n (ap not some) new)
    c.loop-pair.first c.first_of-first.result c.loop-pair.invariant
    (subst (λ p. IsFirstOf test c.loop-pair.first p c.first_of-first.result) item
    c.first_of-first.ensures))

pub returns : goal.returns
returns g c =
    let nothing = g.V.Value.nothing in
    let is_nothing = g.V.Value.is_nothing in
    let s = c.args.self.now in
    let rest = s.rest.map.entries in
    subst (λ es. IsFirst nothing g.V.Marked.is_marked es c.loop-pair.first)
    (all_come nothing is_nothing c.deref-pair-items.result.now rest c.loop-pair.pair-index
    c.loop-pair-test.false
    ∙ ap (λ ps. entries_in is_nothing ps rest) c.deref-pair-items.ensures.value)
    c.loop-pair.invariant
