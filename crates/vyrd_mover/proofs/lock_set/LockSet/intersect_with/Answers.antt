use Rattle.std.proofs.Common.{◌≡◌, ◌<◌, ◌+◌, ◌∙◌, bit_and, get_or, set, length, arith, sym, subst}
use Rattle.std.proofs.lemmas.Grind.{get_or_default_zero}
use Rattle.vyrd_mover.proofs.LockLaws.{IsMet, met_none, met_more, met_all}
use Rattle.vyrd_mover.proofs.lock_set.LockSet.intersect_with.Goals as goal

pub loop-place-init : goal.loop-place-init
loop-place-init c = met_none c.self.inside.words.items c.args.other.now

pub loop-place-preserved : goal.loop-place-preserved
loop-place-preserved c =
    let words = c.self.inside.words.items in
    let items = c.loop-place.self-inside.words.items in
    let place = c.loop-place.place in
    let before = c.loop-place.invariant in
    let low : place < length words = omega arith in
    let within : place < length items = omega (arith, before.size) in
    let old : c.index_mut.result.now ≡ get_or items place 0 = c.index_mut.ensures.value
    ∙ get_or_default_zero items place c.index_mut.result.now within in
    subst (λ word. IsMet words c.args.other.now (set items place word) (place + 1))
    (λ i. bit_and (sym old i) (sym c.word.ensures i))
    (met_more words c.args.other.now items place before low)

pub returns : goal.returns
returns = grind (arith, met_all)
