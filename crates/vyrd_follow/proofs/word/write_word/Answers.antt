use Rattle.vyrd_follow.proofs.Prelude.{◌≡◌, ◌+◌, ◌*◌, List, ℕ, length, take, set, subst, sym, ap}
use Rattle.vyrd_follow.proofs.Prelude.{◌∙◌, arith, length-take, IsAmounts, amount_of, given}
use Rattle.vyrd_follow.proofs.Prelude.{IsAmounts-collected, pairs_in, pairs_by, view_by}
use Rattle.std.proofs.Math.Seq.{take-set-lt}
use Rattle.vyrd_own_states.proofs.TurnedLaws.{part_gives_way}
use Rattle.vyrd_follow.proofs.WordLaws.{given_there}
use Rattle.vyrd_follow.proofs.word.write_word.Goals as goal

pub put_items-requires-clause-formed : goal.put_items-requires-clause-formed
put_items-requires-clause-formed g c =
    let d = g.D.Decode in
    let decoder = c.args.decoder.now in
    let all = c.args.words.now.items in
    let whole : ℕ = d.parts decoder * d.width decoder in
    let words : List ℕ = take whole all in
    let count : length words ≡ whole = omega (arith, length-take whole all, c.requires.count) in
    subst IsAmounts (g.met.D.Decode.shown decoder words count ∙ sym c.requires.shown)
    (IsAmounts-collected
    (pairs_by (d.width decoder) (d.places decoder) (d.parts decoder) (d.gives decoder) words))

pub put_items-requires-clause-turned : goal.put_items-requires-clause-turned
put_items-requires-clause-turned g c q =
    let d = g.D.Decode in
    let decoder = c.args.decoder.now in
    let width = d.width decoder in
    let places = d.places decoder in
    let gives = d.gives decoder in
    let all = c.args.words.now.items in
    let w = c.args.effect.word in
    let v = c.args.effect.value in
    let whole : ℕ = d.parts decoder * width in
    let words : List ℕ = take whole all in
    let change = c.new-change.result in
    let count : length words ≡ whole = omega (arith, length-take whole all, c.requires.count) in
    let same : c.parts.result * c.width.result ≡ whole =
    ap (λ k. k * c.width.result) c.parts.ensures ∙ ap (λ k. d.parts decoder * k) c.width.ensures in
    let written : List ℕ = set all w v in
    let filled = c.new-change.ensures.places ∙ c.places.ensures in
    let gave = given_there width places gives q w whole all change.places
    (c.parts.result * c.width.result) c.width-2.result change.old c.pairs_of-old.result
    c.deref.result.now c.new-change.ensures.old filled same c.deref.ensures.value
    c.width-2.ensures (c.pairs_of-old.ensures q) in
    let gives_now = given_there width places gives q w whole written change.places
    (c.parts.result * c.width.result) c.width-2.result change.new c.pairs_of-new.result
    c.deref-2.result.now c.new-change.ensures.new filled same c.deref-2.ensures.value
    c.width-2.ensures (c.pairs_of-new.ensures q) in
    let old = given q (pairs_in change.places change.old) in
    let new = given q (pairs_in change.places change.new) in
    ap (λ s. amount_of s q + new) c.requires.shown
    ∙ part_gives_way width places (d.parts decoder) gives words q w v old new (take whole written)
    (view_by (d.shows decoder)) (g.met.D.Decode.narrow decoder).0 count
    (omega (arith, count, c.requires.within)) (g.met.D.Decode.shown decoder)
    (take-set-lt whole all w v c.requires.within) gave gives_now
    ∙ ap (λ xs. amount_of (view_by (d.shows decoder) (take whole xs)) q + old)
    (sym c.deref-3.ensures.value)
    ∙ ap (λ n. amount_of (view_by (d.shows decoder) (take n c.deref-3.result.now)) q + old)
    (sym same)
