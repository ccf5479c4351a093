use Rattle.vyrd_own_spec.proofs.Prelude.{arc_value, written_in, pair_at, own_gives, HasSums}
use Rattle.std.proofs.Common.{get_or, ◌≡◌, ℕ, ◌+◌, ◌*◌, ◌<◌, ◌≤◌, Ok, ap, subst, arith}
use Rattle.std.proofs.Math.Nat.{mul-le-mul_left}
use Rattle.vyrd_own_spec.proofs.StartLaws.{sums_more, beyond_all, decoded}
use Rattle.vyrd_own_spec.proofs.start.add_part.Goals as goal

-- a place before the last part's end
below_end : (part parts place places : ℕ) → part < parts → place < places → part * places
    + place < parts * places
below_end part parts place places low inside =
    let whole : (part + 1) * places ≤ parts * places = grind (arith, mul-le-mul_left) in
    omega (arith, whole, inside)

pub returns-then-not-branch-clause-beyond : goal.returns-then-not-branch-clause-beyond
returns-then-not-branch-clause-beyond c _ =
    let d = c.args.decoder.now in
    let f : ℕ → ℕ × ℕ = pair_at d.width d.places
    (own_gives (written_in (arc_value d.specification))) c.args.words.now in
    beyond_all c.loop-place.shown f (c.args.part * d.places + c.loop-place.place)
    (d.parts * d.places)
    (get_or c.decode-pairs.result c.loop-place.place (0, 0)) c.loop-place.invariant
    (decoded (written_in (arc_value d.specification)) d.width d.places c.args.part
    c.loop-place.place c.width.result c.width-2.result
    c.args.words.now (get_or c.decode-pairs.result c.loop-place.place (0, 0)) c.width.ensures
    c.width-2.ensures
    (omega (arith, c.loop-place-test.true, c.places-place-end.ensures))
    (c.decode-pairs.ensures c.loop-place.place
    (omega (arith, c.loop-place-test.true, c.places-place-end.ensures))))
    (below_end c.args.part d.parts c.loop-place.place d.places c.requires.part
    (omega (arith, c.loop-place-test.true, c.places-place-end.ensures)))
    (c.in_ok-add.ensures.beyond (ap Ok c.if-not-branch.true))

pub loop-place-preserved : goal.loop-place-preserved
loop-place-preserved c =
    let d = c.args.decoder.now in
    let f : ℕ → ℕ × ℕ = pair_at d.width d.places
    (own_gives (written_in (arc_value d.specification))) c.args.words.now in
    let next : c.args.part * d.places + c.loop-place.place + 1 ≡ c.args.part * d.places
    + (c.loop-place.place + 1) = omega arith in
    subst (HasSums c.add.new.shown f) next
    (sums_more c.loop-place.shown c.add.new.shown f (c.args.part * d.places + c.loop-place.place)
    (get_or c.decode-pairs.result c.loop-place.place (0, 0)) c.loop-place.invariant
    (decoded (written_in (arc_value d.specification)) d.width d.places c.args.part
    c.loop-place.place c.width.result c.width-2.result
    c.args.words.now (get_or c.decode-pairs.result c.loop-place.place (0, 0)) c.width.ensures
    c.width-2.ensures
    (omega (arith, c.loop-place-test.true, c.places-place-end.ensures))
    (c.decode-pairs.ensures c.loop-place.place
    (omega (arith, c.loop-place-test.true, c.places-place-end.ensures))))
    (c.in_ok-add.ensures.fits (ap Ok c.if-not-branch.false))
    (c.in_ok-add.ensures.low (ap Ok c.if-not-branch.false)))
