use Rattle.vyrd_trace.proofs.Prelude.{◌≡◌, ◌<◌, length, sym, ap, ◌∙◌, arith, drop, length-map}
use Rattle.vyrd_trace.proofs.Prelude.{HandView, lanes_of}
use Rattle.vyrd_trace.proofs.Merges.{lane_at_item, lane_in_place, merge_step, merged}
use Rattle.vyrd_trace.proofs.merge.merge.Goals as goal

pub loop-hand-preserved : goal.loop-hand-preserved
loop-hand-preserved c = λ h m long.
    let hs = c.args.hands.now in
    let count = length-map hs (λ (v : HandView). v.lane) in
    let hand : HandView = c.hand-item.result in
    let item = lane_at_item (λ (v : HandView). v.lane) hs c.loop-hand.hand-index hand
    c.loop-hand-test.true c.hand-item.is in
    let whole : hand.forgotten ≡ 0 = ap (λ (v : HandView). v.forgotten) c.hand-item.is
    ∙ c.requires c.loop-hand.hand-index hand c.loop-hand-test.true in
    let is = item ∙ sym (c.lane.ensures.events ∙ ap (λ n. drop n hand.lane) whole) in
    let inside : c.loop-hand.hand-index < length (lanes_of hs) = omega arith in
    let stands = lane_in_place h (lanes_of hs) m c.loop-hand.hand-index c.lane.result.now inside
    is in
    let same = c.place.auto.history in
    let long' = long ∙ same in
    merge_step h (lanes_of hs) m c.loop-hand.hand-index c.lane.result.now c.loop-hand.history
    c.place.new.history inside is
    (λ i was. c.place.ensures.kept h i stands was) (c.place.ensures.placed h stands long')
    (c.loop-hand.invariant h m long')

pub returns : goal.returns
returns c = λ h m long.
    let hs = c.args.hands.now in
    let count = length-map hs (λ (v : HandView). v.lane) in
    let b = c.loop-hand.auto.history in
    let long' : length h ≡ length c.loop-hand.history = omega arith in
    merged h (lanes_of hs) m c.loop-hand.hand-index c.loop-hand.history
    (let t = c.loop-hand-test.false in omega arith) long' (c.loop-hand.invariant h m long')
