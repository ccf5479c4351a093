use Rattle.vyrd_live.proofs.Prelude.{◌≡◌, ℕ, ◌+◌, ◌-◌, length, take, drop, List, sym, ap, ◌∙◌}
use Rattle.vyrd_live.proofs.Prelude.{subst, arith, take_all, length-drop, Stamped, HasSent}
use Rattle.vyrd_live.proofs.SendingLaws.{parcel_own, parcel_sent}
use Rattle.vyrd_live.proofs.outbox.Outbox.send.Goals as goal

-- a slice from a place on
rest_is : (kept parcel : List Stamped) (from : ℕ)
    → parcel ≡ take 32 (take (length kept - from) (drop from kept))
    → parcel ≡ take 32 (drop from kept)
rest_is kept parcel from is = is
    ∙ ap (take 32)
    (take_all (length kept - from) (drop from kept) (omega (arith, length-drop from kept)))

pub push_next-requires-clause-caller : goal.push_next-requires-clause-caller
push_next-requires-clause-caller g c =
    parcel_own _ _ _ c.args.hand.now c.loop-self.invariant c.lane-kept.result.now c.in-Some.parcel
    32
    (c.loop-self.self.place - c.forgotten-forgotten.result) c.lane-kept.ensures.events
    (rest_is c.lane-kept.result.now c.in-Some.parcel
    (c.loop-self.self.place - c.forgotten-forgotten.result) c.in-Some.ensures.first)
    (omega (arith, c.forgotten-forgotten.ensures.count, c.loop-self.invariant.gone))

pub loop-self-preserved : goal.loop-self-preserved
loop-self-preserved g c =
    subst (λ (n : ℕ). HasSent c.args.relay.now c.push_next.new.sender (c.loop-self.self.place + n)
    c.args.hand.now)
    (sym c.len-count.ensures)
    (parcel_sent _ _ _ c.args.hand.now c.loop-self.invariant c.lane-kept.result.now c.in-Some.parcel
    32
    (c.loop-self.self.place - c.forgotten-forgotten.result) c.lane-kept.ensures.events
    (rest_is c.lane-kept.result.now c.in-Some.parcel
    (c.loop-self.self.place - c.forgotten-forgotten.result) c.in-Some.ensures.first)
    (omega (arith, c.forgotten-forgotten.ensures.count, c.loop-self.invariant.gone))
    c.push_next.new.sender c.in-Ok.ensures.sent)
