-- What was sent of a lane that grows.
use Rattle.vyrd_live.proofs.Prelude
use Prelude.{◌≡◌, ℕ, zero, suc, ◌+◌, length, take, drop, List, [], ◌∷◌, ◌++◌, refl, ap, ◌∙◌, sym}
use Prelude.{subst, arith, length-append, All, take-add, take-append-le, take_all, drop-drop}
use Prelude.{length-take, length-drop, All-push, All-take, All-drop, Stamped, Act, stamp, HandView}
use Prelude.{RelayView, SenderView, lane_sent, with_pushed, HasActed, HasSent}

-- the lane is as it was
pub sent_same : (relay : RelayView) (sender : SenderView) (place : ℕ) (hand after : HandView)
    → after.caller ≡ hand.caller → after.lane ≡ hand.lane
    → after.forgotten ≡ hand.forgotten → HasSent relay sender place hand
    → HasSent relay sender place after
sent_same relay sender place hand after caller lane forgotten s = search arith

-- the lane has one event more, which is the caller's
longer : (relay : RelayView) (sender : SenderView) (place : ℕ) (hand after : HandView) (e : Stamped)
    → after.caller ≡ hand.caller
    → after.lane ≡ hand.lane ++ e ∷ [] → after.forgotten ≡ hand.forgotten → e.caller ≡ hand.caller
    → HasSent relay sender place hand → HasSent relay sender place after
longer relay sender place hand after e caller lane forgotten own s = record {
  queue = s.queue;
  caller = s.caller ∙ sym caller;
  gone = let g = s.gone in omega (arith, forgotten, g);
  within = let l = ap (λ (xs : List Stamped). length xs) lane ∙ length-append hand.lane (e ∷ []) in
      let w = s.within in omega (arith, l, w);
  sent = s.sent ∙ sym (take-append-le place hand.lane (e ∷ []) s.within)
      ∙ ap (take place) (sym lane);
  own = subst (λ (x : ℕ × List Stamped). All (λ (e : Stamped). e.caller ≡ x.0) x.1)
      (λ i. (sym caller i, sym lane i))
      (All-push (λ (e : Stamped). e.caller ≡ hand.caller) hand.lane e s.own own);
}

-- an act was done, and nothing was sent
pub sent_before : (relay : RelayView) (sender : SenderView) (place : ℕ) (act : Act) (answer : ℕ)
    (hand after : HandView)
    → HasActed act answer hand after → HasSent relay sender place hand
    → HasSent relay sender place after
sent_before relay sender place act answer hand after acted s =
    longer relay sender place hand after (stamp acted.number hand.caller acted.did) (cc acted.hand)
    (cc acted.hand) (cc acted.hand) refl s

-- nothing was sent of an empty lane
pub sent_nothing : (relay : RelayView) (sender : SenderView) (hand : HandView) → sender.queue
    ≡ relay.queue → sender.caller ≡ hand.caller
    → sender.sent ≡ [] → hand.lane ≡ [] → hand.forgotten ≡ 0 → HasSent relay sender 0 hand
sent_nothing relay sender hand queue caller sent empty kept = search arith

-- what was sent of a lane to its end is the lane
pub sent_whole : (relay : RelayView) (sender : SenderView) (place : ℕ) (hand : HandView)
    → HasSent relay sender place hand
    → place ≡ length hand.lane → lane_sent sender
    ≡ record { caller = hand.caller; items = hand.lane }
sent_whole relay sender place hand s all = search (take_all, arith)

take_of_take : (m : ℕ) (xs : List Stamped) → take (length (take m xs)) xs ≡ take m xs
take_of_take zero xs = refl
take_of_take (suc m) [] = refl
take_of_take (suc m) (x ∷ xs) = ap (λ (l : List Stamped). x ∷ l) (take_of_take m xs)

-- what comes next of the lane, as it is kept
module _ (relay : RelayView) (sender : SenderView) (place : ℕ) (hand : HandView)
    (has : HasSent relay sender place hand)
    (kept parcel : List Stamped) (m from : ℕ) (kept_is : kept ≡ drop hand.forgotten hand.lane)
    (parcel_is : parcel ≡ take m (drop from kept))
    (from_is : hand.forgotten + from ≡ place) where
  next_is : parcel ≡ take m (drop place hand.lane)
  next_is = cc (drop-drop from hand.forgotten hand.lane)

  pub parcel_own : All (λ (e : Stamped). e.caller ≡ sender.caller) parcel
  parcel_own = subst (λ (x : List Stamped × ℕ). All (λ (e : Stamped). e.caller ≡ x.1) x.0)
      (λ i. (sym next_is i, sym has.caller i))
      (All-take (λ (e : Stamped). e.caller ≡ hand.caller) m (drop place hand.lane)
      (All-drop (λ (e : Stamped). e.caller ≡ hand.caller) place hand.lane has.own))

  pub parcel_sent : (after : SenderView) → after ≡ with_pushed sender parcel
      → HasSent relay after (place + length parcel) hand
  parcel_sent after is = subst (λ (s : SenderView). HasSent relay s (place + length parcel) hand)
      (sym is) record {
        queue = has.queue;
        caller = has.caller;
        gone = omega (arith, has.gone);
        within = omega (
          arith,
          ap length next_is,
          length-take m (drop place hand.lane),
          length-drop place
              hand.lane,
          has.within,
        );
        sent = ap (λ (l : List Stamped). l ++ parcel) has.sent
            ∙ ap (λ (l : List Stamped). take place hand.lane ++ l)
            (next_is ∙ sym (take_of_take m (drop place hand.lane))
            ∙ ap (λ (n : ℕ). take n (drop place hand.lane)) (ap length (sym next_is)))
            ∙ sym (take-add place (length parcel) hand.lane);
        own = has.own;
      }
