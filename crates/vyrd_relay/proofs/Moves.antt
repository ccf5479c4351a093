-- Each move keeps the rule of the relay.
use Rattle.std.proofs.Common.{◌≡◌, ◌≢◌, ◌⊎◌, ℕ, zero, suc, ◌<◌, ◌≤◌, List, [], ◌∷◌, ◌++◌, length}
use Rattle.std.proofs.Common.{set, Option, Some, None, refl, sym, ap, ◌∙◌, subst, ⊎_elim, inl, inr}
use Rattle.std.proofs.Common.{arith, append-nil, append_assoc}
use Rattle.std.specs.List.{All}
use Rattle.std.proofs.lemmas.List.Elements.{All-push}
use Rattle.std.proofs.lemmas.List.Concat.{flat_map-append, flat_map-cons}
use mathlib.Core.Logic.{dite}
use native.Mathlib.Decide.{dec_lt}
use mathlib.Core.Option.{some, some-injective, some-ne-none}
use lib.ListN.{get_elem?}
use Rattle.crossbeam_queue.specs.Fifo.{Pushes, Pops, Forks, Merges, Learns}
use Rattle.crossbeam_queue.proofs.Lists.{at_set}
use Rattle.vyrd_base.specs.declared.history.Stamped.{Stamped}
use Rattle.vyrd_relay.specs.declared.known.Known.{Known}
use Rattle.vyrd_relay.specs.declared.known.Known.TheVariants.{Receives, Sends, Spent}
use Rattle.vyrd_relay.specs.declared.known.Lane.{Lane}
use Rattle.vyrd_relay.specs.declared.known.Received.{Received}
use Rattle.vyrd_relay.specs.declared.known.Sent.{Sent}
use Rattle.vyrd_base.specs.Parts.{part}
use Rattle.vyrd_base.proofs.UpdateLaws.{upd, upd_here, upd_else}
use Rattle.vyrd_relay.specs.Knowledge.{with_sent, new_received, with_had, lane_of, HasBeginning}
use Rattle.vyrd_relay.specs.Knowledge.{IsHadAndQueued, Learned, Pushed, Popped, dealer, dealt}
use Rattle.vyrd_relay.specs.Knowledge.{taking_in}
use Rattle.vyrd_relay.specs.Lanes.{events_in}
use Rattle.vyrd_relay.specs.Rule.{Ghost, IsSettled, Knows, Relayed}
use Rattle.vyrd_relay.proofs.LaneLaws.{part_both, part_mine, part_other, nothing_before, none_from}

-- the passes after one of them has changed
each_set : (g : Ghost) (passes : List Known) (pass : ℕ) (w : Known) → Knows g pass w
    → ((j : ℕ) (u : Known) → j ≢ pass → get_elem? passes j ≡ some u → Knows g j u)
    → (j : ℕ) (u : Known) → get_elem? (set passes pass w) j ≡ some u → Knows g j u
each_set g passes pass w mine others j u e = ⊎_elim
    (λ (x : (j ≡ pass) × (w ≡ u)). subst (λ (y : ℕ × Known). Knows g y.0 y.1)
    (λ i. (sym x.0 i, x.1 i)) mine)
    (λ (x : (j ≢ pass) × (get_elem? passes j ≡ some u)). others j u x.0 x.1) (at_set _ _ j w u e)

-- the first pass of an empty queue
pub begins : Relayed [] (Receives (new_received 0 0) ∷ [])
begins = record {
  ghost_state = record { senders = 0; reader = 0; seat = λ _. None; sent = λ _. []; had = [] };
  order = λ c. refl;
  outside = λ c le. refl;
  each = one;
}
  where
    one : (j : ℕ) (v : Known) → get_elem? (Receives (new_received 0 0) ∷ []) j ≡ some v
        → Knows (record { senders = 0; reader = 0; seat = λ _. None; sent = λ _. []; had = [] }) j v
    one zero v e =
        search arith
    one (suc j) v e = absurd (some-ne-none v (sym e))

module _ (g : Ghost) (es : List Stamped) (own : ℕ)
    (theirs : All (λ (e : Stamped). e.caller ≡ own) es) where
  -- what was sent when these events, which are of one caller, have been sent too
  abbrev sending : Ghost
  sending = record {
    senders = g.senders;
    reader = g.reader;
    seat = g.seat;
    sent = λ c. g.sent c
        ++ part c es;
    had = g.had;
  }

  same_sent : (c : ℕ) → own ≢ c → sending.sent c ≡ g.sent c
  same_sent c apart = cc (part_other c own es theirs apart, append-nil (g.sent c))

  kept_sending : (j : ℕ) (u : Known) → (seat : ℕ) → j ≢ seat → g.seat own ≡ Some seat → Knows g j u
      → Knows sending j u
  kept_sending j u seat apart is k = search (same_sent, arith)

-- the events of parcels behind which one more comes
events_push : (queued : List (List Stamped)) (es : List Stamped) → events_in (queued ++ es ∷ [])
    ≡ events_in queued ++ es
events_push queued es = flat_map-append (λ (l : List Stamped). l) queued (es ∷ [])
    ∙ ap (λ (l : List Stamped). events_in queued ++ l)
    (flat_map-cons (λ (l : List Stamped). l) es [] ∙ append-nil es)

-- a sender's pass adds a parcel at the back
pub sends : (n pass : ℕ) (s : Sent) (es : List Stamped)
    → All (λ (e : Stamped). e.caller ≡ s.caller) es
    → Pushes Relayed n pass (Sends s) es (Pushed (Sends s) es)
sends n pass s es mine queued passes room r at =
    let g = r.ghost_state in
    let me = r.each pass (Sends s) at in
    let w : Known = Sends (with_sent s es) in (
      w,
      record {
        ghost_state = sending g es s.caller mine;
        order = λ c. ap (λ (l : List Stamped). part c (g.had ++ l)) (events_push queued es)
            ∙ ap (part c) (sym (append_assoc g.had (events_in queued) es))
            ∙ part_both c (g.had ++ events_in queued) es
            ∙ ap (λ (l : List Stamped). l ++ part c es) (r.order c);
        outside = λ c le. same_sent g es s.caller mine c
            (λ q. let a = me.in_range in let b = me.senders in absurd (omega (arith, q)))
            ∙ r.outside c le;
        each = each_set (sending g es s.caller mine) passes pass w record {
          seated = me.seated;
          whole = ap (λ (l : List Stamped). l ++ part s.caller es) me.whole
              ∙ ap (λ (l : List Stamped). s.items ++ l) (part_mine s.caller es mine);
          senders = me.senders;
          in_range = me.in_range;
        } (λ j u apart q. kept_sending g es s.caller mine j u pass apart me.seated (r.each j u q));
      },
      refl,
    )

module _ (g : Ghost) (es : List Stamped) where
  -- what was had when these events have been had too
  abbrev having : Ghost
  having = record {
    senders = g.senders;
    reader = g.reader;
    seat = g.seat;
    sent = g.sent;
    had = g.had ++ es;
  }

  kept_having : (j : ℕ) (u : Known) → j ≢ g.reader → Knows g j u → Knows having j u
  kept_having j u apart k = search arith

-- of a lane that was taken in, what was had and what is queued
lane_split : (g : Ghost) (made : ℕ) (had queued : List Stamped) (lane : Lane) → g.had ≡ had
    → ((c : ℕ) → part c (g.had ++ queued) ≡ g.sent c) → IsSettled g made lane
    → IsHadAndQueued had queued lane
lane_split g made had queued lane same order settled = search (part_both, arith)

-- events of callers that have sent something are of the senders
in_range_of : (g : Ghost) (had es queued : List Stamped)
    → ((c : ℕ) → part c (had ++ (es ++ queued)) ≡ g.sent c)
    → ((c : ℕ) → g.senders ≤ c → g.sent c ≡ []) → All (λ (e : Stamped). e.caller < g.senders) es
in_range_of g had es queued order outside = none_from _ _ (λ c le.
    let none : part c had ++ (part c es ++ part c queued)
    ≡ [] = cc (part_both c es queued, part_both c had (es ++ queued), order c, outside c le) in
    (nothing_before (part c es) (part c queued)
    (nothing_before (part c had) (part c es ++ part c queued) none).1).0)

-- the receiver's pass takes a parcel at the front
pub gets : (pass : ℕ) (v : Received) → 0 < v.made → Pops Relayed pass (Receives v)
    (Popped (Receives v))
gets pass v made es queued passes r at =
    let g = r.ghost_state in
    let me = r.each pass (Receives v) at in
    let w : Known = Receives (with_had v es) in
    let first : (c : ℕ) → part c (g.had ++ (es ++ events_in queued)) ≡ g.sent c
    = λ c. ap (λ (l : List Stamped). part c (g.had ++ l))
    (sym (flat_map-cons (λ (l : List Stamped). l) es queued)) ∙ r.order c in
    let order : (c : ℕ) → part c ((g.had ++ es) ++ events_in queued) ≡ g.sent c
    = λ c. ap (part c) (append_assoc g.had es (events_in queued)) ∙ first c in
    let had : g.had ++ es ≡ v.had ++ es = ap (λ (l : List Stamped). l ++ es) me.had in (
      w,
      record {
        ghost_state = having g es;
        order = order;
        outside = r.outside;
        each = each_set (having g es) passes pass w record {
          reader = me.reader;
          had = had;
          senders = me.senders;
          unmade = me.unmade;
          settled = λ i d l. let s = me.settled i d l in
              record { unseated = s.unseated; whole = s.whole; old = s.old };
        } (λ j u apart q. kept_having g es j u (λ z. apart (z ∙ me.reader)) (r.each j u q));
      },
      record {
        had = refl;
        senders = subst (λ (n : ℕ). All (λ (e : Stamped). e.caller < n) es) (me.senders made)
            (in_range_of g g.had es (events_in queued) first r.outside);
        beginnings = λ i d l. let s = me.settled i d l in (
          part _ (events_in queued),
          lane_split (having g es) v.made (v.had ++ es) (events_in queued) _ had order
              record { unseated = s.unseated; whole = s.whole; old = s.old },
        );
      },
    )

-- what the receiver's pass learns of the queued items
pub receiver_learns : (pass : ℕ) (v : Received) → 0 < v.made → Learns Relayed pass (Receives v)
    (Learned (Receives v))
receiver_learns pass v made queued passes r at =
    let g = r.ghost_state in
    let me = r.each pass (Receives v) at in
    let of_senders = none_from g.senders g.had
    (λ c le. (nothing_before (part c g.had) (part c (events_in queued))
    (sym (part_both c g.had (events_in queued)) ∙ r.order c ∙ r.outside c le)).0) in record {
      settled = λ i d l. lane_split g v.made v.had (events_in queued) _ me.had r.order
          (me.settled i d l);
      senders = subst (λ (x : ℕ × List Stamped). All (λ (e : Stamped). e.caller < x.0) x.1)
          (λ i. (me.senders made i, me.had i)) of_senders;
    }

-- what a sender's pass learns of them
pub sender_learns : (pass : ℕ) (s : Sent) → Learns Relayed pass (Sends s) (Learned (Sends s))
sender_learns pass s queued passes r at =
    let g = r.ghost_state in
    let me = r.each pass (Sends s) at in record {
      own = (
        part s.caller g.had,
        sym me.whole ∙ sym (r.order s.caller) ∙ part_both s.caller g.had
            (events_in queued),
      );
      senders = subst (λ (n : ℕ). All (λ (e : Stamped). e.caller < n) (events_in queued)) me.senders
          (none_from g.senders (events_in queued)
          (λ c le. (nothing_before (part c g.had) (part c (events_in queued))
          (sym (part_both c g.had (events_in queued)) ∙ r.order c ∙ r.outside c le)).1));
    }

at_end : (l : List Known) (a b : Known) (j : ℕ) → get_elem? (l ++ a ∷ []) j ≡ some b
    → (get_elem? l j ≡ some b) ⊎ ((j ≡ length l) × (a ≡ b))
at_end [] a b zero e = inr (refl, some-injective a b e)
at_end [] a b (suc j) e = absurd (some-ne-none b (sym e))
at_end (x ∷ xs) a b zero e = inl e
at_end (x ∷ xs) a b (suc j) e = ⊎_elim (λ t. inl t) (λ t. inr (ap suc t.0, t.1)) (at_end xs a b j e)

some_none : (n : ℕ) → Some n ≢ None
some_none n e = cc

-- A new sender of the caller `at`, whose pass is `new`. Each other pass knows what it knew.
module _ (g : Ghost) (senders at new : ℕ) where
  abbrev seating : Ghost
  seating = record {
    senders = senders;
    reader = g.reader;
    seat = upd g.seat at (Some new);
    sent = g.sent;
    had = g.had;
  }

  kept_seating : (j : ℕ) (u : Known) → j ≢ g.reader → g.seat at ≡ None
      → ((s : Sent) → g.seat s.caller ≡ Some j → g.senders ≡ senders)
      → Knows g j u → Knows seating j u
  kept_seating j u apart free same k = search (upd_else, some_none, arith)

-- the receiver's pass makes the next sender
pub deals : (senders pass : ℕ) (v : Received) → v.made < senders
    → (0 < v.made → v.senders ≡ senders)
    → Forks Relayed pass (Receives v) (dealer senders (Receives v)) (dealt senders (Receives v))
deals senders pass v room fixed queued passes r at =
    let g = r.ghost_state in
    let me = r.each pass (Receives v) at in
    let left : Known = dealer senders (Receives v) in
    let right : Known = dealt senders (Receives v) in
    let new : ℕ = length (set passes pass left) in
    let h : Ghost = seating g senders v.made new in
    let free = me.unmade v.made (omega arith) in
    let same : (j : ℕ) (s : Sent) → g.seat s.caller ≡ Some j → g.senders ≡ senders
    = λ j s q. dite (dec_lt 0 v.made) (λ l. me.senders l ∙ fixed l)
    (λ none. absurd (some_none j (sym q ∙ (me.unmade s.caller (omega arith)).0))) in record {
      ghost_state = h;
      order = r.order;
      outside = λ c le. (me.unmade c (omega arith)).1;
      each = λ j u e. ⊎_elim
          (λ (x : get_elem? (set passes pass left) j ≡ some u). each_set h passes pass left record {
            reader = me.reader;
            had = me.had;
            senders = λ _. refl;
            unmade = λ c le. let m = me.unmade c (omega arith) in
                (upd_else g.seat v.made (Some new) c (λ q. omega arith) ∙ m.0, m.1);
            settled = λ i d l. let s = me.settled i d l in let old = s.old in record {
              unseated = upd_else g.seat v.made (Some new) _ (λ q. omega arith) ∙ s.unseated;
              whole = s.whole;
              old = omega arith;
            };
          } (λ k w apart q. kept_seating g senders v.made new k w (λ z. apart (z ∙ me.reader))
          free.0 (same k) (r.each k w q)) j u x)
          (λ (x : (j ≡ new) × (right ≡ u)). subst (λ (z : ℕ × Known). Knows h z.0 z.1)
          (λ q. (sym x.0 q, x.1 q)) record {
            seated = upd_here g.seat v.made (Some new) v.made refl;
            whole = free.1;
            senders = refl;
            in_range = room;
          })
          (at_end (set passes pass left) right u j e);
    }

none_stays : (f : ℕ → Option ℕ) (at c : ℕ) → f c ≡ None → upd f at None c ≡ None
none_stays f at c e = search arith

-- The caller `at` has no pass any more that sends for it. Each other pass knows what it knew.
module _ (g : Ghost) (at : ℕ) where
  abbrev unseating : Ghost
  unseating = record {
    senders = g.senders;
    reader = g.reader;
    seat = upd g.seat at None;
    sent = g.sent;
    had = g.had;
  }

  kept_unseating : (j other : ℕ) (u : Known) → j ≢ g.reader → j ≢ other → g.seat at ≡ Some other
      → Knows g j u → Knows unseating j u
  kept_unseating j other u apart differ is k = search (upd_else, arith)

-- the receiver's pass takes in a sender's
pub takes_in : (pass : ℕ) (v : Received) (other : ℕ) (s : Sent)
    → Merges Relayed pass (Receives v) other (Sends s) (taking_in (Receives v) (Sends s)) Spent
takes_in pass v other s queued passes r at differ there =
    let g = r.ghost_state in
    let me = r.each pass (Receives v) at in
    let both : Known = taking_in (Receives v) (Sends s) in
    let was : get_elem? passes other ≡ some (Sends s) = ⊎_elim
    (λ (x : (other ≡ pass) × (both ≡ Sends s)). absurd (differ x.0))
    (λ (x : (other ≢ pass) × (get_elem? passes other ≡ some (Sends s))). x.1)
    (at_set passes pass other both (Sends s) there) in
    let theirs = r.each other (Sends s) was in
    let h : Ghost = unseating g s.caller in
    let old : s.caller < v.made = dite (dec_lt s.caller v.made) (λ l. l)
    (λ late. absurd (some_none other (sym theirs.seated ∙ (me.unmade s.caller (omega arith)).0))) in
    let mine : Knows h pass both = record {
      reader = me.reader;
      had = me.had;
      senders = me.senders;
      unmade = λ c le. let m = me.unmade c le in (none_stays g.seat s.caller c m.0, m.1);
      settled = All-push (IsSettled h v.made) v.settled (lane_of s)
          (λ i d l. let z = me.settled i d l in
          record {
            unseated = none_stays g.seat s.caller _ z.unseated;
            whole = z.whole;
            old = z.old;
          })
          record {
            unseated = upd_here g.seat s.caller None s.caller refl;
            whole = theirs.whole;
            old = old;
          };
    } in record {
      ghost_state = h;
      order = r.order;
      outside = r.outside;
      each = λ j u e. ⊎_elim
          (λ (x : (j ≡ other) × (Spent ≡ u)). subst (Knows h j) x.1 tt)
          (λ (x : (j ≢ other) × (get_elem? (set passes pass both) j ≡ some u)). ⊎_elim
          (λ (y : (j ≡ pass) × (both ≡ u)). subst (λ (z : ℕ × Known). Knows h z.0 z.1)
          (λ q. (sym y.0 q, y.1 q)) mine)
          (λ (y : (j ≢ pass) × (get_elem? passes j ≡ some u)). kept_unseating g s.caller j other u
          (λ z. y.0 (z ∙ me.reader)) x.0 theirs.seated (r.each j u y.1))
          (at_set passes pass j both u x.1))
          (at_set (set passes pass both) other j Spent u e);
    }

-- what was had of a lane that was taken in is a beginning of it, since what is queued is the rest
pub beginnings : (v : Received) (queued : List (List Stamped)) → Learned (Receives v) queued
    → All (HasBeginning v.had) v.settled
beginnings v queued learned = λ i d l. (part _ (events_in queued), learned.settled i d l)
