-- What goes on from one moment to the next.
use Rattle.std.proofs.Common.{◌≡◌, ◌≤◌, List, [], ◌∷◌, ◌++◌, Bool, true, false, refl, sym, ◌∙◌}
use Rattle.std.proofs.Common.{subst, arith, append-nil, append_assoc}
use Rattle.vyrd_base.specs.declared.history.Stamped.{Stamped}
use Rattle.vyrd_relay.specs.Ends.{with_popped}
use Rattle.vyrd_verifier.specs.Taken.{MayRefuse}
use Rattle.vyrd_live.specs.declared.watch.Watch.{Watch}
use Rattle.vyrd_live.specs.Beside.{HasWatched, StaysFixed, TakesIn, GoesOn, HasTakenAll}
use Rattle.vyrd_live.specs.Beside.{IsSetAsideFor}

module _ {S F : Type 0} (has_taken : S → List Stamped → Type 0) (fixed : S → F) where
  -- nothing came
  pub goes_on_same : (w after : Watch S) → after.receiver ≡ w.receiver → after.stands ≡ w.stands
      → after.sequencer ≡ w.sequencer
      → after.callers ≡ w.callers → after.taken ≡ w.taken → GoesOn has_taken fixed w after
  goes_on_same w after receiver stands sequencer callers taken = search arith

  -- no event came
  pub none_taken : (w : Watch S) → HasTakenAll has_taken fixed w w []
  none_taken w = record {
    same = refl;
    watched = λ taken now. subst (HasWatched has_taken w) (sym (append-nil taken)) now;
    fixed_is = λ now. (now, refl);
    callers = refl;
    counted = omega arith;
    set_aside = λ stood fell. let b : true ≡ false = sym stood ∙ fell in absurd (cc);
  }

  -- after some events one more came
  pub one_more : (before now after : Watch S) (events : List Stamped) (event : Stamped)
      → HasTakenAll has_taken fixed before now events
      → after.receiver ≡ now.receiver
      → ((taken : List Stamped) → HasWatched has_taken now taken → HasWatched has_taken after
      (taken ++ event ∷ []))
      → StaysFixed fixed now after
      → (now.stands ≡ true → after.stands ≡ false
      → MayRefuse now.sequencer after.sequencer event.number)
      → (now.stands ≡ false → after ≡ now) → after.callers ≡ now.callers → now.taken ≤ after.taken
      → HasTakenAll has_taken fixed before after (events ++ event ∷ [])
  one_more before now after events event all same watched fixed_is may_refuse stays callers
      counted = record {
        same = same ∙ all.same;
        watched = λ taken stood. subst (HasWatched has_taken after)
            (append_assoc taken events (event ∷ []))
            (watched (taken ++ events) (all.watched taken stood));
        fixed_is = λ stands. let y = fixed_is stands in let x = all.fixed_is y.0 in
            (x.0, y.1 ∙ x.1);
        callers = callers ∙ all.callers;
        counted = omega (arith, all.counted, counted);
        set_aside = λ stood fell. by_now now.stands refl stood fell;
      }
    where
      by_now : (b : Bool) → now.stands ≡ b → before.stands ≡ true → after.stands ≡ false
          → IsSetAsideFor has_taken before after (events ++ event ∷ [])
      by_now true still stood fell = record {
        front = events;
        event = event;
        behind = [];
        whole = refl;
        last = now;
        stood = still;
        watched = all.watched;
        may_refuse = may_refuse still fell;
      }
      by_now false gone stood fell =
          let s = all.set_aside stood gone in record {
            front = s.front;
            event = s.event;
            behind = s.behind ++ event ∷ [];
            whole = cc (s.whole, append_assoc s.front (s.event ∷ s.behind) (event ∷ []));
            last = s.last;
            stood = s.stood;
            watched = s.watched;
            may_refuse =
                rw (stays gone) s.may_refuse;
          }

  -- these events came, and were taken in
  pub goes_on_with : (w after : Watch S) (events : List Stamped) → after.receiver
      ≡ with_popped w.receiver events
      → (HasWatched has_taken w w.receiver.had → HasWatched has_taken after
      (w.receiver.had ++ events))
      → StaysFixed fixed w after → after.callers ≡ w.callers → w.taken ≤ after.taken
      → GoesOn has_taken fixed w after
  goes_on_with w after events receiver watched fixed_is callers counted = search arith

  -- one step after another
  pub takes_in_then : (first next last : Watch S) → TakesIn has_taken fixed first next
      → TakesIn has_taken fixed next last
      → TakesIn has_taken fixed first last
  takes_in_then first next last a b = search arith

  pub goes_on_then : (first next last : Watch S) → GoesOn has_taken fixed first next
      → GoesOn has_taken fixed next last
      → GoesOn has_taken fixed first last
  goes_on_then first next last a b = record {
    same = record {
      queue = b.same.queue ∙ a.same.queue;
      senders = b.same.senders ∙ a.same.senders;
      settled = b.same.settled ∙ a.same.settled;
    };
    takes_in = takes_in_then first next last a.takes_in b.takes_in;
  }
