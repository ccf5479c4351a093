-- A machine that is played on a hand, event by event.
use Rattle.vyrd_live.proofs.Prelude
use Prelude.{◌≡◌, ℕ, ◌+◌, ◌-◌, length, true, false, List, [], ◌∷◌, Some, refl, ap, ◌∙◌, sym, subst}
use Prelude.{length-append, Header, Did, Read, Took, Gave, Marked, Stamped, Act, Load, Store, Take}
use Prelude.{Give, Mark, Done, Script, next_act, after_answer, event_of, is_between, IsAnswer}
use Prelude.{PlaysToTheEnd, IsSoundSomewhere, is_return, EndsWithin, stamp, HandView, with_spare}
use Prelude.{HadRoom, BeginsWithRoom, HasNoRoom, StopsForRoom, dids_of, IsWorking, HasRoomAhead}
use Prelude.{HasActed, with_forgotten}
use Rattle.vyrd_memory.specs.Scripts.{answer_of, left_after, Plays}
use Rattle.vyrd_live.proofs.Lanes.{dids_of-snoc, length-dids}
use Rattle.vyrd_live.proofs.RoomLaws.{began_with_room, still_in_time}
use Rattle.vyrd_live.proofs.FitLaws.{fits_on, fits_with_room, fits_kept, fits_fresh, nothing_left}

-- the answer that an act got is the one that its event gave
answer_is : (act : Act) (answer : ℕ) (did : Did) → event_of act answer ≡ Some did
    → IsAnswer act answer → answer_of did ≡ answer
answer_is (Load cell) answer did e is = let d : did ≡ Read cell answer = cc in ap answer_of d
answer_is (Store cell value) answer did e is = cc
answer_is (Take lock) answer did e is = let d : did ≡ Took lock = cc in ap answer_of d ∙ sym is
answer_is (Give lock) answer did e is = let d : did ≡ Gave lock = cc in ap answer_of d ∙ sym is
answer_is (Mark kind) answer did e is = let d : did ≡ Marked kind = cc in ap answer_of d ∙ sym is
answer_is Done answer did e is = cc

-- a machine that hasn't begun
pub working_first : (h : Header) (script : Script) (hand : HandView) → hand.lane ≡ []
    → is_between script ≡ true → IsSoundSomewhere h script
    → IsWorking h script script hand
working_first h script hand empty between sound = record {
  plays = subst (λ (lane : List Stamped). Plays script (dids_of lane)) (sym empty) tt;
  left_is = ap (λ (lane : List Stamped). left_after script (dids_of lane)) (sym empty);
  had_room = subst (λ (lane : List Stamped). HadRoom h hand.limit (dids_of lane)) (sym empty) tt;
  fits = fits_fresh h script hand between sound;
  in_time = λ goes. let no : true ≡ false = sym between ∙ goes in cc;
}

-- where room was made
pub working_with_room : (h : Header) (script left : Script) (hand now : HandView)
    → now ≡ with_spare hand now.spare → IsWorking h script left hand
    → HasRoomAhead h left now
    → IsWorking h script left now
working_with_room h script left hand now is w room =
    let lane : now.lane ≡ hand.lane = cc in
    record {
      plays = rw lane w.plays;
      left_is = cc w.left_is;
      had_room = rw is w.had_room;
      fits = fits_with_room h _ hand _ is w.fits;
      in_time = λ goes. room.spare;
    }

-- where the hand keeps less of its lane
pub working_kept : (h : Header) (script left : Script) (forgotten : ℕ) (hand now : HandView)
    → now ≡ with_forgotten hand forgotten
    → IsWorking h script left hand → IsWorking h script left now
working_kept h script left forgotten hand now is w = subst (IsWorking h script left) (sym is)
    (record {
      plays = w.plays;
      left_is = w.left_is;
      had_room = w.had_room;
      fits = fits_kept h left forgotten hand (with_forgotten hand forgotten) refl w.fits;
      in_time = w.in_time;
    })

-- The lane is one event longer.
lane_after : (act : Act) (answer : ℕ) (hand now : HandView) (acted : HasActed act answer hand now)
    → dids_of now.lane ≡ acted.did ∷ dids_of hand.lane
lane_after act answer hand now acted =
    cc (acted.hand, dids_of-snoc hand.lane (stamp acted.number hand.caller acted.did))

-- after one event more
pub working_on : (h : Header) (script left : Script) (hand now : HandView) (answer : ℕ)
    → (is_return (next_act left) ≡ true → is_between (after_answer left 0) ≡ true)
    → HasActed (next_act left) answer hand now → HasRoomAhead h left hand
    → IsWorking h script left hand
    → IsWorking h script (after_answer left answer) now
working_on h script left hand now answer rests acted room w =
    let dids = lane_after (next_act left) answer hand now acted in
    let given = answer_is (next_act left) answer acted.did acted.event acted.answered in
    let spare : now.spare ≡ hand.spare - 1 = ap (λ (v : HandView). v.spare) acted.hand in
    let limit : now.limit ≡ hand.limit = ap (λ (v : HandView). v.limit) acted.hand in record {
      plays = subst (Plays script) (sym dids) (
        ap (λ s. event_of (next_act s) (answer_of acted.did)) (sym w.left_is)
            ∙ ap (event_of (next_act left)) given ∙ acted.event,
        w.plays,
      );
      left_is = ap (λ s. after_answer s answer) w.left_is
          ∙ ap (after_answer (left_after script (dids_of hand.lane))) (sym given)
          ∙ ap (left_after script) (sym dids);
      had_room = subst (λ n. HadRoom h n (dids_of now.lane)) (sym limit)
          (subst (HadRoom h hand.limit) (sym dids) (
            subst (λ n. BeginsWithRoom h hand.limit n acted.did) (sym (length-dids hand.lane))
                (began_with_room h hand.limit (length hand.lane) (next_act left) answer acted.did
                acted.event room.room),
            w.had_room,
          ));
      fits = fits_on h left hand now answer acted w.fits;
      in_time = λ goes. subst (λ n. ∥ EndsWithin n (after_answer left answer) ∥₁) (sym spare)
          (still_in_time hand.spare left answer rests acted.answered room.spare goes);
    }

-- Room is made and then an event, by which the machine goes from one script to another.
pub working_turn : (h : Header) (script left later : Script) (hand now after : HandView)
    → (is_return (next_act left) ≡ true → is_between (after_answer left 0) ≡ true)
    → now ≡ with_spare hand now.spare → HasRoomAhead h left now
    → (answer : ℕ) × (later ≡ after_answer left answer) × HasActed (next_act left) answer now after
    → IsWorking h script left hand → IsWorking h script later after
working_turn h script left later hand now after rests is room made w = rw made.1
    (working_on h _ left now _ made.0 rests made.2 room (working_with_room h _ _ _ _ is w room))

-- the hand is the same except for its lane, its room and what it found
pub same_hand : (act : Act) (answer : ℕ) (hand now after : HandView)
    → now ≡ with_spare hand now.spare → HasActed act answer now after
    → (after.table ≡ hand.table) × (after.limit ≡ hand.limit) × (after.caller ≡ hand.caller)
same_hand act answer hand now after is acted = (cc acted.hand, cc acted.hand, cc acted.hand)

pub one_longer : (act : Act) (answer : ℕ) (before after : HandView)
    → HasActed act answer before after → length after.lane ≡ length before.lane + 1
one_longer act answer before after acted =
    cc (acted.hand, length-append before.lane (stamp acted.number before.caller acted.did ∷ []))

-- a script that was played to its end
pub worked_to_the_end : (h : Header) (script left : Script) (hand : HandView)
    → IsWorking h script left hand → next_act left ≡ Done
    → PlaysToTheEnd script (dids_of hand.lane)
worked_to_the_end h script left hand w done = record {
  plays = w.plays;
  done = sym w.left_is
      ∙ nothing_left h left hand done w.fits;
}

-- a script whose next operation has no room
pub worked_until_spent : (h : Header) (script left : Script) (hand now : HandView) (limit : ℕ)
    → now ≡ with_spare hand now.spare → hand.limit ≡ limit → IsWorking h script left hand
    → HasNoRoom h hand.limit (length hand.lane) (next_act left)
    → StopsForRoom h limit script (dids_of now.lane)
worked_until_spent h script left hand now limit is same w none =
    let lane : now.lane ≡ hand.lane = ap (λ (v : HandView). v.lane) is in
    subst (λ (x : ℕ × List Stamped). StopsForRoom h x.0 script (dids_of x.1))
    (λ i. (same i, sym lane i)) (record {
      plays = w.plays;
      no_room = subst (λ (x : ℕ × Script). HasNoRoom h hand.limit x.0 (next_act x.1))
          (λ i. (sym (length-dids hand.lane) i, w.left_is i)) none;
    })
