-- Event by event the lane is what the script wants, with room for each operation before it begins.
use Rattle.vyrd_live.proofs.Prelude.{◌≡◌, ◌≢◌, ℕ, List, Err, arith, length, refl, ap, ◌∙◌, sym}
use Rattle.vyrd_live.proofs.Prelude.{subst, rules, Stamped, Done, next_act, after_answer, HandView}
use Rattle.vyrd_live.proofs.Prelude.{HadRoom, HasNoRoom, dids_of, IsWorking, HasRoomAhead, HasActed}
use Rattle.vyrd_live.proofs.Prelude.{MayAct}
use Rattle.vyrd_live.proofs.RoomLaws.{room_for_one}
use Rattle.vyrd_live.proofs.FitLaws.{next_may}
use Rattle.vyrd_live.proofs.SendingLaws.{sent_same, sent_before}
use Rattle.vyrd_live.proofs.WorkLaws.{working_first, working_with_room, working_turn, working_kept}
use Rattle.vyrd_live.proofs.WorkLaws.{same_hand, one_longer, worked_to_the_end, worked_until_spent}
use Rattle.vyrd_trace.specs.declared.hand.Reserve.TheVariants as reserve
use Rattle.vyrd_live.proofs.worker.Worker.play.Given as given
use Rattle.vyrd_live.proofs.worker.Worker.play.Goals as goal

pub loop-self-init : goal.loop-self-init
loop-self-init g c = record {
  header = refl;
  hand_of = c.requires.fresh.hand_of;
  caller = refl;
  falls = let e = ap (λ (lane : List Stamped). length lane) c.requires.fresh.empty in
      omega (arith, e);
  working = working_first (g.M.Machine.header_of c.args.self.now.machine)
      (g.M.Machine.script c.args.self.now.machine) c.args.self.now.hand
      c.requires.fresh.empty c.requires.fresh.between
      (g.met.M.Machine.is_sound c.args.self.now.machine);
  sent = c.requires.sent;
}

-- the room that was made, and what the machine has played with it
module _ (g : given.Over) (c : goal.After-make_event-arg-in-loop-self-1 g) where
  goes : next_act (g.M.Machine.script c.loop-self.self.machine) ≢ Done
  goes = search rules

  room : HasRoomAhead (g.M.Machine.header_of c.args.self.now.machine)
      (g.M.Machine.script c.loop-self.self.machine) c.make_room.new.self.hand
  room = subst (λ h. HasRoomAhead h
      (g.M.Machine.script c.loop-self.self.machine) c.make_room.new.self.hand)
      c.loop-self.invariant.header c.in-Ok.ensures.room

  working : IsWorking (g.M.Machine.header_of c.args.self.now.machine)
      (g.M.Machine.script c.args.self.now.machine)
      (g.M.Machine.script c.loop-self.self.machine) c.make_room.new.self.hand
  working = working_with_room (g.M.Machine.header_of c.args.self.now.machine)
      (g.M.Machine.script c.args.self.now.machine)
      (g.M.Machine.script c.loop-self.self.machine)
      c.loop-self.self.hand c.make_room.new.self.hand c.in-Ok.ensures.hand
      c.loop-self.invariant.working room

pub make_event-requires-clause-hand : goal.make_event-requires-clause-hand
make_event-requires-clause-hand g c κs within =
    let hand = c.in-Ok.ensures.hand in
    let of = c.loop-self.invariant.hand_of in (
      (ap (λ (v : HandView). v.table) hand ∙ of.0, ap (λ (v : HandView). v.limit) hand ∙ of.1),
      room_for_one c.make_room.new.self.hand.spare (g.M.Machine.script c.loop-self.self.machine)
          (goes g c) (room g c).spare,
    )

pub make_event-requires-clause-may : goal.make_event-requires-clause-may
make_event-requires-clause-may g c κs within =
    subst (λ m. MayAct c.args.traced.now.plan c.make_room.new.self.hand
    (next_act (g.M.Machine.script m))) (sym c.in-Ok.ensures.machine)
    (next_may (g.M.Machine.header_of c.args.self.now.machine) c.args.traced.now.plan
    (g.M.Machine.script c.loop-self.self.machine) c.make_room.new.self.hand c.requires.fresh.memory
    (goes g c) (working g c).fits)

pub loop-self-preserved : goal.loop-self-preserved
loop-self-preserved g c =
    let h = g.M.Machine.header_of c.args.self.now.machine in
    let machine = c.in-Ok.ensures.machine in
    let made = subst
    (λ m. (answer : ℕ)
    × (g.M.Machine.script c.make_event.new.self.machine ≡ after_answer (g.M.Machine.script m)
    answer)
    × HasActed (next_act (g.M.Machine.script m)) answer c.make_room.new.self.hand
    c.make_event.new.self.hand) machine c.make_event.ensures.made in
    let room = subst (λ h. HasRoomAhead h
    (g.M.Machine.script c.loop-self.self.machine) c.make_room.new.self.hand)
    c.loop-self.invariant.header c.in-Ok.ensures.room in
    let same = same_hand (next_act (g.M.Machine.script c.loop-self.self.machine)) made.0
    c.loop-self.self.hand c.make_room.new.self.hand c.make_event.new.self.hand
    c.in-Ok.ensures.hand made.2 in
    let kept = c.pass_on.ensures.hand in
    let passed = c.pass_on.ensures.machine in record {
      header = ap g.M.Machine.header_of passed ∙ c.make_event.ensures.header
          ∙ ap g.M.Machine.header_of machine ∙ c.loop-self.invariant.header;
      hand_of = (
        ap (λ (v : HandView). v.table) kept ∙ same.0 ∙ c.loop-self.invariant.hand_of.0,
        ap (λ (v : HandView). v.limit) kept ∙ same.1 ∙ c.loop-self.invariant.hand_of.1,
      );
      caller = ap (λ (v : HandView). v.caller) kept ∙ same.2 ∙ c.loop-self.invariant.caller;
      falls =
          let before = ap (λ (v : HandView). length v.lane) c.in-Ok.ensures.hand in
          let ahead = ap g.M.Machine.ahead machine in
          let later = c.make_event.ensures.falls in
          let now = c.loop-self.invariant.falls in
          let last = ap (λ (v : HandView). length v.lane) kept in
          let rest = ap g.M.Machine.ahead passed in
          omega (
            arith,
            last,
            rest,
            one_longer (next_act (g.M.Machine.script c.loop-self.self.machine)) made.0
                c.make_room.new.self.hand c.make_event.new.self.hand made.2,
            before,
            ahead,
            later,
            now,
          );
      working = subst (λ m. IsWorking h (g.M.Machine.script c.args.self.now.machine)
          (g.M.Machine.script m) c.pass_on.new.self.hand) (sym passed)
          (working_kept h (g.M.Machine.script c.args.self.now.machine)
          (g.M.Machine.script c.make_event.new.self.machine) c.pass_on.new.self.hand.forgotten
          c.make_event.new.self.hand c.pass_on.new.self.hand kept
          (working_turn h (g.M.Machine.script c.args.self.now.machine)
          (g.M.Machine.script c.loop-self.self.machine)
          (g.M.Machine.script c.make_event.new.self.machine)
          c.loop-self.self.hand c.make_room.new.self.hand c.make_event.new.self.hand
          (g.met.M.Machine.rests c.loop-self.self.machine) c.in-Ok.ensures.hand room made
          c.loop-self.invariant.working));
      sent = c.pass_on.ensures.sent;
    }

pub make_event-requires-clause-sent : goal.make_event-requires-clause-sent
make_event-requires-clause-sent g c κs within =
    let hand = c.in-Ok.ensures.hand in
    sent_same c.args.relay.now c.loop-self.outbox.sender c.loop-self.outbox.place
    c.loop-self.self.hand c.make_room.new.self.hand
    (ap (λ (v : HandView). v.caller) hand) (ap (λ (v : HandView). v.lane) hand)
    (ap (λ (v : HandView). v.forgotten) hand) c.loop-self.invariant.sent

pub pass_on-requires : goal.pass_on-requires
pass_on-requires g c =
    let machine = c.in-Ok.ensures.machine in
    let made = subst
    (λ m. (answer : ℕ)
    × (g.M.Machine.script c.make_event.new.self.machine ≡ after_answer (g.M.Machine.script m)
    answer)
    × HasActed (next_act (g.M.Machine.script m)) answer c.make_room.new.self.hand
    c.make_event.new.self.hand) machine c.make_event.ensures.made in
    sent_before c.args.relay.now c.make_event.new.outbox.sender c.make_event.new.outbox.place
    (next_act (g.M.Machine.script c.loop-self.self.machine)) made.0
    c.make_room.new.self.hand c.make_event.new.self.hand made.2 c.make_event.ensures.sent

pub returns-clause-worked : goal.returns-clause-worked
returns-clause-worked g c =
    let h = g.M.Machine.header_of c.args.self.now.machine in
    let w = c.loop-self.invariant.working in
    let done : next_act (g.M.Machine.script c.loop-self.self.machine) ≡ Done = search rules in
    record {
      hand_of = c.loop-self.invariant.hand_of;
      caller = c.loop-self.invariant.caller;
      ended = (
        worked_to_the_end h (g.M.Machine.script c.args.self.now.machine)
            (g.M.Machine.script c.loop-self.self.machine) c.loop-self.self.hand w done,
        subst (λ n. HadRoom h n (dids_of c.loop-self.self.hand.lane))
            c.loop-self.invariant.hand_of.1 w.had_room,
      );
      long = λ e. cc;
    }

pub returns-in-Err-Spent-clause-worked : goal.returns-in-Err-Spent-clause-worked
returns-in-Err-Spent-clause-worked g c =
    let inv = c.loop-self.invariant in
    let left = g.M.Machine.script c.loop-self.self.machine in
    let before = c.loop-self.self.hand in
    let hand = c.make_room.ensures.hand in
    let spent : c.make_room.result ≡ Err reserve.Spent = search rules in record {
      hand_of = (
        ap (λ (v : HandView). v.table) hand ∙ inv.hand_of.0,
        ap (λ (v : HandView). v.limit) hand ∙ inv.hand_of.1,
      );
      caller = ap (λ (v : HandView). v.caller) hand ∙ inv.caller;
      ended = worked_until_spent (g.M.Machine.header_of c.args.self.now.machine)
          (g.M.Machine.script c.args.self.now.machine) left before c.make_room.new.self.hand
          c.args.traced.now.plan.limit hand inv.hand_of.1 inv.working
          (subst (λ h. HasNoRoom h before.limit (length before.lane) (next_act left)) inv.header
          (c.make_room.ensures.spent spent));
      long = λ _. let most = c.make_room.ensures.long spent in
          omega (arith, most, inv.falls, inv.hand_of.1);
    }
