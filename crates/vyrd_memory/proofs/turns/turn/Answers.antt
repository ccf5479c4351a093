use Rattle.vyrd_memory.proofs.Prelude
use Prelude.{◌≡◌, ◌<◌, ◌++◌, vec_len, List, [], ◌∷◌, ◌∙◌, sym, ap, subst, Some, rules, arith}
use Prelude.{slice_get, get_or, length, set, Stamped, slice_get-is, slice_get-set_other, next_act}
use Prelude.{HasPlayed, scene, event_in, words_with, words_after_event, IsWithin, IsReady, total}
use Rattle.std.proofs.lemmas.List.{set-get_or, length-set}
use Rattle.vyrd_memory.proofs.PlayLaws.{IsTurn, machine_within, turn_played, no_turn_played}
use Rattle.vyrd_memory.proofs.PlayLaws.{next_ready, total_falls}
use Rattle.vyrd_memory.proofs.turns.turn.Given as given
use Rattle.vyrd_memory.proofs.turns.turn.Goals as goal
use Rattle.vyrd_memory.proofs.turns.turn.Goals.{In_default, In_ok-take}

pub perform-requires : goal.perform-requires
perform-requires g c =
    let m = c.index-machines-caller.result in
    let here : slice_get c.args.machines.now c.args.caller
    ≡ Some m = slice_get-is c.args.machines.now c.args.caller m c.requires.caller
    c.index-machines-caller.is in
    let room : length c.args.words.now.items ≡ vec_len c.args.words.now = search rules in
    subst (λ n. IsWithin n c.wants.result) room
    (machine_within c.args.header.now g.M.Machine.header_of g.M.Machine.script c.args.machines.now
    c.args.caller m c.args.words.now.items c.wants.result c.requires.ready here
    (g.met.M.Machine.is_sound m)
    (c.wants.ensures ∙ ap (λ m. next_act (g.M.Machine.script m)) (sym c.index-machines-caller.is)))

-- a turn that has no event
unmoved : (g : given.Over) (c : In_default g) (history : List Stamped)
    → HasPlayed c.args.header.now g.M.Machine.header_of g.M.Machine.script (c.args.caller ∷ [])
    (scene c.args.machines.now c.args.words.now.items history)
    (scene (set c.args.machines.now c.args.caller
    (get_or c.args.machines.now c.args.caller c.index-machines-caller.result))
    c.perform.new.words.items history)
unmoved g c history =
    let m = c.index-machines-caller.result in
    let here : slice_get c.args.machines.now c.args.caller
    ≡ Some m = slice_get-is c.args.machines.now c.args.caller m c.requires.caller
    c.index-machines-caller.is in
    let act = c.wants.ensures ∙ ap (λ m. next_act (g.M.Machine.script m))
    (sym c.index-machines-caller.is) in
    let none = ap (event_in c.args.words.now.items) (sym act) ∙ sym c.perform.ensures.event
    ∙ c.in_default.is in
    let words = c.perform.ensures.words
    ∙ ap (words_after_event c.args.words.now.items c.args.caller) c.in_default.is in
    rw (set-get_or c.args.machines.now c.args.caller m)
    (no_turn_played c.args.header.now g.M.Machine.header_of g.M.Machine.script c.args.machines.now
    c.args.caller m c.args.words.now.items c.perform.new.words.items history
    c.requires.ready here (g.met.M.Machine.is_sound m) none words)

pub returns-in_default-clause-shown : goal.returns-in_default-clause-shown
returns-in_default-clause-shown g c =
    let at_rest = unmoved g c [] in
    record {
      ready = at_rest.ready;
      count = at_rest.count;
      shown = λ history taken. record {
        later = history;
        taken = taken;
        played = unmoved g c history;
      };
    }

-- the turn that has been made
turn_of : (g : given.Over) (c : In_ok-take g)
    → IsTurn c.args.header.now g.M.Machine.header_of g.M.Machine.script c.args.machines.now
    c.args.caller c.index-machines-caller.result c.took.new.self c.args.words.now.items
    c.in-Some.did
turn_of g c = record {
  ready = c.requires.ready;
  caller = c.ranges.caller.fits;
  here = slice_get-is c.args.machines.now c.args.caller c.index-machines-caller.result
      c.requires.caller c.index-machines-caller.is;
  sound = g.met.M.Machine.is_sound c.index-machines-caller.result;
  event =
      ap (event_in c.args.words.now.items)
      (sym (cc (c.wants.ensures, c.index-machines-caller.is)))
      ∙ sym c.perform.ensures.event ∙ c.in-Some.is;
  header = c.took.ensures.header ∙ ap g.M.Machine.header_of (sym c.index-machines-caller.is);
  script_is = cc (c.took.ensures.script, c.index-machines-caller.is, c.answer.ensures);
}

words_are : (g : given.Over) (c : In_ok-take g) → c.perform.new.words.items
    ≡ words_with c.args.words.now.items c.args.caller c.in-Some.did
words_are g c = grind (arith, c.perform.ensures.words, c.in-Some.is)

-- the machine has less ahead now
ahead_falls : (g : given.Over) (c : In_ok-take g)
    → total g.M.Machine.ahead (set c.args.machines.now c.args.caller c.took.new.self) < total
    g.M.Machine.ahead c.args.machines.now
ahead_falls g c = grind (arith, total_falls, slice_get-is)

-- the event that the sink takes
abbrev event_of : (g : given.Over) (c : In_ok-take g) → Stamped
event_of g c = record { number = c.taken.result; caller = c.args.caller; did = c.in-Some.did }

played : (g : given.Over) (c : In_ok-take g) (history : List Stamped)
    → g.S.EventSink.count c.args.sink.now ≡ length history
    → HasPlayed c.args.header.now g.M.Machine.header_of g.M.Machine.script (c.args.caller ∷ [])
    (scene c.args.machines.now c.args.words.now.items history)
    (scene (set c.args.machines.now c.args.caller c.took.new.self) c.perform.new.words.items
    (history ++ event_of g c ∷ []))
played g c history counted =
    turn_played c.args.header.now g.M.Machine.header_of g.M.Machine.script c.args.machines.now
    c.args.caller c.index-machines-caller.result c.took.new.self c.args.words.now.items
    c.perform.new.words.items
    c.in-Some.did history (history ++ event_of g c ∷ []) (turn_of g c) (words_are g c)
    (cc (c.taken.ensures))

pub returns-clause-shown : goal.returns-clause-shown
returns-clause-shown g c =
    let t = turn_of g c in
    record {
      ready = subst
          (IsReady c.args.header.now g.M.Machine.header_of
          (set c.args.machines.now c.args.caller c.took.new.self)) (sym (words_are g c))
          (next_ready c.args.header.now g.M.Machine.header_of g.M.Machine.script c.args.machines.now
          c.args.caller c.index-machines-caller.result c.took.new.self c.args.words.now.items
          c.in-Some.did t);
      count = length-set c.args.machines.now c.args.caller c.took.new.self;
      shown = λ history taken. record {
        later = history ++ event_of g c ∷ [];
        taken = c.in_ok-take.ensures.taken history taken;
        played = played g c history (g.met.S.EventSink.counted c.args.sink.now history taken);
      };
    }

pub take-requires-clause-few : goal.take-requires-clause-few
take-requires-clause-few g c =
    let falls = total_falls g.M.Machine.ahead c.args.machines.now c.args.caller
    c.index-machines-caller.result c.took.new.self
    (slice_get-is c.args.machines.now c.args.caller c.index-machines-caller.result c.requires.caller
    c.index-machines-caller.is)
    (rw c.index-machines-caller.is c.took.ensures.falls) in
    omega (arith, c.requires.few, falls)

pub returns-clause-falls : goal.returns-clause-falls
returns-clause-falls g c = λ e. ahead_falls g c

pub returns-clause-few : goal.returns-clause-few
returns-clause-few g c = omega (arith, c.in_ok-take.ensures.count, ahead_falls g c)

pub returns-clause-rests : goal.returns-clause-rests
returns-clause-rests g c = omega (arith, ahead_falls g c)

-- the other machines stay as they are
pub returns-in_default-clause-others : goal.returns-in_default-clause-others
returns-in_default-clause-others g c = λ other apart.
    slice_get-set_other c.args.machines.now c.args.caller other
    (get_or c.args.machines.now c.args.caller c.index-machines-caller.result) apart

pub returns-clause-others : goal.returns-clause-others
returns-clause-others g c = λ other apart.
    slice_get-set_other c.args.machines.now c.args.caller other c.took.new.self apart
