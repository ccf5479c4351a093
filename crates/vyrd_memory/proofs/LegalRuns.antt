-- The run by turns of sound scripts: each turn adds an event that may come, and each caller plays
-- its script.
use Rattle.vyrd_memory.proofs.Prelude
use Prelude.{◌≡◌, ℕ, zero, suc, ◌+◌, ◌<◌, ◌≤◌, Bool, true, cond, not, ◌&&◌, List, [], ◌∷◌, Option}
use Prelude.{Some, None, refl, ap, ◌∙◌, sym, subst, arith, ◌==◌, nat_lt, is_some, length}
use Prelude.{cons_option, nat_tests, Header, Kind, Did, Stamped, newest_first, numbers_below}
use Prelude.{cells_of, is_lock, value_in, is_write, may_do, is_legal, both_true, first_true}
use Prelude.{second_true, same_number, is_below, Act, Done, Turn, Script, stop, step, next_act}
use Prelude.{event_of, answer_of, left_after, Plays, Situation, IsSound, holds, may_act, may_mark}
use Prelude.{part_of, script_of, act_of, event_now, with_event, after_turn, after_turns}
use Prelude.{after_rounds, turns_of, is_done, RunsTo, AreSoundScripts, PlayToTheEnd}
use Rattle.vyrd_memory.proofs.NumberLists.{all_pass}
use Rattle.vyrd_memory.proofs.Situations.{situation_after, KeepsTo, sound_left, sound_keeps}
use Rattle.vyrd_memory.proofs.Situations.{done_is_stop, left_of_stop}
use Rattle.vyrd_memory.proofs.LegalEvents.{AreLegal, legal_history, are_answers}
use Rattle.vyrd_memory.proofs.HeldLocks.{held_is}

-- the events so far, the newest first, are legal, and each caller plays its script
pub record IsRun (h : Header) (scripts : List Script) (earlier : List Stamped) : Type 0 where
  pub legal : AreLegal (cells_of h) earlier
  pub plays : (c : ℕ) → Plays (script_of scripts c) (part_of c earlier)

-- a mark that may be left isn't a write
is_mark : (h : Header) (s : Situation) (kind : Kind) → may_mark h s kind ≡ true
    → not (is_write kind) ≡ true
is_mark h s kind may = grind arith

-- the event of an act that may come may happen
event_may : (h : Header) (c : ℕ) (earlier : List Stamped) (s : Situation) (act : Act) (did : Did)
    → may_act h s act ≡ true
    → ((lock : ℕ) → is_lock (cells_of h) lock ≡ true → holds s lock
    ≡ (value_in earlier lock == c + 1))
    → event_now earlier act ≡ Some did → may_do (cells_of h) earlier c did ≡ true
event_may h c earlier s act did may held e = search
    (both_true, same_number, first_true, is_some, second_true, is_mark, arith)

-- it is the event that the script wants
event_plays : (earlier : List Stamped) (act : Act) (did : Did) → event_now earlier act ≡ Some did
    → event_of act (answer_of did) ≡ Some did
event_plays earlier act did e = grind arith

next_may : (h : Header) (s : Situation) (script : Script) (earlier : List Stamped) (did : Did)
    → IsSound h s script
    → event_now earlier (next_act script) ≡ Some did
    → may_act h s (next_act script) ≡ true
next_may h s script earlier did sound e = search (step, arith)

-- a caller without a script does nothing
no_script : (scripts : List Script) (c : ℕ) → length scripts ≤ c → script_of scripts c ≡ stop
no_script [] c high = refl
no_script (script ∷ scripts) zero high = absurd (omega (arith, high))
no_script (script ∷ scripts) (suc c) high = no_script scripts c (omega arith)

nothing_left : (scripts : List Script) (c : ℕ) (earlier : List Stamped) → length scripts ≤ c
    → left_after (script_of scripts c) (part_of c earlier) ≡ stop
nothing_left scripts c earlier high = grind (arith, part_of, no_script, left_of_stop)

-- a caller's number is in range or not
in_range_or_not : {P : Type 0} (c n : ℕ) → (c < n → P) → (n ≤ c → P) → P
in_range_or_not e0 c n = grind (arith, nat_tests)

-- what is left of a caller's script is sound in the caller's situation, and its part keeps to what
-- may be done
pub run_sound : (h : Header) (scripts : List Script) (earlier : List Stamped) (c : ℕ)
    → AreSoundScripts h scripts
    → IsRun h scripts earlier → c < h.callers
    → IsSound h (situation_after (part_of c earlier))
    (left_after (script_of scripts c) (part_of c earlier))
run_sound h scripts earlier c sound run low = grind (arith, sound_left, part_of, are_answers)

pub run_keeps : (h : Header) (scripts : List Script) (earlier : List Stamped) (c : ℕ)
    → AreSoundScripts h scripts
    → IsRun h scripts earlier → c < h.callers
    → KeepsTo h (part_of c earlier)
run_keeps h scripts earlier c sound run low = grind (arith, sound_keeps, part_of, are_answers)

-- one event more
event_runs : (h : Header) (scripts : List Script) (earlier : List Stamped) (c : ℕ) (did : Did)
    → AreSoundScripts h scripts
    → IsRun h scripts earlier → c < h.callers
    → event_now earlier (act_of scripts c earlier) ≡ Some did
    → IsRun h scripts (record { number = length earlier; caller = c; did = did } ∷ earlier)
event_runs h scripts earlier c did sound run low e = record {
  legal = (
    both_true (length earlier == length earlier && nat_lt c h.callers)
        (may_do (cells_of h) earlier c did)
        (both_true (length earlier == length earlier) (nat_lt c h.callers)
        (same_number (length earlier)) (is_below c h.callers low))
        (event_may h c earlier (situation_after (part_of c earlier)) (act_of scripts c earlier) did
        (next_may h (situation_after (part_of c earlier))
        (left_after (script_of scripts c) (part_of c earlier)) earlier did
        (run_sound h scripts earlier c sound run low) e)
        (λ lock is. held_is h c earlier lock run.legal (run_keeps h scripts earlier c sound run low)
        is)
        e),
    run.legal,
  );
  plays = λ i. by_caller i (c == i) refl;
}
  where
    by_caller : (i : ℕ) (b : Bool) → (c == i) ≡ b → Plays (script_of scripts i)
        (cons_option (cond b (Some did) None) (part_of i earlier))
    by_caller i b is = search (event_plays, arith)

-- a turn, turns and rounds
turn_runs : (h : Header) (scripts : List Script) (earlier : List Stamped) (c : ℕ)
    → AreSoundScripts h scripts → IsRun h scripts earlier
    → IsRun h scripts (after_turn scripts c earlier)
turn_runs h scripts earlier c sound run = by_event (event_now earlier (act_of scripts c earlier))
    refl
  where
    none : (did : Did) → event_now earlier (act_of scripts c earlier) ≡ Some did → h.callers ≤ c → ⊥
    none did e high =
        let idle : act_of scripts c earlier ≡ Done = ap next_act
        (nothing_left scripts c earlier (omega (arith, high, sound.count))) in
        let no : None ≡ Some did = sym (ap (event_now earlier) idle) ∙ e in
        cc

    by_event : (o : Option Did) → event_now earlier (act_of scripts c earlier) ≡ o
        → IsRun h scripts (with_event c earlier o)
    by_event None e = run
    by_event (Some did) e = in_range_or_not c h.callers
        (λ low. event_runs h scripts earlier c did sound run low e)
        (λ high. absurd (none did e high))

pub turns_run : (h : Header) (scripts : List Script) (callers : List ℕ) (earlier : List Stamped)
    → AreSoundScripts h scripts → IsRun h scripts earlier
    → IsRun h scripts (after_turns scripts callers earlier)
turns_run h scripts [] earlier sound run = run
turns_run h scripts (c ∷ callers) earlier sound run =
    turns_run h scripts callers (after_turn scripts c earlier) sound
    (turn_runs h scripts earlier c sound run)

pub rounds_run : (h : Header) (scripts : List Script) (rounds : ℕ) (earlier : List Stamped)
    → AreSoundScripts h scripts → IsRun h scripts earlier
    → IsRun h scripts (after_rounds scripts rounds earlier)
rounds_run h scripts zero earlier sound run = run
rounds_run h scripts (suc rounds) earlier sound run =
    rounds_run h scripts rounds (after_turns scripts (numbers_below (length scripts)) earlier) sound
    (turns_run h scripts (numbers_below (length scripts)) earlier sound run)

whole_run : (h : Header) (scripts : List Script) (turns : List Turn) (history : List Stamped)
    → AreSoundScripts h scripts
    → RunsTo scripts turns history
    → IsRun h scripts (newest_first history)
whole_run h scripts turns history sound to =
    subst (IsRun h scripts) (sym to.history_is)
    (rounds_run h scripts to.rounds (after_turns scripts (turns_of turns) []) sound
    (turns_run h scripts (turns_of turns) [] sound (record { legal = tt; plays = λ c. tt })))

-- the history of the run is legal, and each script is played to its end
pub run_is_legal : (h : Header) (scripts : List Script) (turns : List Turn) (history : List Stamped)
    → AreSoundScripts h scripts
    → RunsTo scripts turns history
    → is_legal (cells_of h) history ≡ true
run_is_legal h scripts turns history sound to = legal_history (cells_of h) history
    (whole_run h scripts turns history sound to).legal

pub run_plays : (h : Header) (scripts : List Script) (turns : List Turn) (history : List Stamped)
    → AreSoundScripts h scripts
    → RunsTo scripts turns history
    → PlayToTheEnd scripts history
run_plays h scripts turns history sound to c = record {
  plays = (whole_run h scripts turns history sound to).plays c;
  done = in_range_or_not c (length scripts)
      (λ low. done_is_stop h (situation_after (part_of c (newest_first history)))
      (left_after (script_of scripts c) (part_of c (newest_first history)))
      (run_sound h scripts (newest_first history) c sound
      (whole_run h scripts turns history sound to) (omega (arith, low, sound.count)))
      (all_pass (λ c. is_done (act_of scripts c (newest_first history))) 0 (length scripts) to.done
      c (omega arith) (omega arith)))
      (nothing_left scripts c (newest_first history));
}
