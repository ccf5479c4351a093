-- The part of one caller that plays a sound script keeps the rules, whatever the others do.
use Rattle.vyrd_memory.proofs.Prelude
use Prelude.{◌≡◌, ℕ, ◌<◌, Bool, true, false, cond, List, [], ◌∷◌, Some, None, refl, arith, ◌==◌}
use Prelude.{is_none, filter_map, cons_option, nat_tests, Header, Entry, Did, Read, Wrote, Took}
use Prelude.{Gave, Marked, Stamped, newest_first, open_call, logged, log_of, log_entry, Script}
use Prelude.{Plays, Situation, at_rest, may_act, IsSound, part_of}
use Rattle.vyrd_base.proofs.ListLaws.{isnt_some}
use Rattle.vyrd_memory.specs.Scripts.{PlaysToTheEnd}
use Rattle.vyrd_memory.specs.LaneRules.{AreSmallReads, KeepsTheRules}
use Rattle.vyrd_memory.proofs.Situations.{act_of_event, situation_after, KeepsTo, AreAnswers}
use Rattle.vyrd_memory.proofs.Situations.{sound_keeps, sound_left, rests_at_stop}
use Rattle.vyrd_memory.proofs.Agreements.{Agrees, agrees, keeps_before}
use Rattle.vyrd_memory.proofs.KeptRules.{isnt_open, write_kept, mark_kept}
use Rattle.vyrd_memory.proofs.RaceLaws.{newest_log}

-- small reads are what an act may be answered
are_answers : (dids : List Did) → AreSmallReads dids → AreAnswers dids
are_answers [] small = tt
are_answers (Read cell value ∷ earlier) small = (small.0, are_answers earlier small.1)
are_answers (Wrote cell value ∷ earlier) small = (refl, are_answers earlier small)
are_answers (Took lock ∷ earlier) small = (refl, are_answers earlier small)
are_answers (Gave lock ∷ earlier) small = (refl, are_answers earlier small)
are_answers (Marked kind ∷ earlier) small = (refl, are_answers earlier small)

-- one event more of the caller, and of another
own_keeps : (h : Header) (c : ℕ) (did : Did) (s : Situation) (log : List Entry) → c < h.callers
    → may_act h s (act_of_event did) ≡ true
    → Agrees c s log → KeepsTheRules h c log → KeepsTheRules h c (cons_option (logged c did) log)
own_keeps h c (Read cell value) s log low may a keeps = keeps
own_keeps h c (Wrote cell value) s log low may a keeps =
    (λ same. (write_kept h c cell value s log low may a).raced, keeps)
own_keeps h c (Took lock) s log low may a keeps = keeps
own_keeps h c (Gave lock) s log low may a keeps = keeps
own_keeps h c (Marked kind) s log low may a keeps =
    (λ same. (mark_kept h c kind s log low may a).raced, keeps)

differ : (d c : ℕ) → (d == c) ≡ false → d ≡ c → ⊥
differ d c apart same = grind (arith, nat_tests)

other_keeps : (h : Header) (c d : ℕ) (did : Did) (log : List Entry) → (d == c) ≡ false
    → KeepsTheRules h c log → KeepsTheRules h c (cons_option (logged d did) log)
other_keeps h c d did log apart keeps = grind (arith, apart, differ)

event_keeps : (h : Header) (c : ℕ) (e : Stamped) (earlier : List Stamped) → c < h.callers
    → (b : Bool) → (e.caller == c) ≡ b
    → KeepsTo h (cons_option (cond b (Some e.did) None) (part_of c earlier))
    → KeepsTheRules h c (filter_map log_entry earlier)
    → KeepsTheRules h c (cons_option (logged e.caller e.did) (filter_map log_entry earlier))
event_keeps h c e earlier low true is keeps rest =
    grind (
      arith,
      own_keeps h c e.did (situation_after (part_of c earlier)) (filter_map log_entry
          earlier) low keeps.0 (agrees h c earlier keeps.1) rest,
    )
event_keeps h c e earlier low false is keeps rest = search (other_keeps, arith)

-- so the log of events in which the caller keeps to what it may do
events_keep : (h : Header) (c : ℕ) (earlier : List Stamped) → c < h.callers
    → KeepsTo h (part_of c earlier)
    → KeepsTheRules h c (filter_map log_entry earlier)
events_keep h c [] low keeps = tt
events_keep h c (e ∷ earlier) low keeps =
    event_keeps h c e earlier low (e.caller == c) refl keeps
    (events_keep h c earlier low (keeps_before h c e earlier keeps))

pub lane_keeps : (h : Header) (c : ℕ) (script : Script) (history : List Stamped) → c < h.callers
    → IsSound h at_rest script
    → Plays script (part_of c (newest_first history))
    → AreSmallReads (part_of c (newest_first history))
    → KeepsTheRules h c (newest_first (log_of history))
lane_keeps h c script history low sound plays small =
    grind (arith, small, newest_log, events_keep, sound_keeps, part_of, are_answers)

pub lane_is_closed : (h : Header) (c : ℕ) (script : Script) (history : List Stamped) → c < h.callers
    → IsSound h at_rest script
    → PlaysToTheEnd script (part_of c (newest_first history))
    → AreSmallReads (part_of c (newest_first history))
    → open_call c (newest_first (log_of history)) ≡ None
lane_is_closed h c script history low sound plays small =
    grind (
      arith,
      small,
      newest_log,
      isnt_some,
      isnt_open,
      agrees,
      is_none,
      part_of,
      are_answers,
      sound_keeps,
      rests_at_stop,
      sound_left,
    )
