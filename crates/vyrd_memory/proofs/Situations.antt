-- The situation of a caller after its part of a history, the newest event first. A sound script
-- that is played keeps to what may be
-- done.
use Rattle.vyrd_memory.proofs.Prelude.{◌≡◌, true, List, [], ◌∷◌, Some, refl, ap, same_Some, Header}
use Rattle.vyrd_memory.proofs.Prelude.{Did, Read, Wrote, Took, Gave, Marked, Act, Load, Store, Take}
use Rattle.vyrd_memory.proofs.Prelude.{Give, Mark, Done, Script, stop, step, next_act, after_answer}
use Rattle.vyrd_memory.proofs.Prelude.{event_of, answer_of, left_after, IsAnswer, Plays, Situation}
use Rattle.vyrd_memory.proofs.Prelude.{at_rest, may_act, after_act, IsSound, is_done}

-- the act whose event it is
abbrev pub act_of_event : Did → Act
act_of_event (Read cell value) = Load cell
act_of_event (Wrote cell value) = Store cell value
act_of_event (Took lock) = Take lock
act_of_event (Gave lock) = Give lock
act_of_event (Marked kind) = Mark kind

-- the caller's situation after these events
abbrev pub situation_after : List Did → Situation
situation_after [] = at_rest
situation_after (did ∷ earlier) = after_act (situation_after earlier) (act_of_event did)

-- each event may come in the situation that those before it leave
abbrev pub KeepsTo : Header → List Did → Type 0
KeepsTo h [] = Unit {0}
KeepsTo h (did ∷ earlier) = (may_act h (situation_after earlier) (act_of_event did) ≡ true)
    × KeepsTo h earlier

-- each event gave an answer that its act may have
abbrev pub AreAnswers : List Did → Type 0
AreAnswers [] = Unit {0}
AreAnswers (did ∷ earlier) = IsAnswer (act_of_event did) (answer_of did) × AreAnswers earlier

pub event_act : (act : Act) (did : Did) → event_of act (answer_of did) ≡ Some did
    → act ≡ act_of_event did
event_act (Load cell) did e = ap act_of_event (same_Some (Read cell (answer_of did)) did e)
event_act (Store cell value) did e = ap act_of_event (same_Some (Wrote cell value) did e)
event_act (Take lock) did e = ap act_of_event (same_Some (Took lock) did e)
event_act (Give lock) did e = ap act_of_event (same_Some (Gave lock) did e)
event_act (Mark kind) did e = ap act_of_event (same_Some (Marked kind) did e)
event_act Done did e = cc

-- an event of a sound script may come, and what is left is sound after it
sound_may : (h : Header) (s : Situation) (script : Script) (did : Did) → IsSound h s script
    → event_of (next_act script) (answer_of did) ≡ Some did
    → may_act h s (act_of_event did) ≡ true
sound_may h s stop did sound e = cc
sound_may h s (step act rest) did sound e = cc (event_act act did e, sound.0)

sound_step : (h : Header) (s : Situation) (script : Script) (did : Did) → IsSound h s script
    → event_of (next_act script) (answer_of did) ≡ Some did
    → IsAnswer (act_of_event did) (answer_of did) → IsSound h (after_act s (act_of_event did))
    (after_answer script (answer_of did))
sound_step h s stop did sound e answer = cc
sound_step h s (step act rest) did sound e answer =
    let same : act ≡ act_of_event did = event_act _ _ e in
    rw (← same) (sound.1 (answer_of did) (rw same answer))

-- what is left of a sound script that was played so far
pub sound_left : (h : Header) (script : Script) (dids : List Did) → IsSound h at_rest script
    → Plays script dids → AreAnswers dids
    → IsSound h (situation_after dids) (left_after script dids)
sound_left h script [] sound plays answers = sound
sound_left h script (did ∷ earlier) sound plays answers =
    sound_step h (situation_after earlier) (left_after script earlier) did
    (sound_left h script earlier sound plays.1 answers.1) plays.0 answers.0

pub sound_keeps : (h : Header) (script : Script) (dids : List Did) → IsSound h at_rest script
    → Plays script dids → AreAnswers dids → KeepsTo h dids
sound_keeps h script [] sound plays answers = tt
sound_keeps h script (did ∷ earlier) sound plays answers = (
  sound_may h (situation_after earlier) (left_after script earlier) did
      (sound_left h script earlier sound plays.1 answers.1) plays.0,
  sound_keeps h script earlier sound plays.1 answers.1,
)

-- a sound script that is at its end leaves the caller at rest, and a sound script that does nothing
-- more is at its end
pub rests_at_stop : (h : Header) (s : Situation) (script : Script) → IsSound h s script
    → script ≡ stop → s ≡ at_rest
rests_at_stop h s stop sound e = sound
rests_at_stop h s (step act rest) sound e = cc

pub done_is_stop : (h : Header) (s : Situation) (script : Script) → IsSound h s script
    → is_done (next_act script) ≡ true → script ≡ stop
done_is_stop h s stop sound e = refl
done_is_stop h s (step act rest) sound e = absurd (undone act sound.0 e)
  where
    undone : (act : Act) → may_act h s act ≡ true → is_done act ≡ true → ⊥
    undone (Load cell) may e = cc
    undone (Store cell value) may e = cc
    undone (Take lock) may e = cc
    undone (Give lock) may e = cc
    undone (Mark kind) may e = cc
    undone Done may e = cc

-- nothing is left of nothing
pub left_of_stop : (dids : List Did) → left_after stop dids ≡ stop
left_of_stop [] = refl
left_of_stop (did ∷ earlier) = cc (left_of_stop earlier)
