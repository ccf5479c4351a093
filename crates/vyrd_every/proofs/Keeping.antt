-- What a proof about a structure has to give: something that holds at the beginning and after every
-- event, with the states that
-- have passed. All that follows of the log goes by this alone.
use Rattle.vyrd_every.proofs.Prelude.{◌≡◌, ℕ, ◌<◌, true, false, List, [], ◌∷◌, length, Header, Did}
use Rattle.vyrd_every.proofs.Prelude.{Stamped, Amounts, start, commit_count, ended_words}
use Rattle.vyrd_every.proofs.Prelude.{view_of_words, WellFormed, Take, Script, after_answer}
use Rattle.vyrd_every.proofs.Prelude.{left_after, holds, AreSoundScripts, part_of, script_of}
use Rattle.vyrd_every.proofs.Prelude.{act_of, is_done, situation_after, IsRun, log_in}
use Rattle.vyrd_every.proofs.Answered.{passed_after}
use Rattle.vyrd_every.proofs.NextEvent.{Leading, Returning}

-- one more event
pub record GoesOn (Holds : List Stamped → List Amounts → Amounts → Type 0) (scripts : List Script)
    (earlier : List Stamped) (number c : ℕ) (did : Did)
    (passed : List Amounts) (state : Amounts) : Type 0 where
  pub next : Amounts
  pub holds_now : Holds (record { number = number; caller = c; did = did } ∷ earlier)
      (passed_after did passed state) next
  pub leading : Leading c did (log_in earlier)
      (after_answer (left_after (script_of scripts c) (part_of c earlier)) 0) state next
  pub returning : Returning c did (log_in earlier) passed state

pub record Keeping (h : Header) (scripts : List Script) : Type 1 where
  pub sound : AreSoundScripts h scripts
  pub Holds : List Stamped → List Amounts → Amounts → Type 0
  pub begins : Holds [] [] start.shown
  pub goes_on : (earlier : List Stamped) (number c : ℕ) (did : Did) (passed : List Amounts)
      (state : Amounts)
      → IsRun h scripts (record { number = number; caller = c; did = did } ∷ earlier)
      → Holds earlier passed state
      → GoesOn Holds scripts earlier number c did passed state
  pub kept : (earlier : List Stamped) (passed : List Amounts) (state : Amounts)
      → Holds earlier passed state → WellFormed h (log_in earlier)
  pub count : (earlier : List Stamped) (passed : List Amounts) (state : Amounts)
      → Holds earlier passed state → length passed ≡ commit_count (log_in earlier)
  pub view : (earlier : List Stamped) (passed : List Amounts) (state : Amounts)
      → IsRun h scripts earlier → Holds earlier passed state
      → view_of_words h (ended_words h (log_in earlier)) ≡ state
  -- a caller that takes a lock holds only lower ones, and one that is done holds none
  pub upward : (earlier : List Stamped) (passed : List Amounts) (state : Amounts)
      → IsRun h scripts earlier → Holds earlier passed state
      → (c : ℕ) → c < h.callers → (lock : ℕ) → act_of scripts c earlier ≡ Take lock
      → (held : ℕ) → holds (situation_after (part_of c earlier)) held ≡ true → held < lock
  pub idle : (earlier : List Stamped) (passed : List Amounts) (state : Amounts)
      → IsRun h scripts earlier → Holds earlier passed state
      → (c : ℕ) → c < h.callers → is_done (act_of scripts c earlier) ≡ true → (lock : ℕ)
      → holds (situation_after (part_of c earlier)) lock ≡ false
