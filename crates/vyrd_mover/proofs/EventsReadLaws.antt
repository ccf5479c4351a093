-- What is kept of the events goes with the history that the lines so far say.
use Rattle.vyrd_mover.proofs.Prelude
use Prelude.{◌≡◌, ℕ, ◌+◌, ◌<◌, List, length, Option, None, Result, Ok, Err, refl, ap, sym, ◌∙◌}
use Prelude.{subst, Subject, Stamped, plain_words, lock_words, HistoryRule, Recorded, event_in}
use Prelude.{broken_by, event_read, line_read, IsInRange, Taken, IsNext, HaveRead, HaveReadOn}
use Rattle.vyrd_mover.specs.Remembering.{Remembered}
use Rattle.vyrd_mover.proofs.TextLaws.{no_rule}
use Rattle.vyrd_mover.proofs.TakingLaws.{taken_count, fits}

-- the history that was read, where one was
pub record ReadOn (s : Remembered) (t : Taken) (read : Result Recorded HistoryRule) : Type 0 where
  pub now : Recorded
  pub is : read ≡ Ok now
  pub have : HaveRead s t now

pub read_on : (s : Remembered) (t : Taken) (read : Result Recorded HistoryRule)
    → HaveReadOn s t read → ReadOn s t read
read_on s t (Ok r) have = record { now = r; is = refl; have = have }
read_on s t (Err rule) have = absurd have

-- what a line does after the history so far is what the event does that it says, if it says one
pub line_says : (s : Remembered) (t : Taken) (r : Recorded) (subject : Subject) (place : ℕ)
    (line : List ℕ) → HaveRead s t r → subject ≡ s.header.subject → place ≡ length t.steps
    → (said : Option Stamped) → event_in subject place line ≡ said
    → line_read r line ≡ event_read r said
line_says s t r subject place line have same count said is =
    let number = count ∙ taken_count t r.history have.taken in
    let whose = same ∙ ap (λ h. h.subject) have.header in
    ap (event_read r) ((λ i. event_in (sym whose i) (sym number i) line) ∙ is)

-- the first rule that it breaks
pub broken : (s : Remembered) (t : Taken) (r : Recorded) (e : Stamped) → HaveRead s t r
    → broken_by r e ≡ broken_by (record { header = s.header; history = r.history }) e
broken s t r e have = cc (have.header)

-- the number of the next event
pub counted : (s : Remembered) (t : Taken) (r : Recorded) (e : Stamped) → HaveRead s t r
    → e.number ≡ length t.steps → e.number ≡ length r.history
counted s t r e have count = count ∙ taken_count t r.history have.taken

-- an event that breaks no rule may be taken in
pub may_follow : (s : Remembered) (t : Taken) (r : Recorded) (e : Stamped) → HaveRead s t r
    → broken_by r e ≡ None → IsNext t.header r.history e
may_follow s t r e have none = rw have.same ((no_rule r e none).0)

-- and its caller and its cell are in range
pub below_callers : (s : Remembered) (t : Taken) (r : Recorded) (e : Stamped) → HaveRead s t r
    → IsNext t.header r.history e → e.caller < s.header.callers
below_callers s t r e have next = subst (λ h. e.caller < h.callers) (have.same ∙ sym have.header)
    ((fits t r.history e have.taken next).below)

pub in_ledger : (s : Remembered) (t : Taken) (r : Recorded) (e : Stamped) → HaveRead s t r
    → IsNext t.header r.history e
    → IsInRange (plain_words s.header) (plain_words s.header + lock_words s.header) e.did
in_ledger s t r e have next =
    rw (← have.same ∙ sym have.header) ((fits t r.history e have.taken next).in_cells)
