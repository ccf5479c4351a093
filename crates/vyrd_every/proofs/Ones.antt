-- What holds of one caller between any two events, and how one more event keeps it: its own, or
-- another caller's.
use Rattle.vyrd_every.proofs.Prelude
use Prelude.{◌≡◌, ℕ, Bool, true, false, cond, not, List, ◌∷◌, Some, None, refl, ◌∙◌, sym, subst}
use Prelude.{◌==◌, ◌&&◌, ◌||◌, is_some, unwrap_or, option_or, cons_option, not-true, Call, Return}
use Prelude.{Write, Commit, BlockOpen, BlockClose, BlockCommit, Entry, Did, Read, Wrote, Took, Gave}
use Prelude.{Marked, first_answer, by_caller, write_or_open, has_block, holds_word, logged, entry}
use Prelude.{wrote, own_block, own_wrote, same_of, both_of, Act, Memory, Script, stop, step}
use Prelude.{next_act, after_answer, event_of, answer_of, left_after, Situation, holds, observes}
use Prelude.{may_act, after_act, act_of_event, situation_after, event_act, Agrees, four_true}
use Prelude.{Structure, shown_by, Locals, Access, shown_after, answer_at, Rely, Guarantee, Reaches}
use Prelude.{ActsRight, DoesRight, OfCaller, never}
use Rattle.vyrd_every.proofs.Relies.{rely_same, rely_more}
use Rattle.vyrd_every.proofs.Logs.{shown_step, pending_step, pending_other, called_step}
use Rattle.vyrd_every.proofs.Logs.{called_other, word_other}

-- what an event of a script that does right does
pub record Stepped (S : Structure) (s : Situation) (k : Locals) (shown : Memory) (did : Did)
    (script : Script) : Type 0 where
  pub next : Locals
  pub does : ActsRight S s k shown (act_of_event did) (after_answer script 0) next
  pub later : (now : Memory) → Rely S (after_act s (act_of_event did)) next
      (shown_after s k shown (act_of_event did)) now
      → DoesRight S (after_act s (act_of_event did)) next now
      (after_answer script (answer_at shown (act_of_event did)))

pub stepped : (S : Structure) (s : Situation) (k : Locals) (shown : Memory) (did : Did)
    (script : Script) → DoesRight S s k shown script
    → event_of (next_act script) (answer_of did) ≡ Some did → Stepped S s k shown did script
stepped S s k shown did stop right e = cc
stepped S s k shown did (step act rest) right e =
    let end : Of (act_of_event did) = subst Of (event_act act did e) right in
    record { next = end.0; does = end.1; later = end.2 }
  where
    Of : Act → Type 0
    Of a = (next : Locals) × ActsRight S s k shown a (rest 0) next
        × ((now : Memory) → Rely S (after_act s a) next (shown_after s k shown a) now
        → DoesRight S (after_act s a) next now (rest (answer_at shown a)))

-- a word that the caller's block has written after its own event
covers_step : (S : Structure) (c : ℕ) (did : Did) (s : Situation) (log : List Entry)
    → Agrees c s log
    → Agrees c (after_act s (act_of_event did)) (cons_option (logged c did) log)
    → may_act S.header s (act_of_event did) ≡ true → Reaches S s (act_of_event did)
    → ((w : ℕ) → holds_word c w log ≡ true → Access S s w)
    → (w : ℕ) → holds_word c w (cons_option (logged c did) log) ≡ true
    → Access S (after_act s (act_of_event did)) w
covers_step S c (Read cell value) s log a b may reaches covers w e = covers w e
covers_step S c (Took lock) s log a b may reaches covers w e =
    let access = covers w e in
    record {
      low = access.low;
      held = or_true (lock == S.guard w) (holds s (S.guard w)) access.held;
    }
  where
    or_true : (x y : Bool) → y ≡ true → (x || y) ≡ true
    or_true true y f = refl
    or_true false y f = f
covers_step S c (Gave lock) s log a b may reaches covers w e =
    absurd (never (a.in_block ∙ reaches) (both_of (has_block c log) (wrote c w log) e).0)
covers_step S c (Wrote cell value) s log a b may reaches covers w e =
    let parts = both_of (has_block c (entry c (Write cell value) ∷ log))
    (wrote c w (entry c (Write cell value) ∷ log)) e in
    by_place (sym (own_block c (Write cell value) log) ∙ parts.0) (cell == w) refl
    (sym (own_wrote c w (Write cell value) log) ∙ parts.1)
  where
    by_place : has_block c log ≡ true → (t : Bool) → (cell == w) ≡ t
        → unwrap_or (option_or (cond t (Some true) None)
        (first_answer (by_caller c (write_or_open w)) log)) false ≡ true → Access S s w
    by_place inside true f g = subst (Access S s) (same_of cell w f) reaches
    by_place inside false f g = covers w ((λ i. inside i && wrote c w log) ∙ g)
covers_step S c (Marked (Call method args)) s log a b may reaches covers w e =
    absurd (never b.in_block
    (both_of (has_block c (entry c (Call method args) ∷ log))
    (wrote c w (entry c (Call method args) ∷ log)) e).0)
covers_step S c (Marked (Return reply)) s log a b may reaches covers w e =
    absurd (never b.in_block
    (both_of (has_block c (entry c (Return reply) ∷ log)) (wrote c w (entry c (Return reply) ∷ log))
    e).0)
covers_step S c (Marked (Write word value)) s log a b may reaches covers w e = absurd reaches
covers_step S c (Marked Commit) s log a b may reaches covers w e =
    absurd (never
    (b.in_block ∙ not-true s.in_block
    (four_true (is_some s.called) (not (observes s)) (not s.committed) (not s.in_block) may).3)
    (both_of (has_block c (entry c Commit ∷ log)) (wrote c w (entry c Commit ∷ log)) e).0)
covers_step S c (Marked BlockOpen) s log a b may reaches covers w e =
    absurd (never (own_wrote c w BlockOpen log)
    (both_of (has_block c (entry c BlockOpen ∷ log)) (wrote c w (entry c BlockOpen ∷ log)) e).1)
covers_step S c (Marked BlockClose) s log a b may reaches covers w e =
    absurd (never b.in_block
    (both_of (has_block c (entry c BlockClose ∷ log)) (wrote c w (entry c BlockClose ∷ log)) e).0)
covers_step S c (Marked BlockCommit) s log a b may reaches covers w e =
    absurd (never b.in_block
    (both_of (has_block c (entry c BlockCommit ∷ log)) (wrote c w (entry c BlockCommit ∷ log)) e).0)

-- the caller's own event
pub record OwnStep (S : Structure) (script : Script) (part : List Did) (log : List Entry) (c : ℕ)
    (did : Did) (k : Locals) : Type 0 where
  pub next : Locals
  pub does : ActsRight S (situation_after part) k (shown_by log) (act_of_event did)
      (after_answer (left_after script part) 0) next
  pub shows : shown_by (cons_option (logged c did) log) ≡ shown_after (situation_after part) k
      (shown_by log) (act_of_event did)
  pub one : OfCaller S script (did ∷ part) (cons_option (logged c did) log) c next

pub own_step : (S : Structure) (script : Script) (part : List Did) (log : List Entry) (c : ℕ)
    (did : Did) (k : Locals) → OfCaller S script part log c k
    → Agrees c (situation_after part) log
    → Agrees c (after_act (situation_after part) (act_of_event did))
    (cons_option (logged c did) log)
    → may_act S.header (situation_after part) (act_of_event did) ≡ true
    → event_of (next_act (left_after script part)) (answer_of did) ≡ Some did
    → (Reaches S (situation_after part) (act_of_event did) → answer_of did
    ≡ answer_at (shown_by log) (act_of_event did))
    → OwnStep S script part log c did k
own_step S script part log c did k one agrees agrees' may plays found =
    record {
      next = end.next;
      does = end.does;
      shows = shows;
      one =
          record {
            right = λ now rely. rw (found end.does.reaches)
                (end.later now (rw (← shows) rely));
            pending = cc (end.does.pending, one.pending, pending_step c did log);
            called = cc (end.does.called, one.called, called_step c did log);
            covers = covers_step S c did s log agrees agrees' may end.does.reaches one.covers;
            reserved = λ slot mine. rw shows (by_owned slot mine (k.owned slot) refl);
          };
    }
  where
    s : Situation
    s = situation_after part

    end : Stepped S s k (shown_by log) did (left_after script part)
    end = stepped S s k (shown_by log) did (left_after script part)
        (one.right (shown_by log) (rely_same S s k (shown_by log))) plays

    shows : shown_by (cons_option (logged c did) log) ≡ shown_after s k (shown_by log)
        (act_of_event did)
    shows = shown_step S c did s k log agrees.in_block one.pending end.does.reaches

    by_owned : (slot : ℕ) → end.next.owned slot ≡ true → (b : Bool) → k.owned slot ≡ b
        → S.Reserved (shown_after s k (shown_by log) (act_of_event did)) slot
    by_owned slot mine true e = end.does.kept slot mine e (one.reserved slot e)
    by_owned slot mine false e = (end.does.fresh slot mine e).1

-- another caller's event
pub other_step : (S : Structure) (script : Script) (part : List Did) (log : List Entry) (c d : ℕ)
    (did : Did) (s : Situation) (k kd : Locals) → OfCaller S script part log d kd
    → (c == d) ≡ false → shown_by (cons_option (logged c did) log) ≡ shown_after s k (shown_by log)
    (act_of_event did)
    → Guarantee S s k (shown_by log) (shown_after s k (shown_by log) (act_of_event did))
    → ((cell : ℕ) → Access S s cell → Access S (situation_after part) cell → ⊥)
    → ((slot : ℕ) → k.owned slot ≡ true → kd.owned slot ≡ true → ⊥)
    → OfCaller S script part (cons_option (logged c did) log) d kd
other_step S script part log c d did s k kd one apart shows guarantee alone separate = record {
  right = λ now rely. one.right now
      (rely_more S (situation_after part) kd (shown_by log)
      (shown_by (cons_option (logged c did) log)) now kept rely);
  pending = one.pending ∙ sym (pending_other d c did log apart);
  called = one.called ∙ sym (called_other d c did log apart);
  covers = λ w e. one.covers w (sym (word_other d c w did log apart) ∙ e);
  reserved = λ slot mine. S.stays (shown_by log) (shown_by (cons_option (logged c did) log)) slot
      (kept.owned slot mine) (one.reserved slot mine);
}
  where
    after : Memory
    after = shown_after s k (shown_by log) (act_of_event did)

    by_held : (cell : ℕ) → Access S (situation_after part) cell → (b : Bool)
        → holds s (S.guard cell) ≡ b → after cell ≡ shown_by log cell
    by_held cell access true e = absurd (alone cell (record { low = access.low; held = e }) access)
    by_held cell access false e = guarantee.others cell access.low e

    by_owned : (slot : ℕ) → kd.owned slot ≡ true → (b : Bool) → k.owned slot ≡ b
        → S.Same (shown_by log) after slot
    by_owned slot mine true e = absurd (separate slot e mine)
    by_owned slot mine false e = guarantee.reserved slot (one.reserved slot mine) e

    kept : Rely S (situation_after part) kd (shown_by log)
        (shown_by (cons_option (logged c did) log))
    kept = record {
      held = λ cell access. cc (by_held cell access (holds s (S.guard cell)) refl);
      owned = λ slot mine. rw shows
          (by_owned slot mine (k.owned slot) refl);
    }

-- no slot is reserved by two
pub still_apart : (S : Structure) (s : Situation) (k next kd : Locals) (shown : Memory) (act : Act)
    (rest : Script) → ActsRight S s k shown act rest next
    → ((slot : ℕ) → k.owned slot ≡ true → kd.owned slot ≡ true → ⊥)
    → ((slot : ℕ) → kd.owned slot ≡ true → S.Reserved shown slot)
    → (slot : ℕ) → next.owned slot ≡ true → kd.owned slot ≡ true → ⊥
still_apart S s k next kd shown act rest does separate reserved slot mine its = by_owned
    (k.owned slot) refl
  where
    by_owned : (b : Bool) → k.owned slot ≡ b → ⊥
    by_owned true e = separate slot e its
    by_owned false e = S.apart shown slot (does.fresh slot mine e).0 (reserved slot its)
