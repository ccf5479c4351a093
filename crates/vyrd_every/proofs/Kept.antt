-- The invariant of a structure, as what the rest of the proof asks for.
use Rattle.vyrd_every.proofs.Prelude
use Prelude.{◌≡◌, ℕ, ◌<◌, true, false, List, [], refl, ap, subst, Stamped, Amounts, start, Act}
use Prelude.{Load, Store, Take, Give, Mark, Done, Memory, Script, stop, step, next_act, left_after}
use Prelude.{Situation, holds, part_of, script_of, is_done, situation_after, Structure, shown_by}
use Prelude.{Locals, empty_locals, Reaches, DoesRight, AreRight, log_in, Invariant}
use Rattle.vyrd_every.proofs.Relies.{rely_same}
use Rattle.vyrd_every.proofs.NextEvent.{next_event}
use Rattle.vyrd_every.proofs.Keeping.{Keeping}

-- nothing was done yet
begins : (S : Structure) (scripts : List Script) → AreRight S scripts
    → Invariant S scripts [] (λ c. empty_locals) [] start.shown
begins S scripts are = record {
  kept = tt;
  each = λ c low. record {
    right = λ now rely. are.right c low now;
    pending = refl;
    called = refl;
    covers = λ w e. cc;
    reserved = λ slot mine. cc;
  };
  apart = λ c d low_c low_d other slot mine its. cc;
  means = are.fits.begins;
  count = refl;
  seen = λ c low called is reply answer. cc;
}

takes_higher : (S : Structure) (s : Situation) (k : Locals) (shown : Memory) (script : Script)
    (lock : ℕ) → DoesRight S s k shown script → next_act script ≡ Take lock
    → (held : ℕ) → holds s held ≡ true → held < lock
takes_higher S s k shown stop lock right e = cc
takes_higher S s k shown (step act rest) lock right e = subst (Reaches S s) e right.1.reaches

-- a caller that is done holds no lock
done_holds : (S : Structure) (s : Situation) (k : Locals) (shown : Memory) (script : Script)
    (lock : ℕ) → DoesRight S s k shown script
    → is_done (next_act script) ≡ true → holds s lock ≡ false
done_holds S s k shown stop lock right e = ap (λ s. holds s lock) right.rests
done_holds S s k shown (step act rest) lock right e = absurd (undone act right.1.reaches e)
  where
    undone : (act : Act) → Reaches S s act → is_done act ≡ true → ⊥
    undone (Load cell) reaches f = cc
    undone (Store cell value) reaches f = cc
    undone (Take other) reaches f = cc
    undone (Give other) reaches f = cc
    undone (Mark kind) reaches f = cc
    undone Done reaches f = reaches

pub keeping_of : (S : Structure) (scripts : List Script) → AreRight S scripts
    → Keeping S.header scripts
keeping_of S scripts are = record {
  sound = are.sound;
  Holds = λ earlier passed state. (locals : ℕ → Locals) × Invariant S scripts earlier locals passed
      state;
  begins = (λ c. empty_locals, begins S scripts are);
  goes_on = λ earlier number c did passed state run inv.
      let next = next_event S scripts earlier number c did inv.0 passed state are.fits are.sound run
      inv.1 in
      record {
        next = next.next;
        holds_now = (next.locals, next.holds);
        leading = next.leading;
        returning = next.returning;
      };
  kept = λ earlier passed state inv. inv.1.kept;
  count = λ earlier passed state inv. inv.1.count;
  view = λ earlier passed state run inv. are.fits.view (log_in earlier) state inv.1.means;
  upward = λ earlier passed state run inv c low lock takes.
      takes_higher S (situation_after (part_of c earlier)) (inv.0 c) (shown_by (log_in earlier))
      (left_after (script_of scripts c) (part_of c earlier)) lock
      (right earlier passed state inv.0 inv.1 c low) takes;
  idle = λ earlier passed state run inv c low done lock.
      done_holds S (situation_after (part_of c earlier)) (inv.0 c) (shown_by (log_in earlier))
      (left_after (script_of scripts c) (part_of c earlier)) lock
      (right earlier passed state inv.0 inv.1 c low) done;
}
  where
    right : (earlier : List Stamped) (passed : List Amounts) (state : Amounts) (locals : ℕ → Locals)
        → Invariant S scripts earlier locals passed state
        → (c : ℕ) → c < S.header.callers
        → DoesRight S (situation_after (part_of c earlier)) (locals c) (shown_by (log_in earlier))
        (left_after (script_of scripts c) (part_of c earlier))
    right earlier passed state locals inv c low =
        (inv.each c low).right (shown_by (log_in earlier))
        (rely_same S (situation_after (part_of c earlier)) (locals c) (shown_by (log_in earlier)))
