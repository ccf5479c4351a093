-- What holds at the beginning, and so after every event.
use Rattle.vyrd_every.proofs.Prelude.{◌≡◌, List, [], ◌∷◌, None, refl, sym, subst, Header, Entry}
use Rattle.vyrd_every.proofs.Prelude.{Stamped, newest_first_onto, newest_first, front, first_break}
use Rattle.vyrd_every.proofs.Prelude.{WellFormed, Amounts, start, log_of, Script, IsRun, newest_log}
use Rattle.vyrd_base.proofs.Fronts.{break_after, front_after_whole}
use Rattle.vyrd_every.proofs.Answered.{passed_after}
use Rattle.vyrd_every.proofs.NextEvent.{run_before}
use Rattle.vyrd_every.proofs.Keeping.{GoesOn, Keeping}

-- it holds with some states
pub record Reached (h : Header) (scripts : List Script) (k : Keeping h scripts)
    (earlier : List Stamped) : Type 0 where
  pub passed : List Amounts
  pub state : Amounts
  pub holds_now : k.Holds earlier passed state

pub reached : (h : Header) (scripts : List Script) (k : Keeping h scripts) (earlier : List Stamped)
    → IsRun h scripts earlier → Reached h scripts k earlier
reached h scripts k [] run = record { passed = []; state = start.shown; holds_now = k.begins }
reached h scripts k (e ∷ earlier) run = one_more
    (reached h scripts k earlier (run_before h _ e _ run))
  where
    one_more : Reached h scripts k earlier → Reached h scripts k (e ∷ earlier)
    one_more before =
        let after : GoesOn k.Holds scripts earlier e.number e.caller e.did before.passed
        before.state = k.goes_on _ _ _ _ _ _ run before.holds_now in
        record { passed = passed_after e.did _ _; state = after.next; holds_now = after.holds_now }

-- a log that is well formed entry by entry has no break
unbroken : (h : Header) (earlier xs : List Entry) → WellFormed h (newest_first_onto earlier xs)
    → break_after h earlier xs ≡ None
unbroken h earlier [] kept = refl
unbroken h earlier (x ∷ xs) kept =
    cc ((kept_before xs (x ∷ earlier) kept).0, unbroken h (x ∷ earlier) xs kept)
  where
    kept_before : (xs earlier : List Entry) → WellFormed h (newest_first_onto earlier xs)
        → WellFormed h earlier
    kept_before [] earlier kept = kept
    kept_before (y ∷ xs) earlier kept = (kept_before xs (y ∷ earlier) kept).1

-- no block is raced
pub no_break : (h : Header) (scripts : List Script) (k : Keeping h scripts) (history : List Stamped)
    → IsRun h scripts (newest_first history)
    → first_break h (log_of history) ≡ None
unfolding first_break
no_break h scripts k history run =
    let now = reached h scripts k (newest_first history) run in
    unbroken h [] (log_of history)
    (subst (WellFormed h) (sym (newest_log history))
    (k.kept (newest_first history) now.passed now.state now.holds_now))

pub all_front : (h : Header) (scripts : List Script) (k : Keeping h scripts)
    (history : List Stamped) → IsRun h scripts (newest_first history)
    → front h (log_of history) ≡ log_of history
unfolding front first_break
all_front h scripts k history run = front_after_whole h [] _ (no_break h _ k _ run)
