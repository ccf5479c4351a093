-- Legal histories, the newest event first: each event may come after the events before it.
use Rattle.vyrd_memory.proofs.Prelude
use Prelude.{◌≡◌, ℕ, ◌<◌, ◌^◌, Bool, true, cond, List, [], ◌∷◌, Some, None, refl, arith, ◌==◌}
use Prelude.{unwrap_or, option_or, list_all, cons_option, nat_tests, Did, Stamped, places_after}
use Prelude.{first_answer, newest_first_onto, newest_first, Cells, is_plain, made_of, value_in}
use Prelude.{may_do, is_legal_at, is_legal, both_true, first_true, second_true, plain_isnt}
use Prelude.{IsAnswer, answer_of, part_of}
use Rattle.vyrd_memory.proofs.Situations.{act_of_event, AreAnswers}

-- whether the event may come after these events
abbrev pub may_come : Cells → List Stamped → Stamped → Bool
may_come cells earlier e = is_legal_at cells (record { earlier = earlier; here = e; later = [] })

-- each event may come where it stands
abbrev pub AreLegal : Cells → List Stamped → Type 0
AreLegal cells [] = Unit {0}
AreLegal cells (e ∷ earlier) = (may_come cells earlier e ≡ true) × AreLegal cells earlier

legal_onto : (cells : Cells) (earlier xs : List Stamped) → AreLegal cells earlier
    → list_all (is_legal_at cells) (places_after earlier xs) ≡ true
    → AreLegal cells (newest_first_onto earlier xs)
legal_onto cells earlier [] legal e = legal
legal_onto cells earlier (x ∷ xs) legal e = legal_onto cells (x ∷ earlier) xs
    (first_true _ _ e, legal) (second_true _ _ e)

legal_before : (cells : Cells) (earlier xs : List Stamped)
    → AreLegal cells (newest_first_onto earlier xs) → AreLegal cells earlier
legal_before cells earlier [] legal = legal
legal_before cells earlier (x ∷ xs) legal = (legal_before cells (x ∷ earlier) xs legal).1

onto_legal : (cells : Cells) (earlier xs : List Stamped)
    → AreLegal cells (newest_first_onto earlier xs)
    → list_all (is_legal_at cells) (places_after earlier xs) ≡ true
onto_legal cells earlier [] legal = refl
onto_legal cells earlier (x ∷ xs) legal = both_true _
    (list_all (is_legal_at cells) (places_after (x ∷ earlier) xs))
    (legal_before cells (x ∷ earlier) xs legal).0 (onto_legal cells (x ∷ earlier) xs legal)

-- the test and the events one by one say the same
pub legal_events : (cells : Cells) (history : List Stamped) → is_legal cells history ≡ true
    → AreLegal cells (newest_first history)
unfolding is_legal
legal_events cells history e = legal_onto cells [] history tt e

pub legal_history : (cells : Cells) (history : List Stamped) → AreLegal cells (newest_first history)
    → is_legal cells history ≡ true
unfolding is_legal
legal_history cells history legal = onto_legal cells [] history legal

-- the caller of an event is in range, and it may do what it did
pub caller_low : (cells : Cells) (earlier : List Stamped) (e : Stamped) → may_come cells earlier e
    ≡ true → e.caller < cells.callers
caller_low cells earlier e may = grind (arith, nat_tests, second_true, first_true)

pub does : (cells : Cells) (earlier : List Stamped) (e : Stamped) → may_come cells earlier e ≡ true
    → may_do cells earlier e.caller e.did ≡ true
does cells earlier e may = search (second_true, arith)

-- the cell's value after one more event
abbrev pub value_with : List Stamped → ℕ → ℕ → Did → ℕ
value_with earlier cell caller did = unwrap_or
    (option_or (made_of cell caller did) (first_answer (λ e. made_of cell e.caller e.did) earlier))
    0

-- values of plain cells are below 2^63
next_small : (cells : Cells) (earlier : List Stamped) (cell caller : ℕ) (did : Did)
    → may_do cells earlier caller did ≡ true
    → is_plain cells cell ≡ true
    → value_in earlier cell < 2 ^ 63 → value_with earlier cell caller did < 2 ^ 63
next_small cells earlier cell caller did may plain small = search
    (second_true, plain_isnt, first_true, arith)

pub plain_small : (cells : Cells) (earlier : List Stamped) (cell : ℕ) → AreLegal cells earlier
    → is_plain cells cell ≡ true
    → value_in earlier cell < 2 ^ 63
plain_small cells [] cell legal plain = omega arith
plain_small cells (e ∷ earlier) cell legal plain =
    next_small cells earlier cell e.caller e.did (does cells earlier e legal.0) plain
    (plain_small cells earlier cell legal.1 plain)

-- so each event gave an answer that its act may have
answer_is : (cells : Cells) (earlier : List Stamped) (caller : ℕ) (did : Did)
    → AreLegal cells earlier → may_do cells earlier caller did ≡ true
    → IsAnswer (act_of_event did) (answer_of did)
answer_is cells earlier caller did legal may = search (plain_small, first_true, second_true, arith)

pub are_answers : (cells : Cells) (earlier : List Stamped) (c : ℕ) → AreLegal cells earlier
    → AreAnswers (part_of c earlier)
are_answers cells [] c legal = tt
are_answers cells (e ∷ earlier) c legal = by_caller (e.caller == c)
    (are_answers cells earlier c legal.1)
  where
    by_caller : (b : Bool) → AreAnswers (part_of c earlier)
        → AreAnswers (cons_option (cond b (Some e.did) None) (part_of c earlier))
    by_caller b before = search (answer_is, does, arith)
