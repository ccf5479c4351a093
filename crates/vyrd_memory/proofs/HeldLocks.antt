-- A lock that is held has its holder's number plus 1. So a caller holds exactly the locks that have
-- its own.
use Rattle.vyrd_memory.proofs.Prelude
use Prelude.{◌≡◌, ℕ, ◌+◌, Bool, true, false, cond, not, ◌||◌, List, [], ◌∷◌, Some, None, refl, sym}
use Prelude.{arith, cons_option, list_any, nat_tests, Header, Kind, Did, Stamped, Cells, cells_of}
use Prelude.{is_lock, value_in, may_do, first_true, second_true, same_number, same_of, plain_isnt}
use Prelude.{Situation, is_nil, holds, may_act, may_mark, after_act, after_mark, part_of}
use Rattle.std.specs.Prelude.{filter, ◌==◌, is_some}
use Rattle.vyrd_memory.proofs.Situations.{act_of_event, situation_after, KeepsTo}
use Rattle.vyrd_memory.proofs.LegalEvents.{AreLegal, does, value_with}
use Rattle.vyrd_memory.proofs.Agreements.{three_true, may_call, may_return, keeps_before}

-- numbers of holders
zero_isnt : (c : ℕ) → (0 == c + 1) ≡ false
zero_isnt c = grind (arith, nat_tests)

free_isnt : (v c : ℕ) → (v == 0) ≡ true → (v == c + 1) ≡ false
free_isnt v c e = grind (arith, nat_tests)

other_isnt : (c d : ℕ) → (d == c) ≡ false → (d + 1 == c + 1) ≡ false
other_isnt c d e = grind (arith, nat_tests)

others_isnt : (v c d : ℕ) → (v == d + 1) ≡ true → (d == c) ≡ false → (v == c + 1) ≡ false
others_isnt v c d e f = grind (arith, nat_tests)

apart_too : (x a b : ℕ) → (x == a) ≡ false → (a == b) ≡ true → (x == b) ≡ false
apart_too x a b e f = grind (arith, nat_tests)

apart_then : (x a b : ℕ) → (x == a) ≡ true → (a == b) ≡ false → (x == b) ≡ false
apart_then x a b e f = grind (arith, nat_tests)

-- whether the lock is in the list
abbrev has_lock : ℕ → List ℕ → Bool
has_lock lock locks = list_any (λ held. held == lock) locks

-- the list without a lock
abbrev without : ℕ → List ℕ → List ℕ
without other locks = filter (λ held. not (held == other)) locks

-- a lock that was taken out isn't there any more, and any other is as before
taken_out : (other lock : ℕ) (locks : List ℕ) → (other == lock) ≡ true
    → has_lock lock (without other locks) ≡ false
taken_out other lock [] e = refl
taken_out other lock (x ∷ locks) e = by_place (x == other) refl (taken_out other lock locks e)
  where
    by_place : (b : Bool) → (x == other) ≡ b → has_lock lock (without other locks) ≡ false
        → has_lock lock (cond (not b) (x ∷ without other locks) (without other locks)) ≡ false
    by_place b apart rest = search (apart, has_lock, apart_too, arith)

left_in : (other lock : ℕ) (locks : List ℕ) → (other == lock) ≡ false
    → has_lock lock (without other locks) ≡ has_lock lock locks
left_in other lock [] e = refl
left_in other lock (x ∷ locks) e = by_place (x == other) refl (left_in other lock locks e)
  where
    by_place : (b : Bool) → (x == other) ≡ b → has_lock lock (without other locks)
        ≡ has_lock lock locks
        → has_lock lock (cond (not b) (x ∷ without other locks) (without other locks))
        ≡ ((x == lock) || has_lock lock locks)
    by_place b same rest = search (has_lock, apart_then, arith)

none_held : (locks : List ℕ) (lock : ℕ) → is_nil locks ≡ true → has_lock lock locks ≡ false
none_held locks lock e = search arith

-- a mark that may be left changes nothing of what is held
mark_held : (h : Header) (s : Situation) (kind : Kind) (lock : ℕ) → may_mark h s kind ≡ true
    → holds (after_mark s kind) lock ≡ holds s lock
mark_held h s kind lock may = grind (arith, none_held, may_call, may_return)

-- the caller's own event
own_held : (h : Header) (c : ℕ) (did : Did) (s : Situation) (earlier : List Stamped) (lock : ℕ)
    → may_act h s (act_of_event did) ≡ true
    → is_lock (cells_of h) lock ≡ true → holds s lock ≡ (value_in earlier lock == c + 1)
    → holds (after_act s (act_of_event did)) lock ≡ (value_with earlier lock c did == c + 1)
own_held h c did s earlier lock may is before = search
    (plain_isnt, three_true, is_some, same_number, taken_out, zero_isnt, left_in, mark_held, arith)

-- another caller's event gives the lock to nobody else, and takes it from nobody else
other_held : (cells : Cells) (c d : ℕ) (did : Did) (earlier : List Stamped) (lock : ℕ)
    → may_do cells earlier d did ≡ true
    → is_lock cells lock ≡ true → (d == c) ≡ false
    → (value_in earlier lock == c + 1) ≡ (value_with earlier lock d did == c + 1)
other_held cells c d did earlier lock may is apart = search (
  plain_isnt,
  first_true,
  second_true,
  free_isnt,
  same_of,
  other_isnt,
  others_isnt,
  zero_isnt,
  arith,
)

next_held : (h : Header) (c d : ℕ) (did : Did) (dids : List Did) (earlier : List Stamped) (lock : ℕ)
    (b : Bool) → (d == c) ≡ b
    → may_do (cells_of h) earlier d did ≡ true
    → KeepsTo h (cons_option (cond b (Some did) None) dids) → is_lock (cells_of h) lock ≡ true
    → holds (situation_after dids) lock ≡ (value_in earlier lock == c + 1)
    → holds (situation_after (cons_option (cond b (Some did) None) dids)) lock
    ≡ (value_with earlier lock d did == c + 1)
next_held h c d did dids earlier lock b e may keeps is before =
    grind (arith, value_with, same_of, own_held, other_held)

-- in a legal history a caller that keeps to what may be done holds the locks that have its number
-- plus 1
pub held_is : (h : Header) (c : ℕ) (earlier : List Stamped) (lock : ℕ)
    → AreLegal (cells_of h) earlier → KeepsTo h (part_of c earlier)
    → is_lock (cells_of h) lock ≡ true → holds (situation_after (part_of c earlier)) lock
    ≡ (value_in earlier lock == c + 1)
held_is h c [] lock legal keeps is = sym (zero_isnt c)
held_is h c (e ∷ earlier) lock legal keeps is = next_held h c e.caller e.did (part_of c _) earlier
    lock (e.caller == c) refl (does (cells_of h) earlier e legal.0) keeps is
    (held_is h c earlier lock legal.1 (keeps_before h c e _ keeps) is)
