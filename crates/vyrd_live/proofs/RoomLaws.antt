-- What it says that there is room for an operation.
use Rattle.vyrd_live.proofs.Prelude
use Prelude.{◌≡◌, ℕ, ◌+◌, ◌-◌, ◌<◌, ◌≤◌, max, length, true, false, Some, refl, sym, subst, arith}
use Prelude.{◌≢◌, nat_le, ∥∥₁_elim, ∥∥₁_map, Bool-set, Header, Call, Did, Act, Mark, Done, Script}
use Prelude.{stop, step, next_act, after_answer, event_of, is_between, IsAnswer, is_return}
use Prelude.{EndsWithin, HandView, with_spare, BeginsWithRoom, HasRoomAhead}
use Rattle.std.proofs.lemmas.Bool.Decides.{nat_tests}
use mathlib.Core.Logic.{dite}
use native.Mathlib.Decide.{dec_lt}
use Rattle.vyrd_base.specs.declared.subject.Method.{Method}
use Rattle.vyrd_base.specs.declared.subject.Args.{Args}
use Rattle.vyrd_memory.specs.Bounds.{bound_of}
use Rattle.vyrd_live.specs.Working.{HasRoom}

-- the number is the bound of the operation that the act begins
abbrev pub IsNextBound : Header → Act → ℕ → Type 0
IsNextBound h act n = (method : Method) (args : Args) → act ≡ Mark (Call method args)
    → n ≡ bound_of h method

-- what ends within n acts ends within more
more_time : (n m : ℕ) → n ≤ m → (script : Script) → EndsWithin n script → EndsWithin m script
more_time n m le stop ends = tt
more_time n m le (step act rest) ends = (
  omega (arith, ends.0),
  λ goes answer is. more_time (n - 1) (m - 1) (omega arith) (rest answer) (ends.1 goes answer is),
)

has_room : (h : Header) (limit before n : ℕ) (act : Act) → IsNextBound h act n → before + n ≤ limit
    → HasRoom h limit before act
has_room h limit before n act next room = search arith

-- room that was made, by a number that is the bound of the next operation
pub room_made : (h : Header) (left : Script) (hand now : HandView) (n : ℕ) → ∥ EndsWithin n left ∥₁
    → IsNextBound h (next_act left) n
    → now ≡ with_spare hand (max hand.spare n) → (hand.limit < length hand.lane + n → ⊥)
    → HasRoomAhead h left now
room_made h left hand now n in_time next is fits = subst (HasRoomAhead h left) (sym is) (record {
  spare = ∥∥₁_map in_time (more_time n (max hand.spare n) (omega arith) left);
  room = has_room h hand.limit (length hand.lane) n (next_act left) next
      (within hand.limit (length hand.lane + n) fits);
})
  where
    within : (a b : ℕ) → (a < b → ⊥) → b ≤ a
    within a b fits = dite (dec_lt a b) (λ l. absurd (fits l)) (λ l. omega arith)

-- an act that has room, once it is done
pub began_with_room : (h : Header) (limit before : ℕ) (act : Act) (answer : ℕ) (did : Did)
    → event_of act answer ≡ Some did
    → HasRoom h limit before act
    → BeginsWithRoom h limit before did
began_with_room h limit before act answer did e room = search arith

-- if an act is to come, there is room for one event
some_room : (n : ℕ) (left : Script) → next_act left ≢ Done → EndsWithin n left → nat_le 1 n ≡ true
some_room n left goes ends = search (step, arith)

pub room_for_one : (n : ℕ) (left : Script) → next_act left ≢ Done → ∥ EndsWithin n left ∥₁ → 0 < n
room_for_one n left goes ends = let e : nat_le 1 n ≡ true = ∥∥₁_elim ends (Bool-set _ _)
    (some_room n left goes) in grind (arith, nat_tests)

-- after an act that isn't a return one event less is to come
next_in_time : (n : ℕ) (left : Script) (answer : ℕ) → is_return (next_act left) ≡ false
    → IsAnswer (next_act left) answer → EndsWithin n left
    → EndsWithin (n - 1) (after_answer left answer)
next_in_time n left answer goes is ends = search (step, arith)

-- So an operation that goes on still ends in time. `rests` says that none is under way after a
-- return.
pub still_in_time : (n : ℕ) (left : Script) (answer : ℕ)
    → (is_return (next_act left) ≡ true → is_between (after_answer left 0) ≡ true)
    → IsAnswer (next_act left) answer
    → ∥ EndsWithin n left ∥₁ → is_between (after_answer left answer) ≡ false
    → ∥ EndsWithin (n - 1) (after_answer left answer) ∥₁
still_in_time n left answer rests is in_time goes = ∥∥₁_map in_time
    (next_in_time n left answer (no_return (is_return (next_act left)) refl) is)
  where
    no_return : (b : _) → is_return (next_act left) ≡ b → is_return (next_act left) ≡ false
    no_return false e = e
    no_return true e = grind arith
