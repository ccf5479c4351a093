-- The answers to a call, one entry more.
use Rattle.vyrd_states.proofs.Prelude
use Prelude.{◌≡◌, ℕ, zero, suc, ◌+◌, ◌-◌, ◌<◌, ◌≤◌, Bool, cond, List, [], ◌∷◌, ◌++◌, length, take}
use Prelude.{Option, Some, None, refl, ap, ◌∙◌, sym, arith, append-nil, append_assoc, ◌==◌, ◌&&◌}
use Prelude.{length-take, Entry, StartWord, Method, Called, is_call, entries_before_call}
use Prelude.{newest_first, numbers_from, Rules, State, length-newest_first, Execution, Item}
use Prelude.{execution_in, state_then, answer_after, answer_items, answers_along, call_of}
use Rattle.std.specs.Prelude.{option_map}
use Rattle.vyrd_states.proofs.CallLaws.{execution_is}
use Rattle.vyrd_states.proofs.KnownLaws.{unknown_past}

-- one answer more
pub answers_more : (m : Method) (f : ℕ → Option ℕ) (last : Option ℕ) (position at reply : ℕ)
    (items after all : List Item) → position < at → f position ≡ Some reply
    → after ≡ items ++ answer_items m position last (Some reply)
    → items ++ answers_along m f last (numbers_from position (at - position)) ≡ all
    → after ++ answers_along m f (Some reply) (numbers_from (position + 1) (at - (position + 1)))
    ≡ all
answers_more m f last position at reply items after all low answers next so =
    let left : at - position ≡ suc (at - (position + 1)) = omega (arith, low) in
    let later = numbers_from (position + 1) (at - (position + 1)) in
    cc (append_assoc items (answer_items m position last (Some reply))
    (answers_along m f (Some reply) later))

-- no answer more
no_answers : (m : Method) (f : ℕ → Option ℕ) (k n : ℕ) (before : Option ℕ)
    → ((i : ℕ) → k ≤ i → i < k + n → f i ≡ None) → answers_along m f before (numbers_from k n) ≡ []
no_answers m f k zero before none = refl
no_answers m f k (suc n) before none =
    ap (λ o. answer_items m k before o ++ answers_along m f (f k) (numbers_from (k + 1) n))
    (none k (omega arith) (omega arith))
    ∙ no_answers m f (k + 1) n (f k) (λ i from to. none i (omega (arith, from)) (omega (arith, to)))

-- an answer in a state that is known
pub answer_known : (r : Rules) (starting : List StartWord) (front : List Entry) (called : Called)
    (position reply : ℕ) (s : State) → Some s ≡ state_then r starting front (position + 1)
    → reply ≡ r.answer s called.method called.args
    → answer_after r starting front called position ≡ Some reply
answer_known r starting front called position reply s known is = grind (arith, starting)

-- once the state isn't known, nothing is answered
pub answers_end : (r : Rules) (starting : List StartWord) (front : List Entry) (called : Called)
    (last : Option ℕ) (n position at : ℕ) (items all : List Item) → n ≤ position + 1
    → at ≤ length front → state_then r starting front n ≡ None
    → items ++ answers_along called.method (answer_after r starting front called) last
    (numbers_from position (at - position)) ≡ all
    → items ≡ all
answers_end r starting front called last n position at items all low within none so =
    sym (append-nil items)
    ∙ ap (λ xs. items ++ xs)
    (sym (no_answers called.method (answer_after r starting front called) position
    (at - position) last silent))
    ∙ so
  where
    silent : (i : ℕ) → position ≤ i → i < position + (at - position)
        → answer_after r starting front called i ≡ None
    silent i from to =
        ap (option_map (λ state. r.answer state called.method called.args))
        (unknown_past r starting front n (i + 1) (omega (arith, low, from))
        (omega (arith, from, to, within)) none)

-- a call stands before what follows it
before_call : (c : ℕ) (earlier : List Entry) → length (entries_before_call c earlier)
    ≤ length earlier
before_call c [] = omega arith
before_call c (e ∷ earlier) = by_call ((e.caller == c) && is_call _) (before_call c earlier)
  where
    by_call : (b : Bool) → length (entries_before_call c earlier) ≤ length earlier
        → length (cond b earlier (entries_before_call c earlier)) ≤ length (e ∷ earlier)
    by_call b rest = search arith

called_before : (front : List Entry) (at c : ℕ)
    → length (entries_before_call c (newest_first (take at front))) ≤ at
called_before front at c = grind (arith, before_call, length-newest_first, length-take)

-- where an execution was called
pub call_is : (front : List Entry) (at : ℕ) (e : Entry) (x : Execution)
    → execution_in front at e.caller ≡ Some x → x.called_at ≡ call_of front at e
call_is front at e x is = ap (λ y. y.called_at) (execution_is front at e.caller x is).1

pub call_low : (front : List Entry) (at : ℕ) (e : Entry) (x : Execution)
    → execution_in front at e.caller ≡ Some x → x.called_at ≤ at
call_low front at e x is = grind (arith, call_is front at e x is, called_before front at e.caller)
