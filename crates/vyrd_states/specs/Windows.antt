-- What is said of an observer's reply: what it would answer in each of the states from its call to
-- its return.
use Rattle.std.specs.Prelude.{ℕ, ◌+◌, ◌-◌, ◌==◌, ◌&&◌, Bool, List, [], ◌∷◌, ◌++◌, take, Option}
use Rattle.std.specs.Prelude.{Some, None, is_some}
use Rattle.std.specs.Prelude.{false, option_map, length, slice_get, if◌then◌else◌}
use Rattle.std.specs.Option.{option_map_or}
use Rattle.vyrd_base.specs.declared.log.Entry.{Entry}
use Rattle.vyrd_base.specs.declared.log.StartWord.{StartWord}
use Rattle.vyrd_base.specs.declared.subject.Method.{Method}
use Rattle.vyrd_base.specs.Callers.{Called, entries_before_call}
use Rattle.vyrd_base.specs.Own.Expressions.{most}
use Rattle.vyrd_base.specs.Places.{newest_first, numbers_from}
use Rattle.vyrd_base.specs.Rules.{Rules}
use Rattle.vyrd_base.specs.Subjects.{must_commit, own_number}
use Rattle.vyrd_witness.specs.declared.item.Item.{Item}
use Rattle.vyrd_witness.specs.declared.item.Item.TheVariants.{Answered, Unanswered}
use Rattle.vyrd_states.specs.Known.{state_then}
use Rattle.vyrd_states.specs.Replies.{called_at}

-- what a call answers in the state after the entry at a position, if that is known
abbrev pub answer_after : Rules → List StartWord → List Entry → Called → ℕ → Option ℕ
answer_after r starting front called position =
    option_map (λ state. r.answer state called.method called.args)
    (state_then r starting front (position + 1))

-- Whether an answer is none, so that the call would have to commit: by a specification of the
-- user's own the greatest number is no reply.
abbrev pub is_none_of : Method → ℕ → Bool
is_none_of method answer = is_some (own_number method) && answer == most

-- an answer from a position on
abbrev pub answer_item : Method → ℕ → ℕ → Item
answer_item method position answer =
    if is_none_of method answer then Unanswered position else Answered position answer

-- the same, if it isn't the one before
abbrev pub answer_items : Method → ℕ → Option ℕ → Option ℕ → List Item
answer_items method position before None = []
answer_items method position before (Some answer) =
    if option_map_or (λ last. last == answer) before false
    then []
    else answer_item method position answer ∷ []

-- the answers at these positions, each where it isn't the one before
abbrev pub answers_along : Method → (ℕ → Option ℕ) → Option ℕ → List ℕ → List Item
answers_along method answer before [] = []
answers_along method answer before (position ∷ positions) =
    answer_items method position before (answer position)
    ++ answers_along method answer (answer position) positions

-- how many entries stand before the call of the entry's caller
abbrev pub call_of : List Entry → ℕ → Entry → ℕ
call_of front at e = length (entries_before_call e.caller (newest_first (take at front)))

-- The answers from the call on, up to a position and without it. A call that must commit answers
-- nothing.
abbrev pub answers_to : Rules → List StartWord → List Entry → ℕ → Entry → Called → List Item
answers_to r starting front at e called =
    if must_commit called.method then []
    else answers_along called.method (answer_after r starting front called) None
    (numbers_from (call_of front at e) (at - call_of front at e))

-- what is said of the return at a position of a front
abbrev pub observer_items : Rules → List StartWord → List Entry → ℕ → List Item
observer_items r starting front at = option_map_or
    (λ e. option_map_or (answers_to r starting front at e) (called_at front at) [])
    (slice_get front at) []
