-- The faults of commits and of returns, at a place of a front whose states are given. An execution
-- that commits is judged at its commit, once it has returned and the state before the commit is
-- known. One that returns without a commit has only looked, whatever its method: it is judged at
-- its return, once the state there is known, and its reply has to be the answer of some state from
-- its call to its return.
use Rattle.std.specs.Prelude.{ℕ, Bool, ◌+◌, ◌==◌, ◌||◌, List, Option, Some, None, option_map}
use Rattle.std.specs.Prelude.{option_and_then, slice_get, take, drop, if◌then◌else◌}
use Rattle.std.specs.List.{list_any}
use Rattle.std.specs.Option.{option_and}
use Rattle.vyrd_base.specs.declared.log.Kind.{Kind}
use Rattle.vyrd_base.specs.declared.log.Kind.TheVariants.{Return, Commit, BlockCommit}
use Rattle.vyrd_base.specs.declared.log.Entry.{Entry}
use Rattle.vyrd_base.specs.declared.log.StartWord.{StartWord}
use Rattle.vyrd_base.specs.declared.verdict.Why.{Why}
use Rattle.vyrd_base.specs.declared.verdict.Why.TheVariants.{Reply, View, Observer}
use Rattle.vyrd_base.specs.Places.{Place}
use Rattle.vyrd_base.specs.Callers.{Called, open_call, has_committed, entries_before_call}
use Rattle.vyrd_base.specs.Amounts.{Amounts, first_difference}
use Rattle.vyrd_base.specs.States.{State}
use Rattle.vyrd_base.specs.Rules.{Rules}
use Rattle.vyrd_base.specs.Words.{words_at}
use Rattle.vyrd_base.specs.Commits.{Committed, committed_at, once_returned, commit_count}

-- What a commit shows: a reply that isn't allowed in the state before it, or otherwise a view of
-- the words that isn't what the state after it shows.
abbrev pub step_fault : Rules → Amounts → Called → ℕ → State → Option Why
step_fault r view called reply before = elim (r.next called.method called.args reply before) [
  | None ↦ Some (Reply reply)
  | Some after ↦ option_map View (first_difference view (r.shown after))
]

-- the fault of a commit, once its execution has returned
abbrev pub commit_fault : Rules → Amounts → Committed → State → Option Why
commit_fault r view x before =
    once_returned (λ called reply. step_fault r view called reply before) x

-- the states from the one at the call of the caller's open execution to the one here
abbrev pub states_since_call : List State → ℕ → List Entry → List State
states_since_call states c earlier =
    drop (commit_count (entries_before_call c earlier)) (take (commit_count earlier + 1) states)

-- the reply of an execution without a commit that is the answer of none of the states
abbrev pub observer_fault : Rules → List State → Bool → ℕ → Called → Option Why
observer_fault r window committed reply called =
    if committed
    || list_any (λ state. r.answer state called.method called.args == reply) window
    then None else Some (Observer reply)

-- the fault of a return, once the state here is known
abbrev pub return_fault : Rules → List State → ℕ → List Entry → ℕ → Option Why
return_fault r states c earlier reply = option_and (slice_get states (commit_count earlier))
    (option_and_then
    (observer_fault r (states_since_call states c earlier) (has_committed c earlier) reply)
    (open_call c earlier))

-- the fault of the commit at a place, whose view is that of the words after all effects up to it
abbrev pub fault_of_commit : Rules → List StartWord → List State → Place Entry → Option Why
fault_of_commit r starting states place = option_and_then
    (commit_fault r (r.view (words_at r.header starting place)) (committed_at place))
    (slice_get states (commit_count place.earlier))

-- commits and returns can be faults, and no other entry is one
abbrev pub fault_of_kind : Rules → List StartWord → List State → Place Entry → Kind → Option Why
fault_of_kind r starting states place Commit = fault_of_commit r starting states place
fault_of_kind r starting states place BlockCommit = fault_of_commit r starting states place
fault_of_kind r starting states place (Return reply) =
    return_fault r states place.here.caller place.earlier reply
fault_of_kind r starting states place _ = None

-- the fault at a place of a front
unfoldable pub fault_at : Rules → List StartWord → List State → Place Entry → Option Why
fault_at r starting states place = fault_of_kind r starting states place place.here.kind
