-- The verdict about a log, and what is known of it so far. The first that applies is the verdict:
-- starting words that stand for no state, the first fault of the well-formed front, the first entry
-- that isn't well formed, an execution that is open at the end; otherwise the log is accepted.
use Rattle.std.specs.Prelude.{ℕ, Bool, true, false, not, ◌+◌, ◌&&◌, ◌==◌, None, if◌then◌else◌, List}
use Rattle.std.specs.Prelude.{[], ◌∷◌, length, Option, is_some, is_none, option_map, unwrap_or}
use Rattle.std.specs.Prelude.{count_by}
use Rattle.std.specs.Option.{option_or}
use Rattle.std.specs.Bool.{then_some}
use Rattle.std.specs.List.{list_any}
use Rattle.vyrd_base.specs.declared.header.Header.{Header}
use Rattle.vyrd_base.specs.declared.log.Kind.{Kind}
use Rattle.vyrd_base.specs.declared.log.Kind.TheVariants.{Return}
use Rattle.vyrd_base.specs.declared.log.Entry.{Entry}
use Rattle.vyrd_base.specs.declared.log.StartWord.{StartWord}
use Rattle.vyrd_base.specs.declared.verdict.Rule.TheVariants.{StartState, CallOpen}
use Rattle.vyrd_base.specs.declared.verdict.Stop.{Stop}
use Rattle.vyrd_base.specs.declared.verdict.Stop.TheVariants.{End, Text}
use Rattle.vyrd_base.specs.declared.verdict.Verdict.{Verdict}
use Rattle.vyrd_base.specs.declared.verdict.Verdict.TheVariants.{Accepted, Violation, Malformed}
use Rattle.vyrd_base.specs.Places.{Place, places, position_of, newest_first, first_answer}
use Rattle.vyrd_base.specs.Places.{numbers_below}
use Rattle.vyrd_base.specs.Callers.{open_call, has_committed}
use Rattle.vyrd_base.specs.Front.{front, first_break}
use Rattle.vyrd_base.specs.States.{State}
use Rattle.vyrd_base.specs.Starts.{state_at_start}
use Rattle.vyrd_base.specs.Commits.{states_of, commit_count}
use Rattle.vyrd_base.specs.Rules.{Rules}
use Rattle.vyrd_base.specs.Faults.{fault_at}

-- the line of an entry: the header stands on line 1, and then the starting words
abbrev pub line_of : List StartWord → ℕ → ℕ
line_of starting position = length starting + position + 2

-- the fault at a place of a front whose states are given, with its line
abbrev pub violation_at : Rules → List StartWord → List State → Place Entry → Option Verdict
violation_at r starting states place =
    option_map (Violation (line_of starting (position_of place))) (fault_at r starting states place)

-- the states along a front, from that of the starting words on
abbrev pub states_along : Rules → List StartWord → List Entry → List State
states_along r starting well_formed = states_of r (state_at_start r starting) well_formed

-- the first fault of a front, with its line
unfoldable pub first_fault : Rules → List StartWord → List Entry → Option Verdict
first_fault r starting well_formed =
    first_answer (violation_at r starting (states_along r starting well_formed))
    (places well_formed)

-- the first break of shape, with its line
unfoldable pub shape_verdict : Header → List StartWord → List Entry → Option Verdict
shape_verdict h starting entries =
    option_map (Malformed (line_of starting (length (front h entries)))) (first_break h entries)

-- the verdict about starting words that stand for no state, on the line of the first of them
abbrev pub start_verdict : Rules → List StartWord → Option Verdict
start_verdict r starting = then_some (is_none (state_at_start r starting)) (Malformed 2 StartState)

-- what is wrong with the starting words, which counts once there is an entry
abbrev pub begun_verdict : Rules → List StartWord → List Entry → Option Verdict
begun_verdict r starting [] = None
begun_verdict r starting (e ∷ entries) = start_verdict r starting

-- the verdict that stands already: about the starting words, or the first fault in the front, or
-- otherwise the break after it
unfoldable pub verdict_so_far : Rules → List StartWord → List Entry → Option Verdict
verdict_so_far r starting entries = option_or (begun_verdict r starting entries)
    (option_or (first_fault r starting (front r.header entries))
    (shape_verdict r.header starting entries))

-- whether some execution is open after these entries, given the newest first
abbrev pub is_call_open : Header → List Entry → Bool
is_call_open h earlier = list_any (λ c. is_some (open_call c earlier)) (numbers_below h.callers)

-- the verdict if `end` stands after the entries: about the starting words, or an open call
unfoldable pub end_verdict : Rules → List StartWord → List Entry → Option Verdict
end_verdict r starting entries = option_or (start_verdict r starting)
    (then_some (is_call_open r.header (newest_first entries))
    (Malformed (line_of starting (length entries)) CallOpen))

-- whether an entry ends an execution
abbrev pub is_return : Kind → Bool
is_return (Return reply) = true
is_return _ = false

-- whether an execution returns at a place that has no commit, and so has only looked
abbrev pub observer_returns : Place Entry → Bool
observer_returns place =
    is_return place.here.kind && not (has_committed place.here.caller place.earlier)

-- how many executions have returned without a commit
abbrev pub observer_count : List Entry → ℕ
observer_count entries = count_by observer_returns (places entries)

-- the verdict about a log in which nothing is wrong: its entries, its commits and its returns
-- without a commit are counted
unfoldable pub accepted : List Entry → Verdict
accepted entries = Accepted (length entries) (commit_count entries) (observer_count entries)

-- the verdict about a whole log, which `end` follows
unfoldable pub verdict : Rules → List StartWord → List Entry → Verdict
verdict r starting entries =
    unwrap_or (option_or (verdict_so_far r starting entries) (end_verdict r starting entries))
    (accepted entries)

-- The verdict if the text of the log stops in this way after the entries. A rule of text that is
-- broken two lines after the last entry is broken after an `end`.
unfoldable pub verdict_at : Rules → List StartWord → List Entry → Stop → Verdict
verdict_at r starting entries End = verdict r starting entries
verdict_at r starting entries (Text line rule) = unwrap_or
    (option_or (verdict_so_far r starting entries) (if line == line_of starting (length entries) + 1
    then end_verdict r starting entries
    else None)) (Malformed line rule)
