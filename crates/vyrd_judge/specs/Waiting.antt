-- Which entries wait to be judged.
use Rattle.std.specs.Prelude.{ℕ, not, List, Option, None, option_map, filter_map}
use Rattle.std.specs.Bool.{then_some}
use Rattle.std.specs.Option.{option_or}
use Rattle.vyrd_base.specs.declared.log.Kind.{Kind}
use Rattle.vyrd_base.specs.declared.log.Kind.TheVariants.{Call, Return, Commit, BlockCommit}
use Rattle.vyrd_base.specs.declared.log.Entry.{Entry}
use Rattle.vyrd_base.specs.Places.{Place, places_after, position_of}
use Rattle.vyrd_base.specs.Callers.{Called, open_call, has_committed, by_caller}
use Rattle.vyrd_base.specs.Subjects.{must_commit}
use Rattle.vyrd_base.specs.Commits.{returned, next_reply}
use Rattle.vyrd_judge.specs.declared.waiting.Event.{Event}
use Rattle.vyrd_judge.specs.declared.waiting.Event.TheVariants.{Begins, Commits, Returns}
use Rattle.vyrd_judge.specs.declared.waiting.Waiting.{Waiting}

-- a commit of what was called, with its reply
abbrev pub commit_of : Option ℕ → Called → Event
commit_of reply called = Commits called.method called.args reply

-- The event of an entry of this kind, if it is one that is judged: a commit; a return of an
-- execution without a commit; and a call of a method whose executions may return so.
abbrev pub event_of : Place Entry → Kind → Option Event
event_of place (Call method args) = then_some (not (must_commit method)) (Begins method args)
event_of place (Return reply) =
    then_some (not (has_committed place.here.caller place.earlier)) (Returns reply)
event_of place Commit = option_map (commit_of (next_reply place.here.caller place.later))
    (open_call place.here.caller place.earlier)
event_of place BlockCommit = option_map (commit_of (next_reply place.here.caller place.later))
    (open_call place.here.caller place.earlier)
event_of place _ = None

-- the entry at a place, if it is one that is judged
abbrev pub waiting_of : Place Entry → Event → Waiting
waiting_of place event =
    record { caller = place.here.caller; position = position_of place; event = event }

abbrev pub waiting_at : Place Entry → Option Waiting
waiting_at place = option_map (waiting_of place) (event_of place place.here.kind)

-- the entries from a place on that are judged
abbrev pub waiting_after : List Entry → List Entry → List Waiting
waiting_after earlier later = filter_map waiting_at (places_after earlier later)

-- a waiting entry, once this entry has come too: a commit may have its reply now
abbrev pub replied_event : Entry → ℕ → Event → Event
replied_event e c (Commits method args o) =
    Commits method args (option_or o (by_caller c returned e))
replied_event e c (Begins method args) = Begins method args
replied_event e c (Returns reply) = Returns reply

abbrev pub replied : Entry → Waiting → Waiting
replied e x =
    record { caller = x.caller; position = x.position; event = replied_event e x.caller x.event }
