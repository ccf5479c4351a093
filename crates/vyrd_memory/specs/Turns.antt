-- The run by turns: a history that scripts, one for each caller, leave when they are played one
-- event at a time. First come the turns that are given, then rounds over all callers, until all
-- scripts are done.
use Rattle.std.specs.Prelude.{◌≡◌, ℕ, zero, suc, Bool, true, false, not, ◌&&◌, ◌||◌, ◌==◌, List, []}
use Rattle.std.specs.Prelude.{◌∷◌, length, flat_map, filter_map, replicate, slice_index_or}
use Rattle.std.specs.Prelude.{Option, Some, None, if◌then◌else◌}
use Rattle.std.specs.List.{list_all}
use Rattle.vyrd_base.specs.declared.history.Did.{Did}
use Rattle.vyrd_base.specs.declared.history.Did.TheVariants.{Read, Wrote, Took, Gave, Marked}
use Rattle.vyrd_base.specs.declared.history.Stamped.{Stamped}
use Rattle.vyrd_base.specs.Places.{newest_first, numbers_below}
use Rattle.vyrd_base.specs.Histories.{value_in}
use Rattle.vyrd_memory.specs.declared.act.Act.{Act}
use Rattle.vyrd_memory.specs.declared.act.Act.TheVariants.{Load, Store, Take, Give, Mark, Done}
use Rattle.vyrd_memory.specs.declared.op.Turn.{Turn}
use Rattle.vyrd_memory.specs.Scripts.{Script, stop, next_act, left_after}

-- the caller's event, if it is the caller's
abbrev pub did_by : ℕ → Stamped → Option Did
did_by c e = if e.caller == c then Some e.did else None

-- the caller's part of a history, in the same order
abbrev pub part_of : ℕ → List Stamped → List Did
part_of c history = filter_map (did_by c) history

-- the script of a caller
abbrev pub script_of : List Script → ℕ → Script
script_of scripts c = slice_index_or scripts c stop

-- what the caller does next, after these events, the newest first
abbrev pub act_of : List Script → ℕ → List Stamped → Act
act_of scripts c earlier = next_act (left_after (script_of scripts c) (part_of c earlier))

-- the event of an act: none if all is done, or if it takes a lock that is held
abbrev pub event_now : List Stamped → Act → Option Did
event_now earlier (Load cell) = Some (Read cell (value_in earlier cell))
event_now earlier (Store cell value) = Some (Wrote cell value)
event_now earlier (Take lock) = if value_in earlier lock == 0 then Some (Took lock) else None
event_now earlier (Give lock) = Some (Gave lock)
event_now earlier (Mark kind) = Some (Marked kind)
event_now earlier Done = None

-- one more event, if there is one
abbrev pub with_event : ℕ → List Stamped → Option Did → List Stamped
with_event c earlier None = earlier
with_event c earlier (Some did) =
    record { number = length earlier; caller = c; did = did } ∷ earlier

-- a turn of a caller
abbrev pub after_turn : List Script → ℕ → List Stamped → List Stamped
after_turn scripts c earlier = with_event c earlier (event_now earlier (act_of scripts c earlier))

-- turns of these callers, one after the other
abbrev pub after_turns : List Script → List ℕ → List Stamped → List Stamped
after_turns scripts [] earlier = earlier
after_turns scripts (c ∷ callers) earlier =
    after_turns scripts callers (after_turn scripts c earlier)

-- each of the turns as often as it says
abbrev pub turns_of : List Turn → List ℕ
turns_of turns = flat_map (λ turn. replicate turn.count turn.caller) turns

-- this many rounds over all callers
abbrev pub after_rounds : List Script → ℕ → List Stamped → List Stamped
after_rounds scripts zero earlier = earlier
after_rounds scripts (suc n) earlier =
    after_rounds scripts n (after_turns scripts (numbers_below (length scripts)) earlier)

-- the history after the turns and this many rounds, the newest event first
abbrev pub run_for : List Script → List Turn → ℕ → List Stamped
run_for scripts turns n = after_rounds scripts n (after_turns scripts (turns_of turns) [])

-- whether an act is none
abbrev pub is_done : Act → Bool
is_done Done = true
is_done _ = false

-- whether all scripts are done
abbrev pub are_done : List Script → List Stamped → Bool
are_done scripts earlier =
    list_all (λ c. is_done (act_of scripts c earlier)) (numbers_below (length scripts))

-- whether an act takes a lock that is held
abbrev pub is_held_up : List Stamped → Act → Bool
is_held_up earlier (Take lock) = not (value_in earlier lock == 0)
is_held_up earlier _ = false

-- whether some script isn't done, and each such script takes a lock that is held
abbrev pub are_stuck : List Script → List Stamped → Bool
are_stuck scripts earlier = not (are_done scripts earlier)
    && list_all (λ c. is_done (act_of scripts c earlier)
    || is_held_up earlier (act_of scripts c earlier)) (numbers_below (length scripts))

-- the run by turns ends, with this history
pub record RunsTo (scripts : List Script) (turns : List Turn)
    (history : List Stamped) : Type 0 where
  pub rounds : ℕ
  pub history_is : newest_first history ≡ run_for scripts turns rounds
  pub done : are_done scripts (newest_first history) ≡ true

-- the run by turns gets stuck
pub record GetsStuck (scripts : List Script) (turns : List Turn) : Type 0 where
  pub rounds : ℕ
  pub stuck : are_stuck scripts (run_for scripts turns rounds) ≡ true
