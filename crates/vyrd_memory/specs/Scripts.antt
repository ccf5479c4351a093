-- Scripts. What a caller does is a procedure: an act, and how it goes on after the answer. A load
-- is answered by the value that it found, which is below 2^63, and any other act by 0.
use Rattle.std.specs.Prelude.{◌≡◌, ℕ, ◌<◌, ◌^◌, ⊤, Bool, true, false, List, [], ◌∷◌, Option, Some}
use Rattle.std.specs.Prelude.{None}
use Rattle.vyrd_base.specs.declared.log.Kind.TheVariants.{Call, Return, Commit}
use Rattle.vyrd_base.specs.declared.history.Did.{Did}
use Rattle.vyrd_base.specs.declared.history.Did.TheVariants.{Read, Wrote, Took, Gave, Marked}
use Rattle.vyrd_memory.specs.declared.act.Act.{Act}
use Rattle.vyrd_memory.specs.declared.act.Act.TheVariants.{Load, Store, Take, Give, Mark, Done}
use Rattle.vyrd_memory.specs.declared.op.Op.{Op}

-- nothing more to do, or an act and how it goes on after each answer
pub data Script : Type 0 where
  stop : Script
  step : Act → (ℕ → Script) → Script

-- an act whose answer tells nothing, and what follows
abbrev pub perform : Act → Script → Script
perform act rest = step act (λ answer. rest)

-- the mark of the return, which ends an operation
abbrev pub returns : ℕ → Script
returns reply = perform (Mark (Return reply)) stop

-- commit, and return 0
abbrev pub gives_up : Script
gives_up = perform (Mark Commit) (returns 0)

-- what comes next
abbrev pub next_act : Script → Act
next_act stop = Done
next_act (step act rest) = act

-- whether nothing is left
abbrev pub is_stop : Script → Bool
is_stop stop = true
is_stop (step act rest) = false

-- what is left after the next act was answered
abbrev pub after_answer : Script → ℕ → Script
after_answer stop answer = stop
after_answer (step act rest) answer = rest answer

-- what an act may be answered
abbrev pub IsAnswer : Act → ℕ → Type 0
IsAnswer (Load cell) answer = answer < 2 ^ 63
IsAnswer _ answer = answer ≡ 0

-- one script after the other
abbrev pub followed_by : Script → Script → Script
followed_by stop later = later
followed_by (step act rest) later = step act (λ answer. followed_by (rest answer) later)

-- The operations one after the other. Each begins with the mark of its call, and what follows is
-- given for each.
abbrev pub operations : (Op → Script) → List Op → Script
operations body [] = stop
operations body (op ∷ ops) =
    perform (Mark (Call op.method op.args)) (followed_by (body op) (operations body ops))

-- whether an act begins an operation, or there is none
abbrev pub is_call_or_done : Act → Bool
is_call_or_done Done = true
is_call_or_done (Mark (Call method args)) = true
is_call_or_done _ = false

-- whether no operation is under way
abbrev pub is_between : Script → Bool
is_between script = is_call_or_done (next_act script)

-- the event of an act with this answer
abbrev pub event_of : Act → ℕ → Option Did
event_of (Load cell) answer = Some (Read cell answer)
event_of (Store cell value) answer = Some (Wrote cell value)
event_of (Take lock) answer = Some (Took lock)
event_of (Give lock) answer = Some (Gave lock)
event_of (Mark kind) answer = Some (Marked kind)
event_of Done answer = None

-- the answer that an event gave
abbrev pub answer_of : Did → ℕ
answer_of (Read cell value) = value
answer_of _ = 0

-- what is left of a script after these events, the newest first
abbrev pub left_after : Script → List Did → Script
left_after script [] = script
left_after script (did ∷ earlier) = after_answer (left_after script earlier) (answer_of did)

-- each event is what the script wants after the events before it; the newest stands first
abbrev pub Plays : Script → List Did → Type 0
Plays script [] = ⊤
Plays script (did ∷ earlier) =
    (event_of (next_act (left_after script earlier)) (answer_of did) ≡ Some did)
    × Plays script earlier

-- the events are the whole of what the script wants
pub record PlaysToTheEnd (script : Script) (events : List Did) : Type 0 where
  pub plays : Plays script events
  pub done : left_after script events ≡ stop
