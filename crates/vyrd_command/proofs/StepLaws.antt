-- What is known of the run of a workload that keeps its limits, and of the input that it was read
-- from.
use Rattle.vyrd_command.proofs.Prelude
use Prelude.{◌≡◌, ℕ, true, List, [], length, Option, Some, refl, ◌∙◌, sym, arith, IfSome}
use Prelude.{MatchOption, Result, Ok, Err, Stamped, SourceKnown, cells_of, is_legal, log_of}
use Prelude.{Verdict, rules_of, verdict, RunsTo, run_is_legal, run_plays, only_races, most_events}
use Prelude.{Workload, work_text, KeepsLimits, Refusal, work_reading, work_scripts, longest_input}
use Prelude.{scripts_sound, reading_sound, AllHadRoom, Show, IsInputRead, NamesOnlyRaces}
use Prelude.{IsTurnedTo, IsStepAnswer, IsLiveRun, IsRunAnswer, whole_input, long_refused}
use Rattle.vyrd_memory.specs.Runs.{PlayToTheEnd}
use Rattle.vyrd_work.proofs.SettledLaws.{reading_settled}

-- the history of a run by turns is legal, and each script is played to its end in it
pub turned_is_legal : (w : Workload) (history : List Stamped) → KeepsLimits w
    → RunsTo (work_scripts w) w.turns history
    → is_legal (cells_of w.header) history ≡ true
turned_is_legal w history limits runs = search (run_is_legal, scripts_sound, limits, arith)

pub turned_plays : (w : Workload) (history : List Stamped) → KeepsLimits w
    → RunsTo (work_scripts w) w.turns history
    → PlayToTheEnd (work_scripts w) history
turned_plays w history limits runs = search (run_plays, scripts_sound, arith)

-- a verdict about a legal history of played scripts names no rule except that of races
pub names_only_races : (w : Workload) (history : List Stamped) (v : Verdict) → KeepsLimits w
    → is_legal (cells_of w.header) history ≡ true
    → PlayToTheEnd (work_scripts w) history → v ≡ verdict (rules_of w.header) [] (log_of history)
    → NamesOnlyRaces v
names_only_races w history v limits legal played is = λ line rule e. only_races w.header
    (work_scripts w) history (scripts_sound w limits) legal played line _ (sym is ∙ e)

-- what is known of a run by turns that ends
pub is_turned : (w : Workload) (history : List Stamped) → KeepsLimits w
    → RunsTo (work_scripts w) w.turns history
    → IsTurnedTo w history (verdict (rules_of w.header) [] (log_of history))
is_turned w history limits runs =
    search (limits, names_only_races, turned_is_legal, turned_plays, arith)

-- what is known of a live run that ends
pub is_live : (w : Workload) (history : List Stamped) (v : Verdict) → KeepsLimits w
    → is_legal (cells_of w.header) history ≡ true
    → PlayToTheEnd (work_scripts w) history → AllHadRoom w.header most_events history
    → v ≡ verdict (rules_of w.header) [] (log_of history)
    → IsLiveRun w history v
is_live w history v limits legal parts room is = search (names_only_races, arith)

-- what was read of an input says what the whole input says
pub reading_is_input : (before after : SourceKnown) (bytes : List ℕ)
    → IsInputRead longest_input before after bytes
    → IfSome before.rest (λ input. work_reading bytes ≡ work_reading input)
reading_is_input before after bytes is = whole_input work_reading longest_input before after bytes
    (λ more long. reading_settled bytes more (omega (arith, long))) is

-- a workload as long as can be read is refused, by turns and in a live run
long_work : {P : Type 0} (bytes : List ℕ) (w : Workload) → length bytes ≡ longest_input
    → work_reading bytes ≡ Ok w → P
long_work bytes w long e = absurd
    (long_refused work_reading bytes work_text (λ bytes w e. (reading_sound bytes w e).text)
    (λ more. reading_settled bytes more (omega (arith, long))) w e)

pub step_refused : (show : Show) (bytes : List ℕ) (status : ℕ) (text : List ℕ)
    → IsStepAnswer show (work_reading bytes) status text
    → length bytes ≡ longest_input → status ≡ 7
step_refused show bytes status text answer long = by_reading (work_reading bytes) refl answer
  where
    by_reading : (r : Result Workload Refusal) → work_reading bytes ≡ r
        → IsStepAnswer show r status text → status ≡ 7
    by_reading (Err refusal) e answer = answer.0
    by_reading (Ok w) e answer = long_work bytes w long e

pub run_refused : (show : Show) (bytes : List ℕ) (status : ℕ) (text : List ℕ)
    → IsRunAnswer show (work_reading bytes) status text
    → length bytes ≡ longest_input → status ≡ 7
run_refused show bytes status text answer long = by_reading (work_reading bytes) refl answer
  where
    by_reading : (r : Result Workload Refusal) → work_reading bytes ≡ r
        → IsRunAnswer show r status text → status ≡ 7
    by_reading (Err refusal) e answer = answer.0
    by_reading (Ok w) e answer = long_work bytes w long e

-- what is said where there is a value
pub of_match : {A : Type 0} (P : Type 0) (Q : A → Type 0) (o : Option A) (x : A) → o ≡ Some x
    → MatchOption o P Q → Q x
of_match P Q o x e m = search arith
