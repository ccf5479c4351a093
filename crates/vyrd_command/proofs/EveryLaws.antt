-- The answer to a workload of a correct structure is that its run is accepted.
use Rattle.vyrd_command.proofs.Prelude
use Prelude.{◌≡◌, ℕ, ◌≤◌, ◌⊎◌, inl, inr, List, Option, Some, Result, Ok, refl, ap, ◌∙◌, subst}
use Prelude.{arith, IfSome, Entry, Stamped, Verdict, log_of, most_ops, Workload, KeepsLimits}
use Prelude.{Refusal, work_reading, reading_sound, status_of, Show, IsRunAnswer, IsRunStatus}
use Prelude.{IsLiveRun, SaysCorrect, SaysFewEvents, IsGenStatus}
use Rattle.vyrd_base.specs.Verdicts.{accepted}
use Rattle.vyrd_work.specs.Generated.{generated}
use Rattle.vyrd_work.proofs.GeneratedLaws.{generated_keeps}
use Rattle.vyrd_every.specs.Schedules.{IsCorrect, IsCorrectWithFewEvents}
use Rattle.vyrd_every.proofs.Workloads.{schedule_accepted, not_stuck, few_events}
use Rattle.vyrd_command.specs.Steps.{AnswersStep, IsStepAnswer, IsStepStatus, IsTurnedTo}
use Rattle.vyrd_command.specs.Runs.{AnswersRun}
use Rattle.vyrd_command.specs.Generated.{IsGenAnswer}
use Rattle.vyrd_command.proofs.StepLaws.{turned_is_legal, turned_plays}

accepted_status : (entries : List Entry) → status_of (accepted entries) ≡ 0
unfolding accepted
accepted_status entries = refl

turned_accepted : (w : Workload) (history : List Stamped) (v : Verdict) → KeepsLimits w
    → IsCorrect w → IsTurnedTo w history v → status_of v ≡ 0
turned_accepted w history v limits is turned =
    ap status_of (turned.verdict_is ∙ schedule_accepted w history limits is (record {
      legal = turned_is_legal w history limits turned.runs;
      parts = turned_plays w history limits turned.runs;
    }))
    ∙ accepted_status (log_of history)

step_accepted : (show : Show) (w : Workload) (status : ℕ) (text : List ℕ) → KeepsLimits w
    → IsCorrect w
    → IsStepAnswer show (Ok w) status text → status ≡ 0
step_accepted show w status text limits is (inl told) = told.status_is
    ∙ turned_accepted w told.history told.verdict limits is told.turned
step_accepted show w status text limits is (inr stuck) = absurd (not_stuck w limits is stuck.stuck)

live_accepted : (w : Workload) (history : List Stamped) (v : Verdict) → KeepsLimits w → IsCorrect w
    → IsLiveRun w history v → status_of v ≡ 0
live_accepted w history v limits is live = search (schedule_accepted, accepted_status, arith)

run_accepted : (show : Show) (w : Workload) (status : ℕ) (text : List ℕ) → KeepsLimits w
    → IsCorrect w
    → IsRunAnswer show (Ok w) status text → (status ≡ 0) ⊎ (status ≡ 9)
run_accepted show w status text limits is e6 = search (live_accepted, arith)

-- the callers of a structure whose operations have few events have room for all of them
run_unspent : (show : Show) (w : Workload) (status : ℕ) (text : List ℕ) → KeepsLimits w
    → IsCorrectWithFewEvents w
    → IsRunAnswer show (Ok w) status text → status ≡ 9 → ⊥
run_unspent show w status text limits is e6 nine = search (live_accepted, few_events, arith)

-- what was read of an input that tells its bytes
read_of : (input : Option (List ℕ)) (bytes : List ℕ) (work said : Result Workload Refusal)
    → input ≡ Some bytes → work_reading bytes ≡ said
    → IfSome input (λ bytes. work ≡ work_reading bytes) → work ≡ said
read_of input bytes work said told reading read = grind arith

pub step_is_accepted : (show : Show) (input : Option (List ℕ)) (status : ℕ) (text : List ℕ)
    → SaysCorrect input
    → AnswersStep show input status text → status ≡ 0
step_is_accepted show input status text says answers =
    step_accepted show _ _ text (reading_sound says.bytes says.work says.read).limits says.correct
    (subst (λ work. IsStepAnswer show work status text)
    (read_of input says.bytes answers.said (Ok says.work) says.told says.read answers.read)
    answers.answer)

pub run_is_accepted : (show : Show) (input : Option (List ℕ)) (status : ℕ) (text : List ℕ)
    → SaysCorrect input
    → AnswersRun show input status text → (status ≡ 0) ⊎ (status ≡ 9)
run_is_accepted show input status text says answers =
    run_accepted show says.work status text (reading_sound says.bytes says.work says.read).limits
    says.correct
    (subst (λ work. IsRunAnswer show work status text)
    (read_of input says.bytes answers.said (Ok says.work) says.told says.read answers.read)
    answers.answer)

pub run_is_unspent : (show : Show) (input : Option (List ℕ)) (status : ℕ) (text : List ℕ)
    → SaysFewEvents input
    → AnswersRun show input status text → status ≡ 9 → ⊥
run_is_unspent show input status text says answers nine =
    run_unspent show says.work status text (reading_sound says.bytes says.work says.read).limits
    says.correct
    (subst (λ work. IsRunAnswer show work status text)
    (read_of input says.bytes answers.said (Ok says.work) says.told says.read answers.read)
    answers.answer)
    nine

-- generated workloads are of the correct multiset
generated_is : (n : ℕ) → IsCorrect (generated n)
unfolding generated
generated_is n = refl

pub gen_is_accepted : (n status : ℕ) (text : List ℕ) → n ≤ most_ops → IsGenAnswer n status text
    → status ≡ 0
gen_is_accepted n status text few (inl counted) =
    counted.status_is ∙ turned_accepted (generated n) counted.history counted.verdict
    (generated_keeps n few) (generated_is n) counted.turned
gen_is_accepted n status text few (inr stuck) = absurd
    (not_stuck (generated n) (generated_keeps n few) (generated_is n) stuck.stuck)

-- the status of an answer that was given
pub step_given : (status own : ℕ) → IsStepStatus status → (status ≡ 5) ⊎ (status ≡ own)
    → status ≡ own
step_given status own judged e3 = search arith

pub run_given : (status own : ℕ) → IsRunStatus status → (status ≡ 5) ⊎ (status ≡ own) → status ≡ own
run_given status own judged e3 = search arith

pub gen_given : (status own : ℕ) → IsGenStatus status → (status ≡ 5) ⊎ (status ≡ own) → status ≡ own
gen_given status own judged e3 = search arith
