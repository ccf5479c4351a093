-- No answer that a read came before has the status of a failed read.
use Rattle.vyrd_command.proofs.Prelude
use Prelude.{ℕ, ◌≤◌, List, Result, arith, ◌≢◌, Blocks, Recorded, Workload, Refusal, verdict_low}
use Prelude.{Show, IsStepAnswer, IsRunAnswer, IsMoversAnswer, status_of_blocks, IsBatchStatus}
use Rattle.vyrd_mover.specs.HistoryReading as movers

blocks_low : (b : Blocks) → status_of_blocks b ≤ 1
blocks_low b = search arith

pub step_isnt_four : (show : Show) (work : Result Workload Refusal) (status : ℕ) (text : List ℕ)
    → IsStepAnswer show work status text → status ≢ 4
step_isnt_four show work status text answer = search (verdict_low, arith)

pub run_isnt_four : (show : Show) (work : Result Workload Refusal) (status : ℕ) (text : List ℕ)
    → IsRunAnswer show work status text → status ≢ 4
run_isnt_four show work status text answer = search (verdict_low, arith)

pub movers_isnt_four : (read : Result Recorded movers.Refusal) (status : ℕ) (text : List ℕ)
    → IsMoversAnswer read status text → status ≢ 4
movers_isnt_four read status text answer = search (blocks_low, arith)

pub batch_isnt_four : (status : ℕ) → IsBatchStatus status → status ≢ 4
batch_isnt_four status e1 = search arith
