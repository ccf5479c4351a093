-- The names of a workload's rules, and the line that says that a workload is refused.
use Rattle.std.specs.Prelude.{◌≡◌, ⊤, ℕ, List, ◌++◌, Result, Err, codes, decimal}
use Rattle.vyrd_base.specs.Spelling.{ended_line}
use Rattle.vyrd_work.specs.declared.fault.WorkRule.{WorkRule}
use Rattle.vyrd_work.specs.declared.fault.WorkRule.TheVariants.{AfterEnd, BadHeader, BadLine}
use Rattle.vyrd_work.specs.declared.fault.WorkRule.TheVariants.{CallerRange, ArgumentRange}
use Rattle.vyrd_work.specs.declared.fault.WorkRule.TheVariants.{OpAfterTurn, TooManyOps}
use Rattle.vyrd_work.specs.declared.fault.WorkRule.TheVariants.{TooManyTurns, NoLineFeed, NoEnd}
use Rattle.vyrd_work.specs.declared.fault.WorkFault.{WorkFault}
use Rattle.vyrd_work.specs.declared.fault.WorkFault.TheVariants.{Refused, Memory}
use Rattle.vyrd_work.specs.Workloads.{Workload}
use Rattle.vyrd_work.specs.WorkReading.{Refusal}

-- the name of a rule
abbrev pub work_rule_text : WorkRule → List ℕ
work_rule_text AfterEnd = codes "text after end"
work_rule_text BadHeader = codes "bad header"
work_rule_text BadLine = codes "bad line"
work_rule_text CallerRange = codes "caller out of range"
work_rule_text ArgumentRange = codes "argument out of range"
work_rule_text OpAfterTurn = codes "operation after turn"
work_rule_text TooManyOps = codes "too many operations"
work_rule_text TooManyTurns = codes "too many turns"
work_rule_text NoLineFeed = codes "no line feed"
work_rule_text NoEnd = codes "no end"

-- the line that names a bad line and its rule, with its line feed
abbrev pub refusal_text : ℕ → WorkRule → List ℕ
refusal_text line rule = ended_line (codes "workload refused at line " ++ decimal line ++ codes ": "
    ++ work_rule_text rule)

-- what a refusal says of a reading; if memory ran out, nothing is known
abbrev pub IsRefusal : WorkFault → Result Workload Refusal → Type 0
IsRefusal (Refused line rule) reading = reading ≡ Err (record { line = line; rule = rule })
IsRefusal Memory reading = ⊤

-- what the refusal of line n says of what the line does
abbrev pub IsRefusedAt : ℕ → WorkFault → Result Workload WorkRule → Type 0
IsRefusedAt n (Refused line rule) read = (line ≡ n) × (read ≡ Err rule)
IsRefusedAt n Memory read = ⊤
