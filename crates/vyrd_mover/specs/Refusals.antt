-- The names of a history's rules, the line that says that a history is refused, and what a refusal
-- says of a reading.
use Rattle.std.specs.Prelude.{◌≡◌, ⊤, ℕ, List, ◌++◌, Result, Err, codes, decimal}
use Rattle.vyrd_base.specs.Spelling.{ended_line}
use Rattle.vyrd_mover.specs.declared.fault.HistoryRule.{HistoryRule}
use Rattle.vyrd_mover.specs.declared.fault.HistoryRule.TheVariants.{TooManyLines, AfterEnd}
use Rattle.vyrd_mover.specs.declared.fault.HistoryRule.TheVariants.{BadHeader, BadLine, NotLegal}
use Rattle.vyrd_mover.specs.declared.fault.HistoryRule.TheVariants.{BlockMark, NoLineFeed, NoEnd}
use Rattle.vyrd_mover.specs.declared.fault.HistoryFault.{HistoryFault}
use Rattle.vyrd_mover.specs.declared.fault.HistoryFault.TheVariants.{Refused, Memory}
use Rattle.vyrd_mover.specs.HistoryText.{Recorded}
use Rattle.vyrd_mover.specs.HistoryReading.{Refusal}

-- the name of a rule
abbrev pub history_rule_text : HistoryRule → List ℕ
history_rule_text TooManyLines = codes "too many lines"
history_rule_text AfterEnd = codes "text after end"
history_rule_text BadHeader = codes "bad header"
history_rule_text BadLine = codes "bad line"
history_rule_text NotLegal = codes "not legal"
history_rule_text BlockMark = codes "block mark out of place"
history_rule_text NoLineFeed = codes "no line feed"
history_rule_text NoEnd = codes "no end"

-- the line that names a bad line and its rule, with its line feed
abbrev pub history_refusal_text : ℕ → HistoryRule → List ℕ
history_refusal_text line rule = ended_line (codes "history refused at line " ++ decimal line
    ++ codes ": " ++ history_rule_text rule)

-- what a refusal says of a reading; if memory ran out, nothing is known
abbrev pub IsRefusal : HistoryFault → Result Recorded Refusal → Type 0
IsRefusal (Refused line rule) reading = reading ≡ Err (record { line = line; rule = rule })
IsRefusal Memory reading = ⊤

-- what the refusal of line n says of what the line does
abbrev pub IsRefusedAt : ℕ → HistoryFault → Result Recorded HistoryRule → Type 0
IsRefusedAt n (Refused line rule) read = (line ≡ n) × (read ≡ Err rule)
IsRefusedAt n Memory read = ⊤
