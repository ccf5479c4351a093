-- What bytes say as a workload, or their first bad line with the first rule that it breaks. The
-- bytes are cut at their line feeds. Line 1 has to spell a header, and each later line an
-- operation, turns or `end`, after which nothing follows. Reading goes line by line with the
-- workload so far: its operations and its turns are counted, and so is the sum of the turns.
use Rattle.std.specs.Prelude.{ℕ, ◌+◌, ◌==◌, not, ◌||◌, nat_lt, nat_le, List, [], ◌∷◌, ◌++◌, length}
use Rattle.std.specs.Prelude.{sum, map, Option, Some, None, Result, Ok, Err, if◌then◌else◌}
use Rattle.std.specs.Str.{bytes_eq}
use Rattle.std.specs.List.{slice_split}
use Rattle.vyrd_base.specs.Subjects.{are_args}
use Rattle.vyrd_base.specs.Spelling.{end_line}
use Rattle.vyrd_base.specs.Reading.{has_any}
use Rattle.vyrd_memory.specs.declared.op.Turn.{Turn}
use Rattle.vyrd_memory.specs.Bounds.{most_ops}
use Rattle.vyrd_work.specs.declared.line.Item.{Item}
use Rattle.vyrd_work.specs.declared.line.Item.TheVariants as item
use Rattle.vyrd_work.specs.declared.fault.WorkRule.{WorkRule}
use Rattle.vyrd_work.specs.declared.fault.WorkRule.TheVariants.{AfterEnd, BadHeader, BadLine}
use Rattle.vyrd_work.specs.declared.fault.WorkRule.TheVariants.{CallerRange, ArgumentRange}
use Rattle.vyrd_work.specs.declared.fault.WorkRule.TheVariants.{OpAfterTurn, TooManyOps}
use Rattle.vyrd_work.specs.declared.fault.WorkRule.TheVariants.{TooManyTurns, NoLineFeed, NoEnd}
use Rattle.vyrd_work.specs.Workloads.{Workload, most_turn_lines, most_turns}
use Rattle.vyrd_work.specs.WorkLines.{begun_in, item_in}

-- a bad line with the rule that it breaks
pub record Refusal : Type 0 where
  pub line : ℕ
  pub rule : WorkRule

-- line n is bad
abbrev pub refused : ℕ → WorkRule → Result Workload Refusal
refused n rule = Err (record { line = n; rule = rule })

-- the sum of the turns
abbrev pub turns_in : List Turn → ℕ
turns_in turns = sum (map (λ t. t.count) turns)

-- the first rule that an operation or turns break after the workload so far
abbrev pub broken_by : Workload → Item → Option WorkRule
broken_by w (item.Op o) =
    if nat_le w.header.callers o.caller then Some CallerRange
    else (if not (are_args w.header.size o.op.method o.op.args) then Some ArgumentRange
    else (if nat_lt 0 (length w.turns) then Some OpAfterTurn
    else (if nat_le most_ops (length w.ops) then Some TooManyOps else None)))
broken_by w (item.Turns t) =
    if nat_le w.header.callers t.caller then Some CallerRange
    else
    (if nat_le most_turn_lines (length w.turns) || nat_lt most_turns (turns_in w.turns + t.count)
    then Some TooManyTurns
    else None)

-- one more operation, or turns
abbrev pub with_item : Workload → Item → Workload
with_item w (item.Op o) =
    record { header = w.header; variant = w.variant; ops = w.ops ++ o ∷ []; turns = w.turns }
with_item w (item.Turns t) =
    record { header = w.header; variant = w.variant; ops = w.ops; turns = w.turns ++ t ∷ [] }

-- what was read with a line that says this, unless it breaks a rule
abbrev pub unless_broken : Workload → Item → Option WorkRule → Result Workload WorkRule
unless_broken w x None = Ok (with_item w x)
unless_broken w x (Some rule) = Err rule

-- what was read with a line that may say something
abbrev pub item_read : Workload → Option Item → Result Workload WorkRule
item_read w None = Err BadLine
item_read w (Some x) = unless_broken w x (broken_by w x)

-- what was read with a later line that isn't `end`
abbrev pub line_read : Workload → List ℕ → Result Workload WorkRule
line_read w line = item_read w (item_in w.header.subject line)

-- a workload that has begun, or a line that isn't a header
abbrev pub begun_or_bad : Option Workload → Result Workload WorkRule
begun_or_bad None = Err BadHeader
begun_or_bad (Some w) = Ok w

-- what line 1 says
abbrev pub first_read : List ℕ → Result Workload WorkRule
first_read line = begun_or_bad (begun_in line)

-- the bytes after the last line feed: with more than 64 of them they begin no good line
abbrev pub unfinished_rule : WorkRule → List ℕ → WorkRule
unfinished_rule bad rest =
    if nat_lt 64 (length rest) then bad else (if has_any rest then NoLineFeed else NoEnd)

-- Nothing follows the line `end`, after which line n would come: the lines from there on are one
-- without bytes.
abbrev pub ended : Workload → ℕ → List (List ℕ) → Result Workload Refusal
ended w n ([] ∷ []) = Ok w
ended w n _ = refused n AfterEnd

-- what the lines from line n on say after the workload so far
abbrev pub lines_read : Workload → ℕ → List (List ℕ) → Result Workload Refusal
lines_read w n [] = refused n NoEnd
lines_read w n (rest ∷ []) = refused n (unfinished_rule BadLine rest)
lines_read w n (line ∷ next ∷ lines) =
    if bytes_eq line end_line then ended w (n + 1) (next ∷ lines)
    else elim (line_read w line) as (λ _. Result Workload Refusal) [
      | Ok more ↦ lines_read more (n + 1) (next ∷ lines)
      | Err rule ↦ refused n rule
    ]

-- what all lines say: the header's line first
abbrev pub text_read : List (List ℕ) → Result Workload Refusal
text_read [] = refused 1 NoEnd
text_read (rest ∷ []) = refused 1 (unfinished_rule BadHeader rest)
text_read (line ∷ next ∷ lines) = elim (first_read line) as (λ _. Result Workload Refusal) [
  | Ok w ↦ lines_read w 2 (next ∷ lines)
  | Err rule ↦ refused 1 rule
]

-- what the bytes say; they are cut at their line feeds
unfoldable pub work_reading : List ℕ → Result Workload Refusal
work_reading bytes = text_read (slice_split (λ b. b == 10) bytes)
