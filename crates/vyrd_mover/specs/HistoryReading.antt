-- What bytes say as a history, or their first bad line with the first rule that it breaks. The
-- bytes are cut at their line feeds. Line 1 has to spell a header, and each later line an event or
-- `end`, after which nothing follows. Each event has to be legal after those before it, and each
-- caller's blocks have to be opened and ended in turn.
use Rattle.std.specs.Prelude.{ℕ, ◌+◌, ◌==◌, Bool, true, false, not, ◌&&◌, ◌||◌, nat_lt, List, []}
use Rattle.std.specs.Prelude.{◌∷◌, ◌++◌, length, Option, Some, None, unwrap_or, Result, Ok, Err}
use Rattle.std.specs.Prelude.{if◌then◌else◌}
use Rattle.std.specs.Str.{bytes_eq}
use Rattle.std.specs.List.{slice_split, list_all}
use Rattle.vyrd_base.specs.declared.header.Header.{Header}
use Rattle.vyrd_base.specs.declared.history.Stamped.{Stamped}
use Rattle.vyrd_base.specs.Places.{Place, places, newest_first, first_answer}
use Rattle.vyrd_base.specs.Histories.{cells_of, is_legal_at}
use Rattle.vyrd_base.specs.Spelling.{end_line}
use Rattle.vyrd_mover.specs.declared.fault.HistoryRule.{HistoryRule}
use Rattle.vyrd_mover.specs.declared.fault.HistoryRule.TheVariants.{TooManyLines, AfterEnd}
use Rattle.vyrd_mover.specs.declared.fault.HistoryRule.TheVariants.{BadHeader, BadLine, NotLegal}
use Rattle.vyrd_mover.specs.declared.fault.HistoryRule.TheVariants.{BlockMark, NoLineFeed, NoEnd}
use Rattle.vyrd_mover.specs.Blocks.{is_block_open, is_block_end}
use Rattle.vyrd_mover.specs.HistoryText.{Recorded}
use Rattle.vyrd_mover.specs.HistoryLines.{history_header_in, event_in}

-- a bad line with the rule that it breaks
pub record Refusal : Type 0 where
  pub line : ℕ
  pub rule : HistoryRule

-- line n is bad
abbrev pub refused : ℕ → HistoryRule → Result Recorded Refusal
refused n rule = Err (record { line = n; rule = rule })

-- what an event of the caller says of its block: opened, or ended
abbrev pub block_state : ℕ → Stamped → Option Bool
block_state c e = if e.caller == c
    then (if is_block_open e.did
    then Some true
    else (if is_block_end e.did then Some false else None))
    else None

-- whether the caller has an open block after these events, given the newest first
abbrev pub in_block : ℕ → List Stamped → Bool
in_block c earlier = unwrap_or (first_answer (block_state c) earlier) false

-- whether the event opens a block in the caller's open block, or ends one without it
abbrev pub is_misplaced : Place Stamped → Bool
is_misplaced place = (is_block_open place.here.did && in_block place.here.caller place.earlier)
    || (is_block_end place.here.did && not (in_block place.here.caller place.earlier))

-- whether each caller's blocks are opened and ended in turn
abbrev pub are_blocks_in_turn : List Stamped → Bool
are_blocks_in_turn history = list_all (λ place. not (is_misplaced place)) (places history)

-- the place of one more event
abbrev pub next_place : List Stamped → Stamped → Place Stamped
next_place history e = record { earlier = newest_first history; here = e; later = [] }

-- the first rule that one more event breaks
abbrev pub broken_by : Recorded → Stamped → Option HistoryRule
broken_by r e =
    if not (is_legal_at (cells_of r.header) (next_place r.history e)) then Some NotLegal
    else (if is_misplaced (next_place r.history e) then Some BlockMark else None)

-- one more event
abbrev pub with_event : Recorded → Stamped → Recorded
with_event r e = record { header = r.header; history = r.history ++ e ∷ [] }

-- what was read with one more event, unless it breaks a rule
abbrev pub unless_broken : Recorded → Stamped → Option HistoryRule → Result Recorded HistoryRule
unless_broken r e None = Ok (with_event r e)
unless_broken r e (Some rule) = Err rule

-- what was read with a line that may spell an event
abbrev pub event_read : Recorded → Option Stamped → Result Recorded HistoryRule
event_read r None = Err BadLine
event_read r (Some e) = unless_broken r e (broken_by r e)

-- what was read with a later line that isn't `end`
abbrev pub line_read : Recorded → List ℕ → Result Recorded HistoryRule
line_read r line = event_read r (event_in r.header.subject (length r.history) line)

-- a history of which no event was read, or a line that isn't a header
abbrev pub begun_or_bad : Option Header → Result Recorded HistoryRule
begun_or_bad None = Err BadHeader
begun_or_bad (Some h) = Ok (record { header = h; history = [] })

-- what line 1 says
abbrev pub first_read : List ℕ → Result Recorded HistoryRule
first_read line = begun_or_bad (history_header_in line)

-- the rule of line n: of a line past the last one that may be there, or otherwise this rule
abbrev pub unless_too_many : ℕ → HistoryRule → HistoryRule
unless_too_many n rule = if nat_lt 4000000 n then TooManyLines else rule

-- the bytes of line n, after the last line feed: with more than 64 of them they begin no good line
abbrev pub unfinished_rule : ℕ → HistoryRule → List ℕ → HistoryRule
unfinished_rule n bad [] = NoEnd
unfinished_rule n bad (b ∷ rest) =
    unless_too_many n (if nat_lt 64 (length (b ∷ rest)) then bad else NoLineFeed)

-- Nothing follows the line `end`, after which line n would come: the lines from there on are one
-- without bytes.
abbrev pub ended : Recorded → ℕ → List (List ℕ) → Result Recorded Refusal
ended r n ([] ∷ []) = Ok r
ended r n _ = refused n (unless_too_many n AfterEnd)

-- what the lines from line n on say after the history so far
abbrev pub lines_read : Recorded → ℕ → List (List ℕ) → Result Recorded Refusal
lines_read r n [] = refused n NoEnd
lines_read r n (rest ∷ []) = refused n (unfinished_rule n BadLine rest)
lines_read r n (line ∷ next ∷ lines) =
    if nat_lt 4000000 n then refused n TooManyLines
    else (if bytes_eq line end_line then ended r (n + 1) (next ∷ lines)
    else elim (line_read r line) as (λ _. Result Recorded Refusal) [
      | Ok more ↦ lines_read more (n + 1) (next ∷ lines)
      | Err rule ↦ refused n rule
    ])

-- what all lines say: the header's line first
abbrev pub text_read : List (List ℕ) → Result Recorded Refusal
text_read [] = refused 1 NoEnd
text_read (rest ∷ []) = refused 1 (unfinished_rule 1 BadHeader rest)
text_read (line ∷ next ∷ lines) = elim (first_read line) as (λ _. Result Recorded Refusal) [
  | Ok r ↦ lines_read r 2 (next ∷ lines)
  | Err rule ↦ refused 1 rule
]

-- what the bytes say; they are cut at their line feeds
unfoldable pub history_reading : List ℕ → Result Recorded Refusal
history_reading bytes = text_read (slice_split (λ b. b == 10) bytes)
