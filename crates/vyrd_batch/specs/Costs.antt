-- What a batch costs besides judging its logs. A step is counted for each byte that is looked at to
-- find the end of a line, for each that is moved to the front, and for each look at a word that
-- begins or ends a batch. For a log there are five more at most: one as it is weighed, two as its
-- verdict is copied, and two for the part of the logs in which it may be alone.
use Rattle.std.specs.Prelude.{◌≡◌, ◌≤◌, ◌+◌, ◌*◌, ◌-◌, ℕ, zero, suc, List, ◌++◌, length}
use Rattle.std.specs.Prelude.{sum_by}
use Rattle.std.specs.Prelude.{Option, None, Some}
use Rattle.vyrd_base.specs.Spelling.{ended_line}
use Rattle.vyrd_base.specs.Limits.{most_lines}
use Rattle.vyrd_log_check.specs.Costs.{log_cost}
use Rattle.vyrd_batch.specs.Batches.{first_line, first_word}
use Rattle.vyrd_batch.specs.Rounds.{IsNoLog}

-- how many bytes are looked at to find the end of the first line: the line and its line feed, or
-- all bytes if there is none
abbrev pub line_look : List ℕ → ℕ
line_look bytes = elim (first_line bytes) as (λ _. ℕ) [
  | None ↦ length bytes
  | Some cut ↦ length cut.line + 1
]

-- how many are looked at once more to tell whether a batch may go on: none before its first line
-- was read
abbrev pub rest_look : (place : Option ℕ) → List ℕ → ℕ
rest_look None bytes = 0
rest_look (Some place) bytes = line_look bytes

-- How many of `len` bytes are moved to the front as the first `taken` are taken away: those that
-- stay, or none if all stay.
abbrev pub moved : (taken len : ℕ) → ℕ
moved zero len = 0
moved (suc n) len = len - suc n

-- Bytes were left as no whole log: no log stands there, and the end of their first line is near.
abbrev pub IsLeft : (log place : ℕ) → List ℕ → Type 0
IsLeft log place left = IsNoLog log place left × (line_look left ≤ 13)

-- The first line takes this many bytes in a round that judges from a place on: 6 where the line
-- wasn't read before, and otherwise none.
abbrev pub IsBegun : (before : Option ℕ) → (place first : ℕ) → List ℕ → Type 0
IsBegun None place first bytes =
    (first ≡ 6) × ((more : List ℕ) × (bytes ≡ ended_line first_word ++ more))
IsBegun (Some before) place first bytes = (first ≡ 0) × (before ≡ place)

-- The most steps of a round in which so many bytes came. Each of them may be looked at twice for
-- the end of a line, and is moved at most once; or it is of the line before a log that is judged,
-- which has six bytes at least for the log's own steps. What was left before the round costs a
-- constant: its line has 13 bytes at most, and its bytes aren't moved. The rest is for words.
abbrev pub round_cost : (fresh : ℕ) → ℕ
round_cost fresh = 3 * fresh + 32

-- what it costs to judge logs one after the other, in steps of their judges
abbrev pub logs_cost : List (List ℕ) → ℕ
logs_cost logs = sum_by (λ log. log_cost most_lines log) logs
