-- What checking the bytes of a log of version 3 costs, in steps of the judge. It goes by the
-- header, the specification and what was read alone. Reading itself isn't counted, nor is telling a
-- verdict by the lines of the text, which is done once at most.
use Rattle.std.specs.Prelude.{ℕ, ◌+◌, ◌*◌, List, length, if◌then◌else◌}
use Rattle.std.specs.List.{sum_by}
use Rattle.std.specs.Option.{option_map_or}
use Rattle.vyrd_base.specs.declared.header.Header.{Header}
use Rattle.vyrd_base.specs.declared.log.Entry.{Entry}
use Rattle.vyrd_base.specs.declared.log.StartWord.{StartWord}
use Rattle.vyrd_base.specs.Starts.{words_at_start}
use Rattle.vyrd_base.specs.Own.Log.{OwnReading}
use Rattle.vyrd_base.specs.Own.OwnRules.{own_view}
use Rattle.vyrd_base.specs.Own.Reader.{written_in}
use Rattle.vyrd_own_log.specs.Grown.{has_begun}
use Rattle.vyrd_words.specs.Costs.{entry_price}
use Rattle.vyrd_judge.specs.Costs.{each_entry, start_cost}
use Rattle.vyrd_own_spec.specs.Effects.{most_effects}
use Rattle.vyrd_own_check.specs.LogReadings.{read_so_far}

-- The price of a changed word: one step to look at its part, and two for each key that the part
-- gives an amount to, which are four at most.
abbrev pub word_price : ℕ → ℕ
word_price word = 1 + 2 * 4

-- how many keys a step of the specification pays for: two for each line of its longest case
abbrev pub keys_paid : List (List ℕ) → ℕ
keys_paid lines = 2 * most_effects (written_in lines)

-- what an entry costs: what each one does by the specification, and a write besides the price of
-- its word
abbrev pub entry_cost : Header → List (List ℕ) → Entry → ℕ
entry_cost h lines e = each_entry h.callers (keys_paid lines) + entry_price word_price e.kind

-- how many keys the words show at the start
abbrev pub shown_count : Header → List (List ℕ) → List StartWord → ℕ
shown_count h lines starting = length (own_view (written_in lines) (words_at_start h starting))

-- What it costs to start: each starting word is compared once, for its price and a step, and two
-- steps for each key that is shown at the start, since a step may clear it.
abbrev pub starting_cost : Header → List (List ℕ) → List StartWord → ℕ
starting_cost h lines starting =
    start_cost word_price starting + 2 * shown_count h lines starting

-- What was read costs under this header: to start once an entry or `end` was read, then each entry,
-- and at `end` a step for each caller to see whether its call is open.
abbrev pub headed_cost : Header → OwnReading → ℕ
headed_cost h read =
    (if has_begun read then starting_cost h read.lines read.starting else 0)
    + sum_by (entry_cost h read.lines) read.entries
    + (if read.ended then h.callers else 0)

-- what all that was read costs; nothing was read before the header
abbrev pub reading_cost : OwnReading → ℕ
reading_cost read = option_map_or (λ h. headed_cost h read) read.header 0

-- what the bytes of a log cost, with at most so many lines
abbrev pub bytes_cost : ℕ → List ℕ → ℕ
bytes_cost max bytes = reading_cost (read_so_far max bytes)

-- what `end` costs, if it was read
abbrev pub end_cost : OwnReading → ℕ
end_cost read = option_map_or (λ h. if read.ended then h.callers else 0) read.header 0

-- what it costs to say the verdict if the bytes end here: `end` once more
abbrev pub finish_cost : ℕ → List ℕ → ℕ
finish_cost max bytes = end_cost (read_so_far max bytes)
