-- What checking the bytes of a log costs, in steps of the judge. It goes by the header and by what
-- was read alone. Reading itself isn't counted.
use Rattle.std.specs.Prelude.{ℕ, Bool, ◌+◌, List, Option, Some, None, if◌then◌else◌}
use Rattle.std.specs.List.{sum_by}
use Rattle.vyrd_base.specs.declared.header.Header.{Header}
use Rattle.vyrd_base.specs.declared.log.Entry.{Entry}
use Rattle.vyrd_base.specs.declared.log.StartWord.{StartWord}
use Rattle.vyrd_base.specs.Reading.{Reading}
use Rattle.vyrd_view.specs.Comparing.{word_price}
use Rattle.vyrd_words.specs.Costs.{entry_price}
use Rattle.vyrd_judge.specs.Costs.{each_entry, start_cost}
use Rattle.vyrd_check.specs.LogReadings.{read_so_far}

-- What an entry costs: what each one does where a step of the specification touches two keys at
-- most, as those of the built-in subjects do; and a write besides the price of its word.
abbrev pub entry_cost : Header → Entry → ℕ
entry_cost h e = each_entry h.callers 2 + entry_price (word_price h) e.kind

-- what starting words cost: each of them is compared once, for its price and a step
abbrev pub starting_cost : Option Header → List StartWord → ℕ
starting_cost None starting = 0
starting_cost (Some h) starting = start_cost (word_price h) starting

-- what entries cost
abbrev pub entries_cost : Option Header → List Entry → ℕ
entries_cost None entries = 0
entries_cost (Some h) entries = sum_by (entry_cost h) entries

-- what `end` costs, if it was read: for each caller a step to see whether its call is open
abbrev pub end_cost : Option Header → Bool → ℕ
end_cost None ended = 0
end_cost (Some h) ended = if ended then h.callers else 0

-- what all that was read costs; nothing was read before the header
abbrev pub reading_cost : Reading → ℕ
reading_cost read = starting_cost read.header read.starting
    + entries_cost read.header read.entries
    + end_cost read.header read.ended

-- what the bytes of a log cost, with at most so many lines
abbrev pub bytes_cost : ℕ → List ℕ → ℕ
bytes_cost max bytes = reading_cost (read_so_far max bytes)

-- what it costs to say the verdict if the bytes end here: `end` once more
abbrev pub finish_cost : ℕ → List ℕ → ℕ
finish_cost max bytes = end_cost (read_so_far max bytes).header (read_so_far max bytes).ended
