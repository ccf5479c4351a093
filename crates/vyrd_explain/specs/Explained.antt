-- What is answered about the bytes of a log: the line of its verdict, and lines behind it, about
-- what in the log has to do with the verdict or about what changes along the log. The bytes are
-- read in two ways: as a log of versions 1 and 2, whose structure is built in, and as one of
-- version 3, which has a specification in front. No log has a header for both, so one of them has
-- nothing to say. `max_lines` is the reader's limit, at least 1.
use Rattle.std.specs.Prelude.{ℕ, ◌+◌, Bool, false, ◌&&◌, List, [], ◌++◌, length, slice_index}
use Rattle.std.specs.Prelude.{is_some}
use Rattle.std.specs.Option.{option_map_or}
use Rattle.vyrd_base.specs.declared.header.Header.{Header}
use Rattle.vyrd_base.specs.declared.log.Entry.{Entry}
use Rattle.vyrd_base.specs.declared.log.StartWord.{StartWord}
use Rattle.vyrd_base.specs.declared.verdict.Verdict.{Verdict}
use Rattle.vyrd_base.specs.Front.{front}
use Rattle.vyrd_base.specs.LogVerdicts.{log_verdict, log_verdict_so_far}
use Rattle.vyrd_base.specs.Reading.{Reading, reading}
use Rattle.vyrd_base.specs.Own.Log.{OwnReading, own_reading}
use Rattle.vyrd_base.specs.Rules.{Charter, built_in, own, rules_by}
use Rattle.vyrd_base.specs.VerdictText.{verdict_text}
use Rattle.vyrd_base.specs.Verdicts.{line_of}
use Rattle.vyrd_witness.specs.declared.item.Item.{Item}
use Rattle.vyrd_item_text.specs.ItemText.{items_text}
use Rattle.vyrd_follow.specs.Following.{followed_items}
use Rattle.vyrd_explain.specs.declared.about.About.{About}
use Rattle.vyrd_explain.specs.declared.about.About.TheVariants.{Fault, Changes}
use Rattle.vyrd_explain.specs.Verdicts.{verdict_items}

-- what the bytes say as a log of versions 1 and 2, which may go on
abbrev pub read_as : ℕ → List ℕ → Reading
read_as max_lines bytes = reading (record { max_lines = max_lines; is_whole = false }) bytes

-- the same as a log of version 3
abbrev pub own_read_as : ℕ → List ℕ → OwnReading
own_read_as max_lines bytes = own_reading (record { max_lines = max_lines; is_whole = false }) bytes

-- the line of the entry at a position: entries have their lines behind those of starting words
abbrev pub own_line_of : OwnReading → ℕ → ℕ
own_line_of read at = slice_index read.numbers (length read.starting + at)

-- what is told about entries with a verdict, by the rules that a charter names: what has to do with
-- the verdict, or what changes along the longest beginning that keeps the rules of shape
abbrev pub items_about
    : About → Charter → (ℕ → ℕ) → List StartWord → List Entry → Verdict → List Item
items_about Fault c line starting entries verdict = verdict_items c line starting entries verdict
items_about Changes c line starting entries verdict =
    followed_items c starting (front (rules_by c).header entries)

-- what is said of a verdict about a log with this header, in which this was read
abbrev pub items_said : About → Reading → Verdict → Header → List ℕ
items_said about read verdict h = items_text (line_of read.starting)
    (items_about about (built_in h) (line_of read.starting) read.starting read.entries verdict)

abbrev pub own_items_said : About → OwnReading → Verdict → Header → List ℕ
own_items_said about read verdict h = items_text (own_line_of read)
    (items_about about (own h read.lines) (own_line_of read) read.starting read.entries verdict)

-- the same if a header was read, and otherwise nothing
abbrev pub said_of : About → Reading → Verdict → List ℕ
said_of about read verdict = option_map_or (items_said about read verdict) read.header []

abbrev pub own_said_of : About → OwnReading → Verdict → List ℕ
own_said_of about read verdict = option_map_or (own_items_said about read verdict) read.header []

-- a verdict's line, and what is said of it by both readings
abbrev pub explanation : About → Reading → OwnReading → Verdict → List ℕ
explanation about read own_read verdict =
    verdict_text verdict ++ said_of about read verdict ++ own_said_of about own_read verdict

-- what is answered about the whole input
unfoldable pub explained : About → ℕ → List ℕ → List ℕ
explained about max_lines bytes = explanation about (read_as max_lines bytes)
    (own_read_as max_lines bytes) (log_verdict max_lines bytes)

-- Whether nothing further changes the answer: the verdict stands, and by neither reading more is
-- read.
unfoldable pub is_settled : ℕ → List ℕ → Bool
is_settled max_lines bytes = is_some (log_verdict_so_far max_lines bytes)
    && is_some (read_as max_lines bytes).fault && is_some (own_read_as max_lines bytes).fault
