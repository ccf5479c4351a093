-- The verdict about the bytes of a log of version 3, and what is known of it so far. It is the
-- verdict
-- about its starting words and entries by the rules that its specification gives, told by the lines
-- of the text.
use Rattle.std.specs.Prelude.{ℕ, ◌-◌, true, false, List, Option, None, option_map, option_and_then}
use Rattle.std.specs.Prelude.{slice_index_or, unwrap_or, if◌then◌else◌}
use Rattle.std.specs.Option.{option_or}
use Rattle.vyrd_base.specs.declared.header.Header.{Header}
use Rattle.vyrd_base.specs.declared.verdict.Verdict.{Verdict}
use Rattle.vyrd_base.specs.declared.verdict.Verdict.TheVariants.{Accepted, Violation, Malformed}
use Rattle.vyrd_base.specs.Rules.{own, rules_by}
use Rattle.vyrd_base.specs.Verdicts.{verdict_so_far, end_verdict, accepted}
use Rattle.vyrd_base.specs.Own.Log.{OwnReading, own_reading}

-- The line of the text, for the line that a starting word, an entry or `end` would have right
-- behind
-- the header.
abbrev pub line_in_text : List ℕ → ℕ → ℕ
line_in_text numbers line = slice_index_or numbers (line - 2) line

abbrev pub told_in_text : List ℕ → Verdict → Verdict
told_in_text numbers (Accepted entries commits observers) = Accepted entries commits observers
told_in_text numbers (Violation line why) = Violation (line_in_text numbers line) why
told_in_text numbers (Malformed line rule) = Malformed (line_in_text numbers line) rule

-- what is wrong with the starting words and entries that were read, and with their end if `end` was
-- read
abbrev pub own_entries_verdict : OwnReading → Header → Option Verdict
own_entries_verdict read h =
    let r = rules_by (own h read.lines) in
    option_map (told_in_text read.numbers)
    (option_or (verdict_so_far r read.starting read.entries)
    (if read.ended then end_verdict r read.starting read.entries else None))

-- what is wrong with what was read: its entries come before its text
abbrev pub known_own_verdict : OwnReading → Option Verdict
known_own_verdict read = option_or
    (option_and_then (own_entries_verdict read) read.header)
    (option_map (λ fault. Malformed fault.line fault.rule) read.fault)

-- the verdict that these bytes have already, however they go on
unfoldable pub own_text_verdict_so_far : ℕ → List ℕ → Option Verdict
own_text_verdict_so_far max_lines bytes =
    known_own_verdict (own_reading (record { max_lines = max_lines; is_whole = false }) bytes)

-- the verdict about the whole input
unfoldable pub own_text_verdict : ℕ → List ℕ → Verdict
own_text_verdict max_lines bytes =
    let read = own_reading (record { max_lines = max_lines; is_whole = true }) bytes in
    unwrap_or (known_own_verdict read) (accepted read.entries)
