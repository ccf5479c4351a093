-- The verdict about the bytes of a log, and what is known of it so far. What is wrong with the
-- starting words and entries that were read comes before the fault of the text, since these stand
-- on earlier lines. `max_lines` is the reader's limit, at least 1.
use Rattle.std.specs.Prelude.{ℕ, true, false, List, Option, None, option_map, option_and_then}
use Rattle.std.specs.Prelude.{unwrap_or, if◌then◌else◌}
use Rattle.std.specs.Option.{option_or, option_map_or}
use Rattle.vyrd_base.specs.declared.header.Header.{Header}
use Rattle.vyrd_base.specs.declared.verdict.Stop.{Stop}
use Rattle.vyrd_base.specs.declared.verdict.Stop.TheVariants.{End, Text}
use Rattle.vyrd_base.specs.declared.verdict.Verdict.{Verdict}
use Rattle.vyrd_base.specs.declared.verdict.Verdict.TheVariants.{Malformed}
use Rattle.vyrd_base.specs.Reading.{Reading, reading}
use Rattle.vyrd_base.specs.VerdictText.{verdict_text}
use Rattle.vyrd_base.specs.Verdicts.{verdict_so_far, end_verdict, accepted}
use Rattle.vyrd_base.specs.Rules.{rules_of}

-- what is wrong with the starting words and entries that were read, and with their end if `end` was
-- read
abbrev pub entries_verdict : Reading → Header → Option Verdict
entries_verdict read h = option_or (verdict_so_far (rules_of h) read.starting read.entries)
    (if read.ended then end_verdict (rules_of h) read.starting read.entries else None)

-- what is wrong with what was read: its entries come before its text
abbrev pub known_verdict : Reading → Option Verdict
known_verdict read = option_or
    (option_and_then (entries_verdict read) read.header)
    (option_map (λ fault. Malformed fault.line fault.rule) read.fault)

-- the verdict that these bytes have already, however they go on
unfoldable pub text_verdict_so_far : ℕ → List ℕ → Option Verdict
text_verdict_so_far max_lines bytes =
    known_verdict (reading (record { max_lines = max_lines; is_whole = false }) bytes)

-- the verdict about the whole input
unfoldable pub text_verdict : ℕ → List ℕ → Verdict
text_verdict max_lines bytes =
    let read = reading (record { max_lines = max_lines; is_whole = true }) bytes in
    unwrap_or (known_verdict read) (accepted read.entries)

-- the line that is answered about the whole input
abbrev pub answer_to : ℕ → List ℕ → List ℕ
answer_to max_lines bytes = verdict_text (text_verdict max_lines bytes)

-- how the text that was read stops
abbrev pub stop_of : Reading → Stop
stop_of read = option_map_or (λ fault. Text fault.line fault.rule) read.fault End
