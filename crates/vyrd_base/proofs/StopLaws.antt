-- Where the text of a whole input stops, and the verdict about it by its stop.
use Rattle.vyrd_base.proofs.Prelude
use Prelude.{◌≡◌, ℕ, ◌+◌, ◌<◌, Bool, true, false, cond, List, [], ◌∷◌, length, Option, Some, None}
use Prelude.{Result, Ok, Err, refl, ◌∙◌, sym, arith, ◌==◌, nat_lt, unwrap_or, option_map, option_or}
use Prelude.{option_map_or, bytes_eq, nat_tests, Header, Subject, Entry, StartWord, Rule}
use Prelude.{TooManyLines, BadHeader, BadEntry, End, Text, Malformed, end_line, start_rule}
use Prelude.{start_in, entry_in, header_in, Reading, TextFault, has_any, fault_on, stopped, ended}
use Prelude.{unfinished_rule, after_end_rule, entry_before, lines_read, start_before, starts_read}
use Prelude.{body_read, header_before, text_read, reading, verdict_so_far, end_verdict, accepted}
use Prelude.{verdict, verdict_at, known_verdict, text_verdict, stop_of, rules_of}
use Rattle.vyrd_base.proofs.ReadingGrows.{input_of, some_parts}
use Rattle.vyrd_base.proofs.ListLaws.{or_none}

-- how many lines were read as starting words or entries
abbrev pub read_lines : Reading → ℕ
read_lines read = length read.starting + length read.entries

-- Where the lines from line n on stop: a fault after `end` is two lines after the last entry, any
-- other on the line after it. Without `end` there is one.
pub record Stops (n : ℕ) (read : Reading) : Type 0 where
  pub behind_end : read.ended ≡ true → (f : TextFault) → read.fault ≡ Some f
      → f.line ≡ n + read_lines read + 1
  pub at_fault : read.ended ≡ false → (f : TextFault) × (read.fault ≡ Some f)
      × (f.line ≡ n + read_lines read)

stops_at : (n : ℕ) (rule : Rule) → Stops n (stopped n (Some rule))
stops_at n rule = grind arith

fault_line : (n : ℕ) (o : Option Rule) (f : TextFault) → fault_on n o ≡ Some f → f.line ≡ n
fault_line n o f e = search arith

stops_after_end : (n : ℕ) (o : Option Rule) → Stops n (ended (n + 1) o)
stops_after_end n o = grind (arith, fault_line)

-- what stands after the last line feed of a whole input is always at fault
stops_unfinished : (max n : ℕ) (bad : Rule) (rest : List ℕ)
    → Stops n (stopped n (unfinished_rule (input_of max true) n bad rest))
stops_unfinished max n bad rest = search (has_any, stops_at, arith)

stops_with_entry : (n : ℕ) (o : Option Entry) (read : Reading) → Stops (n + 1) read
    → Stops n (entry_before n o read)
stops_with_entry n o read s = search (stops_at, arith)

stops_with_start : (n : ℕ) (o : Option Rule) (s : StartWord) (read : Reading) → Stops (n + 1) read
    → Stops n (start_before n o s read)
stops_with_start n o s read st = search (stops_at, arith)

lines_stop : (max : ℕ) (subject : Subject) (n : ℕ) (line : List ℕ) (lines : List (List ℕ))
    → Stops n (lines_read (input_of max true) subject n (line ∷ lines))
lines_stop max subject n rest [] = stops_unfinished max n BadEntry rest
lines_stop max subject n line (next ∷ lines) =
    by_tests (lines_stop max subject (n + 1) next lines) (nat_lt max n) (bytes_eq line end_line)
  where
    by_tests : Stops (n + 1) (lines_read (input_of max true) subject (n + 1) (next ∷ lines))
        → (past is_end : Bool)
        → Stops n (cond past (stopped n (Some TooManyLines))
        (cond is_end (ended (n + 1) (after_end_rule (input_of max true) (n + 1) next lines))
        (entry_before n (entry_in subject line)
        (lines_read (input_of max true) subject (n + 1) (next ∷ lines)))))
    by_tests s past is_end = search (stops_at, stops_after_end, stops_with_entry, arith)

starts_stop : (max : ℕ) (h : Header) (last : Option StartWord) (n : ℕ) (line : List ℕ)
    (lines : List (List ℕ))
    → Stops n (starts_read (input_of max true) h last n (line ∷ lines))
starts_stop max h last n rest [] = stops_unfinished max n BadEntry rest
starts_stop max h last n line (next ∷ lines) = by_line (start_in line)
    (λ s. starts_stop max h (Some s) (n + 1) next lines)
  where
    by_limit : (s : StartWord) (past : Bool)
        → Stops (n + 1) (starts_read (input_of max true) h (Some s) (n + 1) (next ∷ lines))
        → Stops n (cond past (stopped n (Some TooManyLines))
        (start_before n (start_rule h last s) s
        (starts_read (input_of max true) h (Some s) (n + 1) (next ∷ lines))))
    by_limit s past st = search (stops_at, stops_with_start, arith)

    by_line : (o : Option StartWord)
        → ((s : StartWord)
        → Stops (n + 1) (starts_read (input_of max true) h (Some s) (n + 1) (next ∷ lines)))
        → Stops n (elim o as (λ _. Reading) [
          | None ↦ lines_read (input_of max true) h.subject n (line ∷ next ∷ lines)
          | Some s ↦ cond (nat_lt max n) (stopped n (Some TooManyLines))
              (start_before n (start_rule h last s) s
              (starts_read (input_of max true) h (Some s) (n + 1) (next ∷ lines)))
        ])
    by_line None onward = lines_stop max h.subject n line (next ∷ lines)
    by_line (Some s) onward = by_limit s (nat_lt max n) (onward s)

body_stop : (max : ℕ) (h : Header) (line : List ℕ) (lines : List (List ℕ))
    → Stops 2 (body_read (input_of max true) h (line ∷ lines))
body_stop max h line lines = grind (arith, starts_stop, lines_stop)

-- Where a whole text stops: after a header as its lines do, and without one at a fault and with no
-- entry.
pub data TextStops (read : Reading) : Type 0 where
  headed : (h : Header) → read.header ≡ Some h → Stops 2 read → TextStops read
  headless : (f : TextFault) → read.header ≡ None → read.fault ≡ Some f → TextStops read

stops_without : (max : ℕ) (rest : List ℕ)
    → TextStops (stopped 1 (unfinished_rule (input_of max true) 1 BadHeader rest))
stops_without max rest = let found = (stops_unfinished max 1 BadHeader rest).at_fault refl in
    headless found.0 refl found.1

text_stop : (max : ℕ) (parts : List (List ℕ)) → 0 < length parts
    → TextStops (text_read (input_of max true) parts)
text_stop max [] some = absurd (omega arith)
text_stop max (rest ∷ []) some = stops_without max rest
text_stop max (line ∷ next ∷ lines) some = by_header (header_in line)
  where
    by_header : (r : Result Header Rule)
        → TextStops (elim r as (λ _. Reading) [
          | Ok h ↦ header_before h
              (body_read (input_of max true) h (next ∷ lines))
          | Err rule ↦ stopped 1 (Some rule)
        ])
    by_header (Ok h) = let s = body_stop max h next lines in headed h refl
        (record { behind_end = s.behind_end; at_fault = s.at_fault })
    by_header (Err rule) = headless (record { line = 1; rule = rule }) refl refl

pub reading_stops : (max : ℕ) (bytes : List ℕ) → TextStops (reading (input_of max true) bytes)
unfolding reading
reading_stops max bytes = search (text_stop, some_parts, arith)

unwrap_or-or_some : {A : Type 0} (o : Option A) (a d : A) → unwrap_or (option_or o (Some a)) d
    ≡ unwrap_or o a
unwrap_or-or_some o a d = search arith

-- whether a fault stands after an `end`
is_behind : (line n : ℕ) → line ≡ 2 + n + 1 → (line == n + 2 + 1) ≡ true
is_behind line n e = grind (arith, nat_tests)

isnt_behind : (line n : ℕ) → line ≡ 2 + n → (line == n + 2 + 1) ≡ false
isnt_behind line n e = grind (arith, nat_tests)

by_stop : (h : Header) (starting : List StartWord) (entries : List Entry) (is_ended : Bool)
    (fault : Option TextFault)
    → (is_ended ≡ true → (f : TextFault) → fault ≡ Some f
    → f.line ≡ 2 + (length starting + length entries) + 1)
    → (is_ended ≡ false → (f : TextFault) × (fault ≡ Some f)
    × (f.line ≡ 2 + (length starting + length entries)))
    → unwrap_or (option_or
    (option_or (verdict_so_far (rules_of h) starting entries)
    (cond is_ended (end_verdict (rules_of h) starting entries) None))
    (option_map (λ f. Malformed f.line f.rule) fault)) (accepted entries)
    ≡ verdict_at (rules_of h) starting entries (option_map_or (λ f. Text f.line f.rule) fault End)
unfolding verdict_at verdict
by_stop h starting entries is_ended fault behind at = search
    (or_none, unwrap_or-or_some, is_behind, isnt_behind, arith)

with_header : (read : Reading) (h : Header) → read.header ≡ Some h → Stops 2 read
    → unwrap_or (known_verdict read) (accepted read.entries) ≡ verdict_at (rules_of h) read.starting
    read.entries (stop_of read)
with_header read h has s = grind (arith, read, by_stop)

without_header : (read : Reading) (f : TextFault) → read.header ≡ None → read.fault ≡ Some f
    → unwrap_or (known_verdict read) (accepted read.entries) ≡ Malformed f.line f.rule
without_header read f none at = grind (arith, read)

-- The verdict about a whole input: with a header that of its starting words, its entries and how
-- they stop, and otherwise its fault of text.
pub text_verdict-by_stop : (max : ℕ) (bytes : List ℕ) (h : Header)
    → (reading (input_of max true) bytes).header ≡ Some h
    → text_verdict max bytes ≡ verdict_at (rules_of h) (reading (input_of max true) bytes).starting
    (reading (input_of max true) bytes).entries
    (stop_of (reading (input_of max true) bytes))
unfolding text_verdict
text_verdict-by_stop max bytes h has = by_cases (reading_stops max bytes)
  where
    read : Reading
    read = reading (input_of max true) bytes

    by_cases : TextStops read → unwrap_or (known_verdict read) (accepted read.entries)
        ≡ verdict_at (rules_of h) read.starting read.entries (stop_of read)
    by_cases (headed g is s) = with_header read h has s
    by_cases (headless f none at) = absurd (none_is_some (sym none ∙ has))
      where
        none_is_some : None ≡ Some h → ⊥
        none_is_some e = cc

pub text_verdict-no_header : (max : ℕ) (bytes : List ℕ) (f : TextFault)
    → (reading (input_of max true) bytes).header ≡ None
    → (reading (input_of max true) bytes).fault ≡ Some f → text_verdict max bytes
    ≡ Malformed f.line f.rule
unfolding text_verdict
text_verdict-no_header max bytes f none at = search (without_header, reading, arith)
