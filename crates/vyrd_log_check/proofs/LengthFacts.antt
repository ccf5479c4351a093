-- Bytes of a log of versions 1 and 2 without a fault of text are at most 65 for each line that
-- there may be.
use Rattle.vyrd_log_check.proofs.Prelude
use Prelude.{◌≡◌, ℕ, ◌+◌, ◌*◌, ◌<◌, ◌≤◌, Bool, true, false, cond, List, [], ◌∷◌, length, Option}
use Prelude.{Some, None, Result, refl, arith, ◌==◌, nat_lt, slice_split, bytes_eq, Header, Entry}
use Prelude.{StartWord, Rule, TooManyLines, BadHeader, BadEntry, end_line, start_rule, start_in}
use Prelude.{Reading, after_end_rule, reading, so_far, some_parts, not_below_of, no_fault}
use Rattle.std.proofs.Common.{Ok, Err}
use Rattle.vyrd_base.specs.declared.subject.Subject.{Subject}
use Rattle.vyrd_base.specs.Lines.{entry_in, header_in}
use Rattle.vyrd_base.specs.Reading.{stopped, ended, entry_before, lines_read, start_before}
use Rattle.vyrd_base.specs.Reading.{starts_read, body_read, header_before, text_read}
use Rattle.vyrd_base.proofs.LongLines.{long_entry, long_start, long_isnt_end, long_header}
use Rattle.vyrd_check.specs.LogReadings.{read_so_far}
use Rattle.vyrd_log_check.proofs.LineSizes.{no_longer, nothing_after, AreShort, one_line, one_more}
use Rattle.vyrd_log_check.proofs.LineSizes.{last_short, all_short}

-- a line that spells something is short
entry_short : (subject : Subject) (line : List ℕ) (e : Entry) → entry_in subject line ≡ Some e
    → length line ≤ 64
entry_short subject line e is = search (no_longer, long_entry, arith)

pub start_short : (line : List ℕ) (s : StartWord) → start_in line ≡ Some s → length line ≤ 64
start_short line s is = no_longer 64 line (λ long. let none = long_start line long in cc)

header_short : (line : List ℕ) (h : Header) → header_in line ≡ Ok h → length line ≤ 64
header_short line h is = no_longer 64 line (λ long. let bad = long_header line long in cc)

pub end_short : (line : List ℕ) → bytes_eq line end_line ≡ true → length line ≤ 64
end_short line is = no_longer 64 line (λ long. let isnt = long_isnt_end line long in cc)

module _ (max : ℕ) where
  -- lines where entries stand
  lines_short : (subject : Subject) (n : ℕ) (line : List ℕ) (lines : List (List ℕ))
      → (lines_read (so_far max) subject n (line ∷ lines)).fault ≡ None
      → AreShort 64 max n (line ∷ lines)
  lines_short subject n rest [] e = last_short 64 max n BadEntry rest (no_fault n _ e)
  lines_short subject n line (next ∷ lines) e = by_tests (lines_short subject (n + 1) next lines)
      (nat_lt max n) (bytes_eq line end_line) refl refl e
    where
      after : Reading
      after = lines_read (so_far max) subject (n + 1) (next ∷ lines)

      Onward : Type 0
      Onward = after.fault ≡ None → AreShort 64 max (n + 1) (next ∷ lines)

      by_entry : Onward → n ≤ max → (o : Option Entry) → entry_in subject line ≡ o
          → (entry_before n o after).fault ≡ None → AreShort 64 max n (line ∷ next ∷ lines)
      by_entry onward low None is f = cc
      by_entry onward low (Some entry) is f = search (one_line, entry_short, arith)

      by_tests : Onward → (past is_end : Bool) → nat_lt max n ≡ past
          → bytes_eq line end_line ≡ is_end
          → (cond past (stopped n (Some TooManyLines)) (cond is_end
          (ended (n + 1) (after_end_rule (so_far max) (n + 1) next lines))
          (entry_before n (entry_in subject line) after))).fault ≡ None
          → AreShort 64 max n (line ∷ next ∷ lines)
      by_tests onward true is_end p q f = cc
      by_tests onward false true p q f = search
          (one_more, not_below_of, end_short, nothing_after, no_fault, arith)
      by_tests onward false false p q f = by_entry onward (not_below_of max n p)
          (entry_in subject line) refl f

  -- lines where starting words may stand
  starts_short : (h : Header) (last : Option StartWord) (n : ℕ) (line : List ℕ)
      (lines : List (List ℕ)) → (starts_read (so_far max) h last n (line ∷ lines)).fault ≡ None
      → AreShort 64 max n (line ∷ lines)
  starts_short h last n rest [] e = last_short 64 max n BadEntry rest (no_fault n _ e)
  starts_short h last n line (next ∷ lines) e = by_start
      (λ s f. starts_short h (Some s) (n + 1) next lines f) (start_in line) refl e
    where
      after : StartWord → Reading
      after s = starts_read (so_far max) h (Some s) (n + 1) (next ∷ lines)

      Onward : Type 0
      Onward = (s : StartWord) → (after s).fault ≡ None → AreShort 64 max (n + 1) (next ∷ lines)

      by_rule : Onward → n ≤ max → (s : StartWord) → start_in line ≡ Some s
          → (rule : Option Rule) → (start_before n rule s (after s)).fault ≡ None
          → AreShort 64 max n (line ∷ next ∷ lines)
      by_rule onward low s is (Some rule) f = cc
      by_rule onward low s is None f = search (one_line, start_short, arith)

      by_limit : Onward → (s : StartWord) → start_in line ≡ Some s → (past : Bool)
          → nat_lt max n ≡ past
          → (cond past (stopped n (Some TooManyLines))
          (start_before n (start_rule h last s) s (after s))).fault ≡ None
          → AreShort 64 max n (line ∷ next ∷ lines)
      by_limit onward s is true p f = cc
      by_limit onward s is false p f = by_rule onward (not_below_of max n p) s is
          (start_rule h last s) f

      by_start : Onward → (o : Option StartWord) → start_in line ≡ o
          → (elim o as (λ _. Reading) [
            | None ↦ lines_read (so_far max) h.subject n (line ∷ next ∷ lines)
            | Some s ↦ cond (nat_lt max n) (stopped n (Some TooManyLines))
                (start_before n (start_rule h last s) s (after s))
          ]).fault ≡ None
          → AreShort 64 max n (line ∷ next ∷ lines)
      by_start onward None is f = lines_short h.subject n line (next ∷ lines) f
      by_start onward (Some s) is f = by_limit onward s is (nat_lt max n) refl f

  -- the lines after the header, in either version
  body_short : (h : Header) (line : List ℕ) (lines : List (List ℕ))
      → (body_read (so_far max) h (line ∷ lines)).fault ≡ None → AreShort 64 max 2 (line ∷ lines)
  body_short h line lines e = search (starts_short, lines_short, arith)

  -- all lines
  parts_short : (parts : List (List ℕ)) → 1 ≤ max → 0 < length parts
      → (text_read (so_far max) parts).fault ≡ None → AreShort 64 max 1 parts
  parts_short [] low some e = absurd (omega arith)
  parts_short (rest ∷ []) low some e = last_short 64 max 1 BadHeader rest (no_fault 1 _ e)
  parts_short (line ∷ next ∷ lines) low some e = by_header (header_in line) refl e
    where
      by_header : (r : Result Header Rule) → header_in line ≡ r
          → (elim r as (λ _. Reading) [
            | Ok h ↦ header_before h (body_read (so_far max) h (next ∷ lines))
            | Err rule ↦ stopped 1 (Some rule)
          ]).fault ≡ None
          → AreShort 64 max 1 (line ∷ next ∷ lines)
      by_header (Ok h) is f = search (one_line, header_short, body_short, arith)
      by_header (Err rule) is f = cc

  -- the text
  pub bytes_short : (bytes : List ℕ) → 1 ≤ max → (read_so_far max bytes).fault ≡ None
      → length bytes ≤ 65 * max
  unfolding reading
  bytes_short bytes low e = all_short 64 max bytes
      (parts_short (slice_split (λ b. b == 10) bytes) low (some_parts (λ b. b == 10) bytes) e)
