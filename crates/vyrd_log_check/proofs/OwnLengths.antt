-- Bytes of a log of version 3 without a fault of text are at most 201 for each line that there may
-- be.
use Rattle.vyrd_log_check.proofs.Prelude
use Prelude.{◌≡◌, ℕ, ◌+◌, ◌*◌, ◌<◌, ◌≤◌, Bool, true, false, cond, ◌&&◌, List, [], ◌∷◌, length}
use Prelude.{Option, Some, None, refl, arith, ◌==◌, nat_le, nat_lt, not, slice_split, bytes_eq}
use Prelude.{Header, Entry, StartWord, Rule, TooManyLines, BadHeader, BadEntry, end_line}
use Prelude.{start_rule, start_in, after_end_rule, own_entry_in, so_far, some_parts, first_true}
use Prelude.{second_true, not_below_of, no_fault, read_so_far}
use Rattle.vyrd_base.specs.declared.own.line.SpecificationLine.{SpecificationLine}
use Rattle.vyrd_base.specs.declared.own.line.SpecificationLine.TheVariants as said
use Rattle.vyrd_base.specs.declared.verdict.Rule.TheVariants.{Specification}
use Rattle.vyrd_base.specs.Own.Programs.{Written}
use Rattle.vyrd_base.specs.Own.Reader.{SoFar, nothing_read, read_next}
use Rattle.vyrd_base.specs.Own.Log.{OwnReading, own_stopped, own_ended, is_note, own_entry_before}
use Rattle.vyrd_base.specs.Own.Log.{entries_read, own_start_before, own_starts_read, line_before}
use Rattle.vyrd_base.specs.Own.Log.{specification_read, own_header_in, own_text_read, own_reading}
use Rattle.vyrd_own_log.specs.Callable.{are_callable}
use Rattle.vyrd_own_log.proofs.EntryLaws.{AllCallable}
use Rattle.vyrd_own_log.proofs.CallableLaws.{next_callable}
use Rattle.vyrd_own_log.proofs.LongLaws.{long_entry, long_header, long_next, long_note}
use Rattle.vyrd_log_check.proofs.LineSizes.{no_longer, nothing_after, AreShort, one_line, one_more}
use Rattle.vyrd_log_check.proofs.LineSizes.{last_short, all_short}
use Rattle.vyrd_log_check.proofs.LengthFacts.{start_short, end_short}

-- a line that spells something is short
entry_short : (w : Written) (line : List ℕ) (e : Entry) → AllCallable w
    → own_entry_in w line ≡ Some e → length line ≤ 200
entry_short w line e all is = search (no_longer, long_entry, arith)

header_short : (line : List ℕ) (h : Header) → own_header_in line ≡ Some h → length line ≤ 200
header_short line h is = no_longer 200 line (λ long. let none = long_header line long in cc)

note_short : (line : List ℕ) → is_note line ≡ true → length line ≤ 200
note_short line is = no_longer 200 line (λ long. let isnt = long_note line long in cc)

-- and so is a line of the specification that is read
next_short : (s : SoFar) (line : List ℕ) → (read_next s line).0 ≡ said.More → length line ≤ 200
next_short s line is = no_longer 200 line (λ long. let refused = long_next line long s in cc)

log_short : (s : SoFar) (line : List ℕ) → (read_next s line).0 ≡ said.Log → length line ≤ 200
log_short s line is = no_longer 200 line (λ long. let refused = long_next line long s in cc)

module _ (max : ℕ) where
  -- lines where entries stand
  entries_short : (w : Written) → AllCallable w → (n : ℕ) (line : List ℕ) (lines : List (List ℕ))
      → (entries_read (so_far max) w n (line ∷ lines)).fault ≡ None
      → AreShort 200 max n (line ∷ lines)
  entries_short w all n rest [] e = last_short 200 max n BadEntry rest (no_fault n _ e)
  entries_short w all n line (next ∷ lines) e = by_tests (entries_short w all (n + 1) next lines)
      (nat_lt max n) (is_note line) (bytes_eq line end_line) refl refl refl e
    where
      after : OwnReading
      after = entries_read (so_far max) w (n + 1) (next ∷ lines)

      Onward : Type 0
      Onward = after.fault ≡ None → AreShort 200 max (n + 1) (next ∷ lines)

      by_entry : Onward → n ≤ max → (o : Option Entry) → own_entry_in w line ≡ o
          → (own_entry_before n o after).fault ≡ None → AreShort 200 max n (line ∷ next ∷ lines)
      by_entry onward low None is f = cc
      by_entry onward low (Some entry) is f = search (one_line, entry_short, arith)

      by_tests : Onward → (past note is_end : Bool) → nat_lt max n ≡ past → is_note line ≡ note
          → bytes_eq line end_line ≡ is_end
          → (cond past (own_stopped n (Some TooManyLines)) (cond note after (cond is_end
          (own_ended n (after_end_rule (so_far max) (n + 1) next lines))
          (own_entry_before n (own_entry_in w line) after)))).fault ≡ None
          → AreShort 200 max n (line ∷ next ∷ lines)
      by_tests onward true note is_end p m q f = cc
      by_tests onward false true is_end p m q f = search (one_line, not_below_of, note_short, arith)
      by_tests onward false false true p m q f = one_more 200 max n line (next ∷ lines)
          (not_below_of max n p) (omega (arith, end_short line q))
          (nothing_after max (n + 1) next lines (no_fault (n + 1) _ f))
      by_tests onward false false false p m q f = by_entry onward (not_below_of max n p)
          (own_entry_in w line) refl f

  -- lines where starting words may stand
  starts_short : (h : Header) (w : Written) → AllCallable w → (last : Option StartWord) (n : ℕ)
      (line : List ℕ) (lines : List (List ℕ))
      → (own_starts_read (so_far max) h w last n (line ∷ lines)).fault ≡ None
      → AreShort 200 max n (line ∷ lines)
  starts_short h w all last n rest [] e = last_short 200 max n BadEntry rest (no_fault n _ e)
  starts_short h w all last n line (next ∷ lines) e =
      by_note (λ l f. starts_short h w all l (n + 1) next lines f)
      (is_note line && not (nat_lt max n)) refl e
    where
      after : Option StartWord → OwnReading
      after l = own_starts_read (so_far max) h w l (n + 1) (next ∷ lines)

      Onward : Type 0
      Onward = (l : Option StartWord) → (after l).fault ≡ None
          → AreShort 200 max (n + 1) (next ∷ lines)

      by_rule : Onward → n ≤ max → (s : StartWord) → start_in line ≡ Some s
          → (rule : Option Rule) → (own_start_before n rule s (after (Some s))).fault ≡ None
          → AreShort 200 max n (line ∷ next ∷ lines)
      by_rule onward low s is (Some rule) f = cc
      by_rule onward low s is None f = one_line 200 max n line (next ∷ lines) low
          (omega (arith, start_short line s is)) (onward (Some s) f)

      by_limit : Onward → (s : StartWord) → start_in line ≡ Some s → (past : Bool)
          → nat_lt max n ≡ past
          → (cond past (own_stopped n (Some TooManyLines))
          (own_start_before n (start_rule h last s) s (after (Some s)))).fault ≡ None
          → AreShort 200 max n (line ∷ next ∷ lines)
      by_limit onward s is true p f = cc
      by_limit onward s is false p f =
          by_rule onward (not_below_of max n p) s is (start_rule h last s) f

      by_start : Onward → (o : Option StartWord) → start_in line ≡ o
          → (elim o as (λ _. OwnReading) [
            | None ↦ entries_read (so_far max) w n (line ∷ next ∷ lines)
            | Some s ↦ cond (nat_lt max n) (own_stopped n (Some TooManyLines))
                (own_start_before n (start_rule h last s) s (after (Some s)))
          ]).fault ≡ None
          → AreShort 200 max n (line ∷ next ∷ lines)
      by_start onward None is f = entries_short w all n line (next ∷ lines) f
      by_start onward (Some s) is f = by_limit onward s is (nat_lt max n) refl f

      within : (past : Bool) → nat_lt max n ≡ past → not past ≡ true → n ≤ max
      within past p e' = search (not_below_of, arith)

      by_note : Onward → (b : Bool) → (is_note line && not (nat_lt max n)) ≡ b
          → (cond b (after last) (elim (start_in line) as (λ _. OwnReading) [
            | None ↦ entries_read (so_far max) w n (line ∷ next ∷ lines)
            | Some s ↦ cond (nat_lt max n) (own_stopped n (Some TooManyLines))
                (own_start_before n (start_rule h last s) s (after (Some s)))
          ])).fault ≡ None
          → AreShort 200 max n (line ∷ next ∷ lines)
      by_note onward true m f = one_line 200 max n line (next ∷ lines)
          (within (nat_lt max n) refl (second_true (is_note line) _ m))
          (note_short line (first_true (is_note line) _ m)) (onward last f)
      by_note onward false m f = by_start onward (start_in line) refl f

  -- lines where the specification stands
  specification_short : (h : Header) (s : SoFar) → are_callable s.specification.methods ≡ true
      → (n : ℕ) (line : List ℕ) (lines : List (List ℕ))
      → (specification_read (so_far max) h s n (line ∷ lines)).fault ≡ None
      → AreShort 200 max n (line ∷ lines)
  specification_short h s all n rest [] e = search (last_short, no_fault, arith)
  specification_short h s all n line (next ∷ lines) e = by_limit
      (specification_short h (read_next s line).1 (next_callable s line all) (n + 1) next lines)
      (nat_lt max n) refl e
    where
      after : OwnReading
      after = specification_read (so_far max) h (read_next s line).1 (n + 1) (next ∷ lines)

      Onward : Type 0
      Onward = after.fault ≡ None → AreShort 200 max (n + 1) (next ∷ lines)

      read_as : SpecificationLine → OwnReading
      read_as says =
          elim says as (λ _. OwnReading) [
            | said.More ↦ line_before line after
            | said.Log ↦
                own_starts_read (so_far max) h s.specification None (n + 1) (next ∷ lines)
            | said.Refused rule column ↦ own_stopped n (Some (Specification rule))
          ]

      callable : AllCallable s.specification
      callable = second_true (nat_le (length s.specification.methods) 64) _ all

      by_line : Onward → n ≤ max → (says : SpecificationLine) → (read_next s line).0 ≡ says
          → (read_as says).fault ≡ None → AreShort 200 max n (line ∷ next ∷ lines)
      by_line onward low said.More is f = search (one_line, next_short, arith)
      by_line onward low said.Log is f = one_line 200 max n line (next ∷ lines) low
          (log_short s line is) (starts_short h s.specification callable None (n + 1) next lines f)
      by_line onward low (said.Refused rule column) is f = cc

      by_limit : Onward → (past : Bool) → nat_lt max n ≡ past
          → (cond past (own_stopped n (Some TooManyLines))
          (read_as (read_next s line).0)).fault ≡ None
          → AreShort 200 max n (line ∷ next ∷ lines)
      by_limit onward true p f = cc
      by_limit onward false p f = by_line onward (not_below_of max n p) (read_next s line).0 refl f

  -- all lines
  parts_short : (parts : List (List ℕ)) → 1 ≤ max → 0 < length parts
      → (own_text_read (so_far max) parts).fault ≡ None → AreShort 200 max 1 parts
  parts_short [] low some e = absurd (omega arith)
  parts_short (rest ∷ []) low some e = last_short 200 max 1 BadHeader rest (no_fault 1 _ e)
  parts_short (line ∷ next ∷ lines) low some e = by_header (own_header_in line) refl e
    where
      body : Header → OwnReading
      body h = specification_read (so_far max) h nothing_read 2 (next ∷ lines)

      by_header : (o : Option Header) → own_header_in line ≡ o
          → (elim o as (λ _. OwnReading) [
            | None ↦ own_stopped 1 (Some BadHeader)
            | Some h ↦ record (body h) { header = Some h }
          ]).fault ≡ None
          → AreShort 200 max 1 (line ∷ next ∷ lines)
      by_header (Some h) is f = one_line 200 max 1 line (next ∷ lines) low (header_short line h is)
          (specification_short h nothing_read refl 2 next lines f)
      by_header None is f = cc

  -- the text
  pub own_bytes_short : (bytes : List ℕ) → 1 ≤ max → (read_so_far max bytes).fault ≡ None
      → length bytes ≤ 201 * max
  unfolding own_reading
  own_bytes_short bytes low e = all_short 200 max bytes
      (parts_short (slice_split (λ b. b == 10) bytes) low (some_parts (λ b. b == 10) bytes) e)
