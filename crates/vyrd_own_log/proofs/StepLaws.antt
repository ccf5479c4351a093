-- A step over a whole line is what the definition makes of the line.
use Rattle.vyrd_own_log.proofs.Prelude
use Prelude.{◌≡◌, ℕ, ◌+◌, ◌≤◌, Bool, true, false, cond, not, ◌&&◌, ◌||◌, List, [], ◌∷◌, Option}
use Prelude.{Some, None, refl, ap, sym, nat_lt, nat_le, codes, Ok, Err, bytes_eq, SpecificationLine}
use Prelude.{SpecificationRule, Entry, StartWord, Rule, ◌breaks◌, first_broken, end_line}
use Prelude.{start_rule, start_in, TextFault, Input, has_any, after_end_rule, Line, Taken, SoFar}
use Prelude.{nothing_read, unfinished, line_read, ended_with, read_next, own_entry_in, OwnReading}
use Prelude.{own_stopped, own_ended, is_note, own_entry_before, entries_read, own_start_before}
use Prelude.{own_starts_read, line_before, specification_read, own_header_in, isnt_below, Stage}
use Prelude.{Found, LineState, input_to, headed, reads_on, IsFirst, next, broken, header_step}
use Prelude.{specification_step, spelled_step, word_step, own_step, brought_by, with_read}
use Rattle.vyrd_base.specs.declared.header.Header as headers
use Rattle.vyrd_base.specs.declared.own.line.SpecificationLine.TheVariants as told
use Rattle.vyrd_base.specs.declared.own.rule.SpecificationRule.TheVariants as refusals
use Rattle.vyrd_base.specs.declared.verdict.Rule.TheVariants as rules
use Rattle.vyrd_base.specs.Own.Reader as reader
use Rattle.vyrd_own_log.specs.declared.stage.Stage.TheVariants as stages
use Rattle.vyrd_own_log.specs.declared.stage.Found.TheVariants as found

-- What a line is leaves what was read, unless the line was taken in.
abbrev pub Keeps : SoFar → SpecificationLine → SoFar → Type 0
Keeps s told.More t = Unit {0}
Keeps s told.Log t = t ≡ s
Keeps s (told.Refused rule column) t = t ≡ s

pub next_keeps : (s : SoFar) (line : List ℕ) → Keeps s (read_next s line).0 (read_next s line).1
unfolding read_next
next_keeps s line = by_log (bytes_eq line (codes "log")) (nat_le 1000 s.lines)
    (unfinished s.specification.methods) (line_read s.specification s.below line)
  where
    by_log : (log many : Bool) (o : Option SpecificationRule) (t : Taken Line)
        → let r : SpecificationLine × SoFar = cond log (ended_with s o)
        (cond many (told.Refused refusals.TooMany 1, s) (reader.told s line t)) in
        Keeps s r.0 r.1
    by_log true many None t = refl
    by_log true many (Some rule) t = refl
    by_log false true o t = refl
    by_log false false o (Ok says) = tt
    by_log false false o (Err stop) = refl

-- a reader with these parts
abbrev pub state : ℕ → ℕ → Stage → SoFar → Option TextFault → LineState
state m n st s f = record { max_lines = m; line = n; stage = st; said = s; fault = f }

module _ (line nxt : List ℕ) (lines : List (List ℕ)) (w : Bool) where
  -- the definition makes of the line what the step makes of it
  abbrev pub Goes : LineState → LineState × Found → Type 0
  Goes r s = reads_on r (input_to r w) (line ∷ nxt ∷ lines)
      ≡ with_read (brought_by r.line line s.1) (reads_on s.0 (input_to r w) (nxt ∷ lines))

  module _ (m n : ℕ) (s : SoFar) where
    abbrev input : Input
    input = record { max_lines = m; is_whole = w }

    -- a line of the specification
    module _ (h : headers.Header) where
      abbrev r_specification : LineState
      r_specification = state m n (stages.Specification h) s None

      abbrev told_reading : SpecificationLine → SoFar → OwnReading
      told_reading x t = elim x as (λ _. OwnReading) [
        | told.More ↦ line_before line (specification_read input h t (n + 1) (nxt ∷ lines))
        | told.Log ↦ own_starts_read input h s.specification None (n + 1) (nxt ∷ lines)
        | told.Refused rule column ↦ own_stopped n (Some (rules.Specification rule))
      ]

      told_goes : (x : SpecificationLine) (t : SoFar) → Keeps s x t
          → headed h (told_reading x t)
          ≡ with_read (brought_by n line (specification_step r_specification h (x, t)).1)
          (reads_on (specification_step r_specification h (x, t)).0 input (nxt ∷ lines))
      told_goes told.More t keeps = refl
      told_goes told.Log t keeps =
          ap (λ x. headed h (own_starts_read input h x.specification None (n + 1) (nxt ∷ lines)))
          (sym keeps)
      told_goes (told.Refused rule column) t keeps = refl

      specification_tests : (past : Bool)
          → headed h (cond past (own_stopped n (Some rules.TooManyLines))
          (told_reading (read_next s line).0 (read_next s line).1))
          ≡ with_read (brought_by n line
          (cond past (broken r_specification rules.TooManyLines)
          (specification_step r_specification h (read_next s line))).1)
          (reads_on (cond past (broken r_specification rules.TooManyLines)
          (specification_step r_specification h (read_next s line))).0 input (nxt ∷ lines))
      specification_tests true = refl
      specification_tests false = told_goes (read_next s line).0 (read_next s line).1
          (next_keeps s line)

      pub specification_goes : Goes r_specification (own_step r_specification line)
      specification_goes = specification_tests (nat_lt m n)

      -- a line where entries stand, behind starting words or not
      abbrev at_entries : Option (Option StartWord) → Stage
      at_entries None = stages.Entries h
      at_entries (Some last) = stages.Starts h last

      abbrev r_entries : Option (Option StartWord) → LineState
      r_entries k = state m n (at_entries k) s None

      abbrev entry_reading : Bool → Bool → Bool → Option Entry → OwnReading
      entry_reading past note is_end o =
          cond past (own_stopped n (Some rules.TooManyLines))
          (cond note (entries_read input s.specification (n + 1) (nxt ∷ lines))
          (cond is_end (own_ended n (after_end_rule input (n + 1) nxt lines))
          (own_entry_before n o (entries_read input s.specification (n + 1) (nxt ∷ lines)))))

      abbrev entry_tested : LineState → Bool → Bool → Option Entry → LineState × Found
      entry_tested r note is_end o = cond note (next r (stages.Entries h), found.Nothing)
          (cond is_end (next r (stages.End h), found.End) (spelled_step r h o))

      abbrev EntryGoes : LineState → OwnReading → LineState × Found → Type 0
      EntryGoes r reading t = headed h reading ≡ with_read (brought_by n line t.1)
          (reads_on t.0 input (nxt ∷ lines))

      entry_tests : (k : Option (Option StartWord)) (past note is_end : Bool) (o : Option Entry)
          → EntryGoes (r_entries k) (entry_reading past note is_end o)
          (cond past (broken (r_entries k) rules.TooManyLines)
          (entry_tested (r_entries k) note is_end o))
      entry_tests None true note is_end o = refl
      entry_tests (Some last) true note is_end o = refl
      entry_tests None false true is_end o = refl
      entry_tests (Some last) false true is_end o = refl
      entry_tests None false false true o = refl
      entry_tests (Some last) false false true o = refl
      entry_tests None false false false None = refl
      entry_tests (Some last) false false false None = refl
      entry_tests None false false false (Some e) = refl
      entry_tests (Some last) false false false (Some e) = refl

      pub entries_goes : Goes (r_entries None) (own_step (r_entries None) line)
      entries_goes = entry_tests None (nat_lt m n) (is_note line) (bytes_eq line end_line)
          (own_entry_in s.specification line)

      -- a line where starting words may stand
      module _ (last : Option StartWord) where
        abbrev onward : Option StartWord → OwnReading
        onward x = own_starts_read input h s.specification x (n + 1) (nxt ∷ lines)

        abbrev start_reading : Bool → Bool → Bool → Option Entry → Option StartWord → OwnReading
        start_reading past note is_end o None = entry_reading past note is_end o
        start_reading past note is_end o (Some x) =
            cond past (own_stopped n (Some rules.TooManyLines))
            (own_start_before n (start_rule h last x) x (onward (Some x)))

        abbrev start_tested : Bool → Bool → Option Entry → Option StartWord → LineState × Found
        start_tested note is_end o None = entry_tested (r_entries (Some last)) note is_end o
        start_tested note is_end o (Some x) = word_step (r_entries (Some last)) h x
            (start_rule h last x)

        word_goes : (x : StartWord) (rule : Option Rule) → EntryGoes (r_entries (Some last))
            (own_start_before n rule x (onward (Some x)))
            (word_step (r_entries (Some last)) h x rule)
        word_goes x None = refl
        word_goes x (Some rule) = refl

        start_tests : (past note is_end : Bool) (o : Option Entry) (x : Option StartWord)
            → EntryGoes (r_entries (Some last))
            (cond (note && not past) (onward last) (start_reading past note is_end o x))
            (cond past (broken (r_entries (Some last)) rules.TooManyLines)
            (cond note (next (r_entries (Some last)) (stages.Starts h last), found.Nothing)
            (start_tested note is_end o x)))
        start_tests true true is_end o None = refl
        start_tests true true is_end o (Some x) = refl
        start_tests true false is_end o None = refl
        start_tests true false is_end o (Some x) = refl
        start_tests false true is_end o x = refl
        start_tests false false is_end o None = entry_tests (Some last) false false is_end o
        start_tests false false is_end o (Some x) = word_goes x (start_rule h last x)

        pub starts_goes : Goes (r_entries (Some last)) (own_step (r_entries (Some last)) line)
        starts_goes =
            start_tests (nat_lt m n) (is_note line) (bytes_eq line end_line)
            (own_entry_in s.specification line) (start_in line)

      -- a line after the end
      abbrev r_end : LineState
      r_end = state m n (stages.End h) s None

      end_tests : (past b : Bool)
          → headed h (record
          (own_stopped n
          (first_broken (((b || true) && past breaks rules.TooManyLines)
          ∷ ((b || true) breaks rules.AfterEnd) ∷ [])))
          { ended = true })
          ≡ with_read (brought_by n line
          (cond past (broken r_end rules.TooManyLines) (broken r_end rules.AfterEnd)).1)
          (reads_on (cond past (broken r_end rules.TooManyLines) (broken r_end rules.AfterEnd)).0
          input (nxt ∷ lines))
      end_tests true true = refl
      end_tests true false = refl
      end_tests false true = refl
      end_tests false false = refl

      pub end_goes : Goes r_end (own_step r_end line)
      end_goes = end_tests (nat_lt m n) (has_any line)

  -- the first line
  module _ (m : ℕ) where
    abbrev r_header : LineState
    r_header = state m 1 stages.Header nothing_read None

    abbrev header_input : Input
    header_input = record { max_lines = m; is_whole = w }

    header_tests : (past : Bool) → past ≡ false → (o : Option headers.Header)
        → elim o as (λ _. OwnReading) [
          | None ↦ own_stopped 1 (Some rules.BadHeader)
          | Some h ↦ record (specification_read header_input h nothing_read 2
              (nxt ∷ lines)) { header = Some h }
        ]
        ≡ with_read (brought_by 1 line
        (cond past (broken r_header rules.TooManyLines) (header_step r_header o)).1)
        (reads_on (cond past (broken r_header rules.TooManyLines) (header_step r_header o)).0
        header_input (nxt ∷ lines))
    header_tests true e o = cc
    header_tests false e None = refl
    header_tests false e (Some h) = refl

    pub header_goes : 1 ≤ m → Goes r_header (own_step r_header line)
    header_goes low = header_tests (nat_lt m 1) (isnt_below m 1 low) (own_header_in line)

  state_goes : (m n : ℕ) (st : Stage) (s : SoFar) (f : Option TextFault) → 1 ≤ m
      → IsFirst st (state m n st s f)
      → Goes (state m n st s f) (own_step (state m n st s f) line)
  state_goes m n st s (Some f) low first = refl
  state_goes m n stages.Header s None low first = rw first.0 (rw first.1 (header_goes m low))
  state_goes m n (stages.Specification h) s None low first = specification_goes m n s h
  state_goes m n (stages.Starts h last) s None low first = starts_goes m n s h _
  state_goes m n (stages.Entries h) s None low first = entries_goes m n s h
  state_goes m n (stages.End h) s None low first = end_goes m n s h

  pub step_goes : (r : LineState) → 1 ≤ r.max_lines → IsFirst r.stage r → Goes r (own_step r line)
  step_goes r low first = state_goes r.max_lines r.line r.stage r.said r.fault low first
