-- What whole lines bring, counted.
use Rattle.vyrd_own_log.proofs.Prelude
use Prelude.{◌≡◌, ℕ, ◌+◌, ◌≤◌, Bool, true, false, cond, List, [], ◌∷◌, ◌++◌, length, Option, Some}
use Prelude.{None, refl, arith, length-append, nat_lt, is_some, SpecificationLine, Entry, StartWord}
use Prelude.{Rule, start_rule, start_in, has_any, SoFar, read_next, is_note, own_header_in, Stage}
use Prelude.{Found, LineState, has_ended, next, broken, header_step, specification_step, entry_step}
use Prelude.{word_step, start_step, starts_step, stage_step, own_step, Brought, nothing_brought}
use Prelude.{brought_then, brought_by, starts_of, entries_of, numbers_of, ends}
use Rattle.vyrd_base.specs.declared.header.Header as headers
use Rattle.vyrd_base.specs.declared.verdict.Rule.TheVariants as rules
use Rattle.vyrd_own_log.specs.declared.stage.Stage.TheVariants as stages
use Rattle.vyrd_own_log.specs.declared.stage.Found.TheVariants as found
use Rattle.vyrd_own_log.proofs.ReaderLaws.{and_nothing}

-- whether no starting word comes any more
abbrev pub is_past : Stage → Bool
is_past stages.Header = false
is_past (stages.Specification h) = false
is_past (stages.Starts h last) = false
is_past (stages.Entries h) = true
is_past (stages.End h) = true

-- what lines have brought to a reader
pub record IsCounted (r : LineState) (b : Brought) : Type 0 where
  pub past : has_any b.entries ≡ true → is_past r.stage ≡ true
  pub numbered : length b.numbers ≡ length b.starting + length b.entries + ends (has_ended r.stage)
  pub few : length b.numbers + 1 ≤ r.line

-- what one line brings to a reader at this stage and on this line
record Counts (st : Stage) (n : ℕ) (s : LineState × Found) : Type 0 where
  past : is_past st ≡ true → is_past s.0.stage ≡ true
  begun : has_any (entries_of s.1) ≡ true → is_past s.0.stage ≡ true
  numbered : length (numbers_of n s.1) + ends (has_ended st)
      ≡ length (starts_of s.1) + length (entries_of s.1) + ends (has_ended s.0.stage)
  few : length (numbers_of n s.1) + n ≤ s.0.line

-- nothing, where nothing moves
left : (st : Stage) (n : ℕ) (t : LineState) → t.stage ≡ st → t.line ≡ n
    → Counts st n (t, found.Nothing)
left st n t same here = grind arith

-- something, and the next line
moved : (st to : Stage) (n : ℕ) (x : Found) (t : LineState) → t.stage ≡ to → t.line ≡ n + 1
    → (is_past st ≡ true → is_past to ≡ true)
    → (has_any (entries_of x) ≡ true → is_past to ≡ true)
    → length (numbers_of n x) + ends (has_ended st) ≡ length (starts_of x) + length (entries_of x)
    + ends (has_ended to)
    → length (numbers_of n x) ≤ 1 → Counts st n (t, x)
moved st to n x t same here past begun numbered one = grind arith

module _ (r : LineState) (line : List ℕ) where
  broken_counts : (st : Stage) (rule : Rule) → r.stage ≡ st → Counts st r.line (broken r rule)
  broken_counts st rule e = left st r.line (broken r rule).0 e refl

  header_counts : (o : Option headers.Header) → r.stage ≡ stages.Header
      → Counts stages.Header r.line (header_step r o)
  header_counts o e = search (broken_counts, moved, arith)

  specification_counts : (h : headers.Header) (x : SpecificationLine) (t : SoFar) → r.stage
      ≡ stages.Specification h
      → Counts (stages.Specification h) r.line (specification_step r h (x, t))
  specification_counts h x t e = search (moved, left, broken, arith)

  entry_counts : (st : Stage) (h : headers.Header) → r.stage ≡ st → has_ended st ≡ false
      → Counts st r.line (entry_step r h line)
  entry_counts st h e open_yet = search (ends, moved, broken_counts, arith)

  starts_count : (h : headers.Header) (last : Option StartWord) → r.stage ≡ stages.Starts h last
      → Counts (stages.Starts h last) r.line (starts_step r h last line)
  starts_count h last e = by_tests (is_note line) (start_in line)
    where
      by_rule : (s : StartWord) (o : Option Rule) → Counts (stages.Starts h last) r.line
          (word_step r h s o)
      by_rule s None = search (moved, arith)
      by_rule s (Some rule) = broken_counts (stages.Starts h last) rule e

      by_tests : (note : Bool) (o : Option StartWord)
          → Counts (stages.Starts h last) r.line
          (cond note (next r (stages.Starts h last), found.Nothing) (start_step r h last line o))
      by_tests true o = search (moved, arith)
      by_tests false None = entry_counts (stages.Starts h last) h e refl
      by_tests false (Some s) = by_rule s (start_rule h last s)

  stage_counts : (st : Stage) → r.stage ≡ st → Counts st r.line (stage_step r st line)
  stage_counts stages.Header e = header_counts (own_header_in line) e
  stage_counts (stages.Specification h) e = search (specification_counts, read_next, arith)
  stage_counts (stages.Starts h last) e = starts_count h _ e
  stage_counts (stages.Entries h) e = entry_counts _ h e refl
  stage_counts (stages.End h) e = broken_counts _ _ e

  step_counts : Counts r.stage r.line (own_step r line)
  step_counts = by_tests (is_some r.fault) (nat_lt r.max_lines r.line)
    where
      by_tests : (faulty past : Bool)
          → Counts r.stage r.line
          (cond faulty (r, found.Nothing)
          (cond past (broken r rules.TooManyLines) (stage_step r r.stage line)))
      by_tests true past = left r.stage r.line r refl refl
      by_tests false true = broken_counts r.stage rules.TooManyLines refl
      by_tests false false = stage_counts r.stage refl

  pub line_counted : (b : Brought) → IsCounted r b
      → IsCounted (own_step r line).0 (brought_then b (brought_by r.line line (own_step r line).1))
  line_counted b counted =
      let x : Found = (own_step r line).1 in
      let one : Counts r.stage r.line (own_step r line) = step_counts in
      let numbers = length-append b.numbers (numbers_of r.line x) in
      let starting = length-append b.starting (starts_of x) in
      let entries = length-append b.entries (entries_of x) in record {
        past = by_entries b.entries counted.past;
        numbered = omega (arith, numbers, starting, entries, counted.numbered, one.numbered);
        few = omega (arith, numbers, counted.few, one.few);
      }
    where
      by_entries : (es : List Entry) → (has_any es ≡ true → is_past r.stage ≡ true)
          → has_any (es ++ entries_of (own_step r line).1) ≡ true
          → is_past (own_step r line).0.stage ≡ true
      by_entries [] past e = step_counts.begun e
      by_entries (y ∷ es) past e = step_counts.past (past refl)

-- bytes that bring nothing
pub same_counted : (r n : LineState) (b : Brought) → n.stage ≡ r.stage → n.line ≡ r.line
    → IsCounted r b
    → IsCounted n (brought_then b nothing_brought)
same_counted r n b stage line counted = grind (arith, and_nothing b, counted.numbered, counted.few)
