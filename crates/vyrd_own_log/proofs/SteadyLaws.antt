-- What stays true of a reader over a whole line.
use Rattle.vyrd_own_log.proofs.Prelude
use Prelude.{◌≡◌, ℕ, ◌+◌, ◌≤◌, Bool, true, false, cond, List, [], Option, Some, None, refl, ap, sym}
use Prelude.{◌∙◌, arith, nat_lt, is_some, bytes_eq, SpecificationLine, Entry, StartWord, Rule}
use Prelude.{end_line, start_rule, start_in, SoFar, read_next, read_lines, own_entry_in, is_note}
use Prelude.{own_header_in, not_below_of, Stage, Found, are_callable, LineState, IsFirst, IsSteady}
use Prelude.{next, broken, header_step, specification_step, spelled_step, entry_step, word_step}
use Prelude.{start_step, starts_step, stage_step, own_step, lines_of}
use Rattle.vyrd_base.specs.declared.header.Header as headers
use Rattle.vyrd_base.specs.declared.own.line.SpecificationLine.TheVariants as told
use Rattle.vyrd_base.specs.declared.verdict.Rule.TheVariants as rules
use Rattle.vyrd_own_log.specs.declared.stage.Stage.TheVariants as stages
use Rattle.vyrd_own_log.specs.declared.stage.Found.TheVariants as found
use Rattle.vyrd_own_log.proofs.StepLaws.{Keeps, next_keeps}
use Rattle.vyrd_own_log.proofs.CallableLaws.{next_callable}

-- a step leaves a steady reader with the same limit, and what it read of the specification is the
-- line that it brought
pub record IsStep (r : LineState) (line : List ℕ) (s : LineState × Found) : Type 0 where
  pub limit : s.0.max_lines ≡ r.max_lines
  pub steady : IsSteady s.0
  pub first : IsFirst r.stage r → IsFirst s.0.stage s.0
  pub said : s.0.said ≡ read_lines r.said (lines_of line s.1)

module _ (r : LineState) (line : List ℕ) (steady : IsSteady r) where
  unchanged : IsStep r line (r, found.Nothing)
  unchanged = record { limit = refl; steady = steady; first = λ f. f; said = refl }

  broken_is : (rule : Rule) → IsStep r line (broken r rule)
  broken_is rule = search (broken, arith)

  module _ (within : r.line ≤ r.max_lines) where
    counted : r.line + 1 ≤ r.max_lines + 1
    counted = omega (arith, within)

    header_is : (o : Option headers.Header) → IsStep r line (header_step r o)
    header_is None = broken_is rules.BadHeader
    header_is (Some h) = record {
      limit = refl;
      steady = record {
        low = steady.low;
        high = steady.high;
        counted = counted;
        callable = steady.callable;
      };
      first = λ f. tt;
      said = refl;
    }

    specification_is : (h : headers.Header)
        → IsStep r line (specification_step r h (read_next r.said line))
    specification_is h =
        by_told (read_next r.said line).0 (read_next r.said line).1 refl (next_keeps r.said line)
        (next_callable r.said line steady.callable)
      where
        first_of : (t : SoFar) → t ≡ r.said → (st : Stage) → IsFirst st r
            → IsFirst st (record r { said = t })
        first_of t same stages.Header f = (f.0, same ∙ f.1)
        first_of t same (stages.Specification k) f = tt
        first_of t same (stages.Starts k last) f = tt
        first_of t same (stages.Entries k) f = tt
        first_of t same (stages.End k) f = tt

        by_told : (x : SpecificationLine) (t : SoFar) → t ≡ (read_next r.said line).1
            → Keeps r.said x t
            → are_callable t.specification.methods ≡ true
            → IsStep r line (specification_step r h (x, t))
        by_told told.More t is keeps all = record {
          limit = refl;
          steady = record {
            low = steady.low;
            high = steady.high;
            counted = counted;
            callable = all;
          };
          first = λ f. tt;
          said = is;
        }
        by_told told.Log t is keeps all = record {
          limit = refl;
          steady = record {
            low = steady.low;
            high = steady.high;
            counted = counted;
            callable = all;
          };
          first = λ f. tt;
          said = keeps;
        }
        by_told (told.Refused rule column) t is keeps all = record {
          limit = refl;
          steady = record {
            low = steady.low;
            high = steady.high;
            counted = steady.counted;
            callable = all;
          };
          first = λ f. first_fault r.stage (first_of t keeps r.stage f);
          said = keeps;
        }
          where
            first_fault : (st : Stage) → IsFirst st (record r { said = t })
                → IsFirst st (broken (record r { said = t }) (rules.Specification rule)).0
            first_fault stages.Header f = f
            first_fault (stages.Specification k) f = tt
            first_fault (stages.Starts k last) f = tt
            first_fault (stages.Entries k) f = tt
            first_fault (stages.End k) f = tt

    -- to a later line, with what it brings that is no line of the specification
    later_is : (st : Stage) (x : Found) → IsFirst st (next r st) → lines_of line x ≡ []
        → IsStep r line (next r st, x)
    later_is st x first none = record {
      limit = refl;
      steady = record {
        low = steady.low;
        high = steady.high;
        counted = counted;
        callable = steady.callable;
      };
      first = λ f. first;
      said = ap (read_lines r.said) (sym none);
    }

    pub entry_is : (h : headers.Header) → IsStep r line (entry_step r h line)
    entry_is h = by_tests (is_note line) (bytes_eq line end_line)
        (own_entry_in r.said.specification line)
      where
        by_tests : (note is_end : Bool) (o : Option Entry)
            → IsStep r line
            (cond note (next r (stages.Entries h), found.Nothing)
            (cond is_end (next r (stages.End h), found.End) (spelled_step r h o)))
        by_tests true is_end o = later_is (stages.Entries h) found.Nothing tt refl
        by_tests false true o = later_is (stages.End h) found.End tt refl
        by_tests false false None = broken_is rules.BadEntry
        by_tests false false (Some e) = later_is (stages.Entries h) (found.Entry e) tt refl

    pub starts_is : (h : headers.Header) (last : Option StartWord)
        → IsStep r line (starts_step r h last line)
    starts_is h last = by_tests (is_note line) (start_in line)
      where
        by_rule : (s : StartWord) (o : Option Rule) → IsStep r line (word_step r h s o)
        by_rule s None = later_is (stages.Starts h (Some s)) (found.Start s) tt refl
        by_rule s (Some rule) = broken_is rule

        by_tests : (note : Bool) (o : Option StartWord)
            → IsStep r line
            (cond note (next r (stages.Starts h last), found.Nothing) (start_step r h last line o))
        by_tests true o = later_is (stages.Starts h last) found.Nothing tt refl
        by_tests false None = entry_is h
        by_tests false (Some s) = by_rule s (start_rule h last s)

    stage_is : (st : Stage) → IsStep r line (stage_step r st line)
    stage_is stages.Header = header_is (own_header_in line)
    stage_is (stages.Specification h) = specification_is h
    stage_is (stages.Starts h last) = starts_is h last
    stage_is (stages.Entries h) = entry_is h
    stage_is (stages.End h) = broken_is rules.AfterEnd

  pub step_is : IsStep r line (own_step r line)
  step_is = by_tests (is_some r.fault) (nat_lt r.max_lines r.line) refl
    where
      by_tests : (faulty past : Bool) → nat_lt r.max_lines r.line ≡ past
          → IsStep r line
          (cond faulty (r, found.Nothing)
          (cond past (broken r rules.TooManyLines) (stage_step r r.stage line)))
      by_tests true past e = unchanged
      by_tests false true e = broken_is rules.TooManyLines
      by_tests false false e = stage_is (not_below_of r.max_lines r.line e) r.stage
