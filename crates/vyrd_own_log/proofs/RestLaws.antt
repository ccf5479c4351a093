-- What the bytes after the last line feed are to a reader.
use Rattle.vyrd_own_log.proofs.Prelude
use Prelude.{◌≡◌, ℕ, ◌<◌, Bool, true, false, cond, ◌&&◌, ◌||◌, List, [], ◌∷◌, ◌++◌, length, Option}
use Prelude.{Some, None, refl, ap, ◌∙◌, arith, length-append, nat_lt, and-false, Rule, TooManyLines}
use Prelude.{◌breaks◌, first_broken, has_any, fault_on, is_below, below_of, Stage, LineState}
use Prelude.{input_to, has_ended, lines_on, known, IsFirst, broken, header_step, specification_step}
use Prelude.{entry_step, stage_step, own_step, rest_if, rest_rule, end_fault}
use Rattle.vyrd_base.specs.declared.verdict.Rule.TheVariants.{AfterEnd, BadEntry, NoLineFeed, NoEnd}
use Rattle.vyrd_base.proofs.LongLines.{long_start, long_isnt_end}
use Rattle.vyrd_own_log.specs.declared.stage.Stage.TheVariants.{Header, Specification, Starts}
use Rattle.vyrd_own_log.specs.declared.stage.Stage.TheVariants.{Entries, End}
use Rattle.vyrd_base.specs.declared.header.Header as headers
use Rattle.vyrd_own_log.specs.Rests.{bad_at}
use Rattle.vyrd_own_log.proofs.EntryLaws.{AllCallable}
use Rattle.vyrd_own_log.proofs.LongLaws.{long_entry, long_header, long_next, long_note}

-- what a line of more than 200 bytes is
module _ (r : LineState) (line : List ℕ) (long : 200 < length line)
    (all : AllCallable r.said.specification) where
  more_than : 64 < length line
  more_than = omega (arith, long)

  long_step : (st : Stage) → has_ended st ≡ false → stage_step r st line
      ≡ broken r (bad_at r.said st)
  long_step Header e = ap (header_step r) (long_header line long)
  long_step (Specification h) e = ap (specification_step r h) (long_next line long r.said)
  long_step (Starts h last) e = cc (long_note line long, long_start line more_than, entries h)
    where
      entries : (h : headers.Header) → entry_step r h line ≡ broken r BadEntry
      entries h = search (long_note, long_isnt_end, more_than, long_entry, arith)
  long_step (Entries h) e = search (long_note, long_isnt_end, more_than, long_entry, arith)
  long_step (End h) e = cc

-- a rule that the beginning of a line breaks is the one that the line breaks
module _ (r : LineState) (rest more : List ℕ) (rule : Rule) (all : AllCallable r.said.specification)
    (fine : r.fault ≡ None) where
  pub rest_step : rest_rule r rest ≡ Some rule → own_step r (rest ++ more) ≡ broken r rule
  rest_step is = cc (by_past (nat_lt r.max_lines r.line) is)
    where
      long : nat_lt 200 (length rest) ≡ true → 200 < length (rest ++ more)
      long e = let h = below_of 200 (length rest) e in omega (arith, h, length-append rest more)

      by_long : (b : Bool) → nat_lt 200 (length rest) ≡ b → (st : Stage) → has_ended st ≡ false
          → cond b (Some (bad_at r.said st)) None ≡ Some rule → stage_step r st (rest ++ more)
          ≡ broken r rule
      by_long true e st going f =
          let same : bad_at r.said st ≡ rule = cc in
          long_step r (rest ++ more) (long e) all st going ∙ ap (broken r) same
      by_long false e st going f = cc

      by_stage : (st : Stage) → cond (has_ended st && has_any rest) (Some AfterEnd)
          (cond (nat_lt 200 (length rest)) (Some (bad_at r.said st)) None) ≡ Some rule
          → stage_step r st (rest ++ more) ≡ broken r rule
      by_stage Header f = by_long (nat_lt 200 (length rest)) refl Header refl f
      by_stage (Specification h) f = by_long (nat_lt 200 (length rest)) refl (Specification h) refl
          f
      by_stage (Starts h last) f = by_long (nat_lt 200 (length rest)) refl (Starts h last) refl f
      by_stage (Entries h) f = by_long (nat_lt 200 (length rest)) refl (Entries h) refl f
      by_stage (End h) f = after rest f
        where
          after : (xs : List ℕ) → cond (has_any xs) (Some AfterEnd)
              (cond (nat_lt 200 (length xs)) (Some AfterEnd) None) ≡ Some rule
              → broken r AfterEnd ≡ broken r rule
          after [] g = cc
          after (x ∷ xs) g = let same : AfterEnd ≡ rule = cc in ap (broken r) same

      by_past : (past : Bool) → cond (has_any rest && past) (Some TooManyLines)
          (cond (has_ended r.stage && has_any rest) (Some AfterEnd)
          (cond (nat_lt 200 (length rest)) (Some (bad_at r.said r.stage)) None)) ≡ Some rule
          → cond past (broken r TooManyLines) (stage_step r r.stage (rest ++ more)) ≡ broken r rule
      by_past false f = by_stage r.stage (cc (and-false (has_any rest)))
      by_past true f = past_any rest f
        where
          past_any : (xs : List ℕ) → cond (has_any xs && true) (Some TooManyLines)
              (cond (has_ended r.stage && has_any xs) (Some AfterEnd)
              (cond (nat_lt 200 (length xs)) (Some (bad_at r.said r.stage)) None)) ≡ Some rule
              → broken r TooManyLines ≡ broken r rule
          past_any [] g = search arith
          past_any (x ∷ xs) g = let same : TooManyLines ≡ rule = cc in ap (broken r) same

-- no bytes break no rule
pub no_rest : (r : LineState) → rest_rule r [] ≡ None
no_rest r = ap (λ b. cond b (Some AfterEnd) None) (and-false (has_ended r.stage))

-- the rules of unfinished bytes, with tests for the limit, for their length, and whether there are
-- some
abbrev rules_at : Bool → Bool → Bool → Rule → Bool → Option Rule
rules_at past long some bad w =
    cond (some && past) (Some TooManyLines)
    (cond long (Some bad) (cond (some && w) (Some NoLineFeed) (cond w (Some NoEnd) None)))

so_far_rules : (past long some : Bool) (bad : Rule) → rules_at past long some bad false
    ≡ cond (some && past) (Some TooManyLines) (cond long (Some bad) None)
so_far_rules past long some bad = grind (arith, past)

end_rules : (past long some : Bool) (bad : Rule) → cond (some && past) (Some TooManyLines)
    (cond long (Some bad) None) ≡ None
    → rules_at past long some bad true ≡ Some (cond some NoLineFeed NoEnd)
end_rules past long some bad e = grind (arith, long, rules_at)

-- what is known of a reader with these parts, where bytes follow that don't end a line
module _ (r : LineState) (rest : List ℕ) (first : IsFirst r.stage r) where
  after_rules : (xs : List ℕ)
      → first_broken (((has_any xs || false) && nat_lt r.max_lines r.line breaks TooManyLines)
      ∷ ((has_any xs || false) breaks AfterEnd) ∷ [])
      ≡ cond (has_any xs && nat_lt r.max_lines r.line) (Some TooManyLines)
      (cond (true && has_any xs) (Some AfterEnd)
      (cond (nat_lt 200 (length xs)) (Some AfterEnd) None))
  after_rules xs = search arith

  none_after : (xs : List ℕ) → cond (has_any xs && nat_lt r.max_lines r.line) (Some TooManyLines)
      (cond (true && has_any xs) (Some AfterEnd)
      (cond (nat_lt 200 (length xs)) (Some AfterEnd) None)) ≡ None
      → first_broken (((has_any xs || false) && nat_lt r.max_lines r.line breaks TooManyLines)
      ∷ ((has_any xs || false) breaks AfterEnd) ∷ []) ≡ None
  none_after xs e = after_rules xs ∙ e

  -- as bytes that may go on
  so_far_at : (st : Stage) → IsFirst st r → lines_on (input_to r false) r.said r.line st (rest ∷ [])
      ≡ known (record r { stage = st })
      (fault_on r.line
      (rest_if (record r { stage = st }) (has_any rest) (nat_lt 200 (length rest))))
  so_far_at st f = search (has_any, so_far_rules, after_rules, arith)

  pub rest_so_far : lines_on (input_to r false) r.said r.line r.stage (rest ∷ [])
      ≡ known r (fault_on r.line (rest_rule r rest))
  rest_so_far = so_far_at r.stage first

  -- as the end of the input
  whole_at : (st : Stage) → IsFirst st r → rest_if (record r { stage = st }) (has_any rest)
      (nat_lt 200 (length rest)) ≡ None
      → lines_on (input_to r true) r.said r.line st (rest ∷ []) ≡ known (record r { stage = st })
      (end_fault (record r { stage = st }) rest)
  whole_at st f none = search (has_any, end_rules, none_after, arith)

  pub rest_whole : rest_rule r rest ≡ None → lines_on (input_to r true) r.said r.line r.stage
      (rest ∷ []) ≡ known r (end_fault r rest)
  rest_whole none = whole_at r.stage first none

-- a rule that unfinished bytes break already is broken at the end too
rules_bad : (past long some : Bool) (bad : Rule) (w : Bool) (rule : Rule)
    → cond (some && past) (Some TooManyLines) (cond long (Some bad) None) ≡ Some rule
    → rules_at past long some bad w ≡ Some rule
rules_bad past long some bad w rule e = grind (arith, past, long)

module _ (r : LineState) (rest : List ℕ) (first : IsFirst r.stage r) (w : Bool) (rule : Rule) where
  bad_rest : (st : Stage) → IsFirst st r → rest_if (record r { stage = st }) (has_any rest)
      (nat_lt 200 (length rest)) ≡ Some rule
      → lines_on (input_to r w) r.said r.line st (rest ∷ []) ≡ known (record r { stage = st })
      (Some (record { line = r.line; rule = rule }))
  bad_rest st f e = search (has_any, rules_bad, after_rules, arith)

  pub rest_bad : rest_rule r rest ≡ Some rule → lines_on (input_to r w) r.said r.line r.stage
      (rest ∷ []) ≡ known r (Some (record { line = r.line; rule = rule }))
  rest_bad e = bad_rest r.stage first e

-- and so as the line goes on
pub rest_stays : (r : LineState) (rest more : List ℕ) (rule : Rule) → rest_rule r rest ≡ Some rule
    → rest_rule r (rest ++ more) ≡ Some rule
rest_stays r [] more rule e = grind arith
rest_stays r (b ∷ rest) more rule e = by_tests (nat_lt _ _) (has_ended _) (nat_lt _ _) refl e
  where
    by_tests : (past done long : Bool) → nat_lt 200 (length (b ∷ rest)) ≡ long
        → cond past (Some TooManyLines)
        (cond (done && true) (Some AfterEnd) (cond long (Some (bad_at r.said r.stage)) None))
        ≡ Some rule
        → cond past (Some TooManyLines) (cond (done && true) (Some AfterEnd)
        (cond (nat_lt 200 (length (b ∷ (rest ++ more)))) (Some (bad_at r.said r.stage)) None))
        ≡ Some rule
    by_tests true done long l f = f
    by_tests false true long l f = f
    by_tests false false true l f = search (below_of, is_below, more, length-append, arith)
    by_tests false false false l f = cc
