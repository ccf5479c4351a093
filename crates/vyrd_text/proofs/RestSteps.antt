-- What a reader makes of bytes without a line feed.
use Rattle.vyrd_text.proofs.Prelude
use Prelude.{◌≡◌, ℕ, ◌+◌, ◌<◌, ◌≤◌, Bool, true, false, cond, ◌&&◌, ◌||◌, List, [], ◌∷◌, ◌++◌}
use Prelude.{length, Option, Some, None, refl, ap, sym, ◌∙◌, arith, length-append, nat_lt}
use Prelude.{option_map, Header, StartWord, Rule, TooManyLines, AfterEnd, BadHeader, BadEntry}
use Prelude.{◌breaks◌, first_broken, Input, has_any, stopped, ended, header_before, fault_on, lacks}
use Prelude.{split_whole, is_below, isnt_below, LineState, input_to, known, lines_on, goes_on}
use Rattle.vyrd_base.specs.Reading.{unfinished_rule}
use Rattle.vyrd_base.proofs.SplitLaws.{lacks-append}
use Rattle.vyrd_text.proofs.LineSteps.{fine_on, body_on}

-- the rules of an unfinished line, for bytes that may go on
unfinished_cases : (max n : ℕ) (bad : Rule) (ys : List ℕ)
    → unfinished_rule (record { max_lines = max; is_whole = false }) n bad ys
    ≡ cond (has_any ys && nat_lt max n) (Some TooManyLines)
    (cond (nat_lt 64 (length ys)) (Some bad) None)
unfinished_cases max n bad ys = grind (arith, has_any)

some_bytes : (ys : List ℕ) → 0 < length ys → has_any ys ≡ true
some_bytes ys h = search arith

-- an unfinished line is the same, whether it may become a starting line or not
pub rest_body : (input : Input) (h : Header) (starting : Bool) (last : Option StartWord) (n : ℕ)
    (ys : List ℕ)
    → body_on input h starting last n (ys ∷ []) ≡ stopped n (unfinished_rule input n BadEntry ys)
rest_body input h starting last n ys = search arith

-- a reader where nothing is wrong, with bytes that don't end its line
module _ (r : LineState) (fine : r.fault ≡ None) (low : 1 ≤ r.max_lines)
    (one_line : lacks 10 r.unfinished ≡ true) (xs : List ℕ)
    (lack : lacks 10 xs ≡ true) (some : 0 < length xs) where
  any : has_any (r.unfinished ++ xs) ≡ true
  any = some_bytes (r.unfinished ++ xs) (omega (arith, length-append r.unfinished xs))

  -- they are one unfinished line
  on : goes_on r false xs ≡ lines_on (input_to r false) r.line r.header r.starting r.last r.ended
      ((r.unfinished ++ xs) ∷ [])
  on = fine_on r _ _ fine ∙ ap (lines_on _ _ _ _ _ _)
      (split_whole _ _ (lacks-append 10 r.unfinished xs one_line lack))

  module _ (no_header : r.header ≡ None) (one : r.line ≡ 1) (not_ended : r.ended ≡ false) where
    first_rest : (o : Option Rule) → cond (nat_lt 64 (length (r.unfinished ++ xs)))
        (Some BadHeader) None ≡ o
        → goes_on r false xs
        ≡ known r (option_map (λ rule. record { line = r.line; rule = rule }) o)
    first_rest o is =
        on
        ∙ ap (λ h. lines_on (input_to r false) r.line h r.starting r.last r.ended
        ((r.unfinished ++ xs) ∷ [])) no_header
        ∙ ap (stopped 1) (unfinished_cases r.max_lines 1 BadHeader (r.unfinished ++ xs)
        ∙ (λ i. cond (any i && isnt_below r.max_lines 1 low i) (Some TooManyLines) (is i)))
        ∙ (λ i. record {
          header = sym no_header i;
          starting = [];
          entries = [];
          ended = sym not_ended i;
          fault = option_map (λ rule. record { line = sym one i; rule = rule }) o;
        })

    pub first_long : 64 < length r.unfinished + length xs → goes_on r false xs
        ≡ known r (Some (record { line = r.line; rule = BadHeader }))
    first_long h = first_rest (Some BadHeader)
        (ap (λ b. cond b (Some BadHeader) None)
        (is_below 64 (length (r.unfinished ++ xs)) (omega (arith, length-append r.unfinished xs))))

    pub first_short : length r.unfinished + length xs ≤ 64 → goes_on r false xs ≡ known r None
    first_short h = first_rest None
        (ap (λ b. cond b (Some BadHeader) None)
        (isnt_below 64 (length (r.unfinished ++ xs))
        (omega (arith, length-append r.unfinished xs))))

  module _ (h : Header) (has : r.header ≡ Some h) where
    ended_rest : (o : Option Rule) → r.ended ≡ true → cond (nat_lt r.max_lines r.line)
        (Some TooManyLines) (Some AfterEnd) ≡ o
        → goes_on r false xs
        ≡ known r (option_map (λ rule. record { line = r.line; rule = rule }) o)
    ended_rest o done is =
        on
        ∙ (λ i. lines_on (input_to r false) r.line (has i) r.starting r.last (done i)
        ((r.unfinished ++ xs) ∷ []))
        ∙ ap (λ b. header_before h (ended r.line
        (first_broken (((b || false) && nat_lt r.max_lines r.line breaks TooManyLines)
        ∷ ((b || false) breaks AfterEnd) ∷ [])))) any
        ∙ ap (λ p. header_before h (ended r.line p)) is
        ∙ (λ i. record {
          header = sym has i;
          starting = [];
          entries = [];
          ended = sym done i;
          fault = fault_on r.line o;
        })

    entry_rest : (o : Option Rule) → r.ended ≡ false
        → cond (nat_lt r.max_lines r.line) (Some TooManyLines)
        (cond (nat_lt 64 (length (r.unfinished ++ xs))) (Some BadEntry) None) ≡ o
        → goes_on r false xs
        ≡ known r (option_map (λ rule. record { line = r.line; rule = rule }) o)
    entry_rest o going is =
        on
        ∙ (λ i. lines_on (input_to r false) r.line (has i) r.starting r.last (going i)
        ((r.unfinished ++ xs) ∷ []))
        ∙ ap (header_before h)
        (rest_body (input_to r false) h r.starting r.last r.line (r.unfinished ++ xs))
        ∙ ap (λ p. header_before h (stopped r.line p))
        (unfinished_cases r.max_lines r.line BadEntry (r.unfinished ++ xs)
        ∙ ap (λ b. cond (b && nat_lt r.max_lines r.line) (Some TooManyLines)
        (cond (nat_lt 64 (length (r.unfinished ++ xs))) (Some BadEntry) None)) any ∙ is)
        ∙ (λ i. record {
          header = sym has i;
          starting = [];
          entries = [];
          ended = sym going i;
          fault = fault_on r.line o;
        })

    pub rest_past : r.max_lines < r.line → goes_on r false xs
        ≡ known r (Some (record { line = r.line; rule = TooManyLines }))
    rest_past past = by_end r.ended refl
      where
        by_end : (b : Bool) → r.ended ≡ b → goes_on r false xs
            ≡ known r (Some (record { line = r.line; rule = TooManyLines }))
        by_end true is = ended_rest (Some TooManyLines) is
            (ap (λ b. cond b (Some TooManyLines) (Some AfterEnd))
            (is_below r.max_lines r.line past))
        by_end false is = entry_rest (Some TooManyLines) is
            (ap (λ b. cond b (Some TooManyLines)
            (cond (nat_lt 64 (length (r.unfinished ++ xs))) (Some BadEntry) None))
            (is_below r.max_lines r.line past))

    module _ (within : r.line ≤ r.max_lines) where
      pub rest_after_end : r.ended ≡ true → goes_on r false xs
          ≡ known r (Some (record { line = r.line; rule = AfterEnd }))
      rest_after_end is = ended_rest (Some AfterEnd) is
          (ap (λ b. cond b (Some TooManyLines) (Some AfterEnd))
          (isnt_below r.max_lines r.line within))

      pub rest_long : r.ended ≡ false → 64 < length r.unfinished + length xs
          → goes_on r false xs ≡ known r (Some (record { line = r.line; rule = BadEntry }))
      rest_long is h = entry_rest (Some BadEntry) is
          (λ i. cond (isnt_below r.max_lines r.line within i) (Some TooManyLines)
          (cond (is_below 64 (length (r.unfinished ++ xs))
          (omega (arith, length-append r.unfinished xs)) i) (Some BadEntry) None))

      pub rest_short : r.ended ≡ false → length r.unfinished + length xs ≤ 64 → goes_on r false xs
          ≡ known r None
      rest_short is h = entry_rest None is
          (λ i. cond (isnt_below r.max_lines r.line within i) (Some TooManyLines)
          (cond (isnt_below 64 (length (r.unfinished ++ xs))
          (omega (arith, length-append r.unfinished xs)) i) (Some BadEntry) None))
