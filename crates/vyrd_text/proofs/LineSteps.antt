-- What a reader makes of a line feed.
use Rattle.vyrd_text.proofs.Prelude
use Prelude.{◌≡◌, ℕ, ◌+◌, ◌≤◌, Bool, true, false, cond, ◌&&◌, ◌||◌, List, [], ◌∷◌, ◌++◌, Option}
use Prelude.{Some, None, Ok, Err, refl, ap, sym, ◌∙◌, arith, ◌==◌, nat_lt, bytes_eq}
use Prelude.{bytes_eq-Decides, append-nil, or-true, Header, Entry, StartWord, Rule, TooManyLines}
use Prelude.{AfterEnd, BadEntry, ◌breaks◌, first_broken, end_line, start_rule, start_in, entry_in}
use Prelude.{header_in, Reading, TextFault, Input, has_any, stopped, entry_before, lines_read}
use Prelude.{start_before, starts_read, body_read, header_before, ended, text_read, cut, lacks}
use Prelude.{split_at, LineState, input_to, with_read, known, after_end, lines_on, unless_faulty}
use Prelude.{goes_on, front_starts, starts_in_lines, starts_ahead, with_line, IsLineTaken}
use Rattle.vyrd_base.proofs.ReadingLaws.{no_start_line, one_start_line}
use Rattle.vyrd_text.proofs.AheadLaws.{parts_of, one_start_more}
use Rattle.vyrd_text.proofs.ReaderLaws.{fault_found, step}

-- if nothing is wrong yet, lines are read on
pub fine_on : (r : LineState) (input : Input) (lines : List (List ℕ)) → r.fault ≡ None
    → unless_faulty r input lines r.fault ≡ lines_on input r.line r.header r.starting r.last r.ended
    lines
fine_on r input lines fine = ap (unless_faulty r input lines) fine

-- the lines after a header, where starting words may come or not
abbrev pub body_on : Input → Header → Bool → Option StartWord → ℕ → List (List ℕ) → Reading
body_on input h starting last n lines = cond starting (starts_read input h last n lines)
    (lines_read input h.subject n lines)

-- one line, then the others
module _ (input : Input) (h : Header) (n : ℕ) (line more : List ℕ) (lack : lacks 10 line ≡ true)
  where
    -- an entry's line
    line_step : lines_read input h.subject n (cut (line ++ 10 ∷ more))
        ≡ cond (nat_lt input.max_lines n) (stopped n (Some TooManyLines))
        (cond (bytes_eq line end_line) (after_end input (n + 1) (cut more))
        (entry_before n (entry_in h.subject line) (lines_read input h.subject (n + 1) (cut more))))
    line_step =
        let p = parts_of more in
        ap (lines_read input h.subject n) (split_at 10 line more lack ∙ ap (λ ps. line ∷ ps) p.2)
        ∙ ap (λ ps. cond (nat_lt input.max_lines n) (stopped n (Some TooManyLines))
        (cond (bytes_eq line end_line) (after_end input (n + 1) ps)
        (entry_before n (entry_in h.subject line) (lines_read input h.subject (n + 1) ps))))
        (sym p.2)

    -- a line that spells no starting word
    no_start_step : (last : Option StartWord) → start_in line ≡ None
        → starts_read input h last n (cut (line ++ 10 ∷ more)) ≡ lines_read input h.subject n
        (cut (line ++ 10 ∷ more))
    no_start_step last none =
        let p = parts_of more in
        let apart : cut (line ++ 10 ∷ more) ≡ line ∷ p.0 ∷ p.1 = split_at 10 line more lack
        ∙ ap (λ ps. line ∷ ps) p.2 in
        ap (starts_read input h last n) apart ∙ no_start_line input h last n line p.0 p.1 none
        ∙ ap (lines_read input h.subject n) (sym apart)

    -- a line that spells one
    start_step : (last : Option StartWord) (s : StartWord) → start_in line ≡ Some s
        → starts_read input h last n (cut (line ++ 10 ∷ more)) ≡ cond (nat_lt input.max_lines n)
        (stopped n (Some TooManyLines))
        (start_before n (start_rule h last s) s (starts_read input h (Some s) (n + 1) (cut more)))
    start_step last s is =
        let p = parts_of more in
        ap (starts_read input h last n) (split_at 10 line more lack ∙ ap (λ ps. line ∷ ps) p.2)
        ∙ one_start_line input h last n line p.0 p.1 s is
        ∙ ap (λ ps. cond (nat_lt input.max_lines n) (stopped n (Some TooManyLines))
        (start_before n (start_rule h last s) s (starts_read input h (Some s) (n + 1) ps)))
        (sym p.2)

    -- if no starting word comes, it is an entry's line
    plain_step : (starting : Bool) (last : Option StartWord) → cond starting (start_in line) None
        ≡ None
        → body_on input h starting last n (cut (line ++ 10 ∷ more)) ≡ lines_read input h.subject n
        (cut (line ++ 10 ∷ more))
    plain_step true last none = no_start_step last none
    plain_step false last none = refl

    -- a line past the limit
    past_step : (starting : Bool) (last : Option StartWord) → nat_lt input.max_lines n ≡ true
        → body_on input h starting last n (cut (line ++ 10 ∷ more)) ≡ stopped n (Some TooManyLines)
    past_step starting last past = by_start starting (start_in line) refl
      where
        plain : lines_read input h.subject n (cut (line ++ 10 ∷ more))
            ≡ stopped n (Some TooManyLines)
        plain = line_step
            ∙ ap (λ b. cond b (stopped n (Some TooManyLines))
            (cond (bytes_eq line end_line) (after_end input (n + 1) (cut more))
            (entry_before n (entry_in h.subject line)
            (lines_read input h.subject (n + 1) (cut more))))) past

        by_start : (b : Bool) (o : Option StartWord) → start_in line ≡ o
            → body_on input h b last n (cut (line ++ 10 ∷ more)) ≡ stopped n (Some TooManyLines)
        by_start false o is = plain
        by_start true None is = no_start_step last is ∙ plain
        by_start true (Some s) is = start_step last s is
            ∙ ap (λ b. cond b (stopped n (Some TooManyLines))
            (start_before n (start_rule h last s) s
            (starts_read input h (Some s) (n + 1) (cut more)))) past

-- the header's line, then the others
header_step : (input : Input) (line more : List ℕ) → lacks 10 line ≡ true
    → text_read input (cut (line ++ 10 ∷ more))
    ≡ elim (header_in line) as (λ _. Reading) [
      | Ok h ↦ header_before h
          (body_read input h (cut more))
      | Err rule ↦ stopped 1 (Some rule)
    ]
header_step input line more lack = grind (arith, split_at 10 line more lack, (parts_of more).2)

-- nothing stands after a line feed yet
nothing_more : (max : ℕ) (h : Header) (starting : Bool) (last : Option StartWord) (n : ℕ)
    → body_on (record { max_lines = max; is_whole = false }) h starting last n ([] ∷ [])
    ≡ stopped n None
nothing_more max h starting last n = search arith

few : (b : Bool) (n : ℕ) → cond b n 0 ≤ n
few b n = search arith

-- what a line is to a reader where nothing is wrong yet
module _ (r : LineState) (line : List ℕ) (lack : lacks 10 line ≡ true) (fine : r.fault ≡ None)
    (low : 1 ≤ r.max_lines) where
  -- a fault that the line has
  line_fault : (f : TextFault) → goes_on (with_line r line) false (10 ∷ []) ≡ known r (Some f)
      → IsLineTaken (with_line r line) [] [] (record r { fault = Some f })
  line_fault f is = record {
    max_lines = refl;
    follows = λ ss es before fol w m. fault_found (with_line r line) ss es before
        (10 ∷ []) f low fol is w m
        ∙ (λ i. with_read (sym (append-nil ss) i) (sym (append-nil es) i) (known r (Some f)));
    noticed = refl;
    room = λ after. omega arith;
  }

  -- the line goes on as these lines
  on : (w : Bool) (more : List ℕ) → goes_on (with_line r line) w more
      ≡ lines_on (input_to r w) r.line r.header r.starting r.last r.ended (cut (line ++ more))
  on w more = fine_on (with_line r line) (input_to r w) (cut (line ++ more)) fine

  module _ (no_header : r.header ≡ None) (one : r.line ≡ 1) (not_ended : r.ended ≡ false) where
    pub first_bad : (rule : Rule) → header_in line ≡ Err rule
        → IsLineTaken (with_line r line) [] []
        (record r { fault = Some (record { line = r.line; rule = rule }) })
    first_bad rule bad = line_fault (record { line = r.line; rule = rule })
        (on false (10 ∷ [])
        ∙ ap (λ o. lines_on (input_to r false) r.line o r.starting r.last r.ended
        (cut (line ++ 10 ∷ []))) no_header
        ∙ header_step (input_to r false) line [] lack
        ∙ ap (λ x. elim x as (λ _. Reading) [
          | Ok h ↦ header_before h
              (body_read (input_to r false) h ([] ∷ []))
          | Err y ↦ stopped 1 (Some y)
        ]) bad
        ∙ (λ i. record {
          header = sym no_header i;
          starting = [];
          entries = [];
          ended = sym not_ended i;
          fault = Some (record { line = sym one i; rule = rule });
        }))

    pub first_good : r.last ≡ None → (h : Header) → header_in line ≡ Ok h
        → IsLineTaken (with_line r line) [] []
        (record r {
          line = r.line + 1;
          header = Some h;
          starting = h.version == 2;
          unfinished = [];
        })
    first_good no_last h good = record {
      max_lines = refl;
      follows = λ ss es before fol. step (with_line r line) next ss [] es [] before (10 ∷ []) refl
          (λ w more.
          on w (10 ∷ more)
          ∙ ap (λ o. lines_on (input_to r w) r.line o r.starting r.last r.ended
          (cut (line ++ 10 ∷ more))) no_header
          ∙ header_step (input_to r w) line more lack
          ∙ ap (λ x. elim x as (λ _. Reading) [
            | Ok g ↦ header_before g
                (body_read (input_to r w) g (cut more))
            | Err y ↦ stopped 1 (Some y)
          ]) good
          ∙ (λ i. lines_on (input_to r w) (sym two i) (Some h) (h.version == 2) (sym no_last i)
          (sym not_ended i) (cut more))
          ∙ sym (fine_on next (input_to r w) (cut more) fine)) fol;
      noticed = fine_on next (input_to r false) ([] ∷ []) fine
          ∙ ap (λ b. lines_on (input_to r false) (r.line + 1) (Some h) (h.version == 2) r.last b
          ([] ∷ [])) not_ended
          ∙ ap (header_before h) (nothing_more r.max_lines h (h.version == 2) r.last (r.line + 1))
          ∙ (λ i. record {
            header = Some h;
            starting = [];
            entries = [];
            ended = sym not_ended i;
            fault = sym fine i;
          });
      room = λ after.
          let before : starts_ahead (with_line r line) (10 ∷ after) ≡ front_starts (cut after) =
          (λ i. starts_in_lines (fine i) (no_header i) r.starting
          (split_at 10 line after lack i)) in
          let now : starts_ahead next after ≡ cond (h.version == 2) (front_starts (cut after)) 0 =
          ap (λ o. starts_in_lines o (Some h) (h.version == 2) (cut after)) fine in
          omega (arith, before, now, few (h.version == 2) (front_starts (cut after)));
    }
      where
        next : LineState
        next = record r {
          line = r.line + 1;
          header = Some h;
          starting = h.version == 2;
          unfinished = [];
        }

        two : r.line + 1 ≡ 2
        two = omega (arith, one)

  module _ (h : Header) (has : r.header ≡ Some h) where
    -- after the header
    later : (b : Bool) → r.ended ≡ b → (w : Bool) (more : List ℕ)
        → goes_on (with_line r line) w more ≡ lines_on (input_to r w) r.line
        (Some h) r.starting r.last b (cut (line ++ more))
    later b is w more = on w more
        ∙ (λ i. lines_on (input_to r w) r.line (has i) r.starting r.last (is i)
        (cut (line ++ more)))

    -- what is known where a rule is broken
    broken : (b : Bool) → r.ended ≡ b → (rule : Rule)
        → ◌≡◌ {A = Reading} (record {
          header = Some h;
          starting = [];
          entries = [];
          ended = b;
          fault = Some (record { line = r.line; rule = rule });
        }) (known r (Some (record { line = r.line; rule = rule })))
    broken b is rule i = record {
      header = sym has i;
      starting = [];
      entries = [];
      ended = sym is i;
      fault = Some (record { line = r.line; rule = rule });
    }

    past_end : (rule : Rule) → first_broken
        (((has_any line || true) && nat_lt r.max_lines r.line breaks TooManyLines)
        ∷ ((has_any line || true) breaks AfterEnd) ∷ []) ≡ Some rule
        → r.ended ≡ true → IsLineTaken (with_line r line) [] []
        (record r { fault = Some (record { line = r.line; rule = rule }) })
    past_end rule found is = line_fault (record { line = r.line; rule = rule })
        (later true is false (10 ∷ [])
        ∙ ap (λ ps. header_before h (after_end (input_to r false) r.line ps))
        (split_at 10 line [] lack)
        ∙ ap (λ o. header_before h (ended r.line o)) found
        ∙ broken true is rule)

    pub too_many : nat_lt r.max_lines r.line ≡ true
        → IsLineTaken (with_line r line) [] []
        (record r { fault = Some (record { line = r.line; rule = TooManyLines }) })
    too_many past = by_end r.ended refl
      where
        by_end : (b : Bool) → r.ended ≡ b
            → IsLineTaken (with_line r line) [] []
            (record r { fault = Some (record { line = r.line; rule = TooManyLines }) })
        by_end true is = past_end TooManyLines
            ((λ i. first_broken ((or-true (has_any line) i && past i breaks TooManyLines)
            ∷ (or-true (has_any line) i breaks AfterEnd) ∷ []))) is
        by_end false is = line_fault (record { line = r.line; rule = TooManyLines })
            (later false is false (10 ∷ [])
            ∙ ap (header_before h)
            (past_step (input_to r false) h r.line line [] lack r.starting r.last past)
            ∙ broken false is TooManyLines)

    module _ (within : nat_lt r.max_lines r.line ≡ false) where
      pub after_end_line : r.ended ≡ true → IsLineTaken (with_line r line) [] []
          (record r { fault = Some (record { line = r.line; rule = AfterEnd }) })
      after_end_line is = past_end AfterEnd
          ((λ i. first_broken ((or-true (has_any line) i && within i breaks TooManyLines)
          ∷ (or-true (has_any line) i breaks AfterEnd) ∷ []))) is

      module _ (not_ended : r.ended ≡ false) where
        -- where a starting word may come and the line spells one
        module _ (starting : r.starting ≡ true) (s : StartWord) (spelled : start_in line ≡ Some s)
          where
            start_line_on : (o : Option Rule) → start_rule h r.last s ≡ o
                → (w : Bool) (more : List ℕ)
                → goes_on (with_line r line) w (10 ∷ more)
                ≡ header_before h
                (start_before r.line o s
                (starts_read (input_to r w) h (Some s) (r.line + 1) (cut more)))
            start_line_on o rule w more =
                later false not_ended w (10 ∷ more)
                ∙ ap (λ b. header_before h
                (body_on (input_to r w) h b r.last r.line (cut (line ++ 10 ∷ more)))) starting
                ∙ ap (header_before h)
                (start_step (input_to r w) h r.line line more lack r.last s spelled)
                ∙ ap (λ b. header_before h (cond b (stopped r.line (Some TooManyLines))
                (start_before r.line (start_rule h r.last s) s
                (starts_read (input_to r w) h (Some s) (r.line + 1) (cut more))))) within
                ∙ ap (λ x. header_before h
                (start_before r.line x s
                (starts_read (input_to r w) h (Some s) (r.line + 1) (cut more)))) rule

            pub bad_start : (rule : Rule) → start_rule h r.last s ≡ Some rule
                → IsLineTaken (with_line r line) [] []
                (record r { fault = Some (record { line = r.line; rule = rule }) })
            bad_start rule is = line_fault (record { line = r.line; rule = rule })
                (start_line_on (Some rule) is false [] ∙ broken false not_ended rule)

            pub start_read : start_rule h r.last s ≡ None
                → IsLineTaken (with_line r line) (s ∷ []) []
                (record r { line = r.line + 1; last = Some s; unfinished = [] })
            start_read is = record {
              max_lines = refl;
              follows = λ ss es before fol. step (with_line r line) next ss (s ∷ []) es [] before
                  (10 ∷ []) refl (λ w more.
                  start_line_on None is w more
                  ∙ (λ i. with_read (s ∷ []) []
                  (lines_on (input_to r w) (r.line + 1) (sym has i) (sym starting i) (Some s)
                  (sym not_ended i) (cut more)))
                  ∙ ap (with_read (s ∷ []) []) (sym (fine_on next (input_to r w) (cut more) fine)))
                  fol;
              noticed = fine_on next (input_to r false) ([] ∷ []) fine
                  ∙ (λ i. lines_on (input_to r false) (r.line + 1) (has i) r.starting (Some s)
                  (not_ended i) ([] ∷ []))
                  ∙ ap (header_before h)
                  (nothing_more r.max_lines h r.starting (Some s) (r.line + 1))
                  ∙ (λ i. record {
                    header = sym has i;
                    starting = [];
                    entries = [];
                    ended = sym not_ended i;
                    fault = sym fine i;
                  });
              room = λ after.
                  let before : starts_ahead (with_line r line) (10 ∷ after)
                  ≡ front_starts (cut (line ++ 10 ∷ after)) =
                  (λ i. starts_in_lines (fine i) (has i) (starting i) (cut (line ++ 10 ∷ after))) in
                  let now : starts_ahead next after ≡ front_starts (cut after) =
                  (λ i. starts_in_lines (fine i) (has i) (starting i) (cut after)) in
                  omega (arith, before, now, one_start_more line after s lack spelled);
            }
              where
                next : LineState
                next = record r { line = r.line + 1; last = Some s; unfinished = [] }

        -- where no starting word comes
        module _ (no_start : cond r.starting (start_in line) None ≡ None) where
          -- an entry's line
          entry_line_on : (w : Bool) (more : List ℕ) → goes_on (with_line r line) w (10 ∷ more)
              ≡ header_before h
              (cond (bytes_eq line end_line) (after_end (input_to r w) (r.line + 1) (cut more))
              (entry_before r.line (entry_in h.subject line)
              (lines_read (input_to r w) h.subject (r.line + 1) (cut more))))
          entry_line_on w more =
              later false not_ended w (10 ∷ more)
              ∙ ap (header_before h)
              (plain_step (input_to r w) h r.line line more lack r.starting r.last no_start
              ∙ line_step (input_to r w) h r.line line more lack)
              ∙ ap (λ b. header_before h (cond b (stopped r.line (Some TooManyLines))
              (cond (bytes_eq line end_line) (after_end (input_to r w) (r.line + 1) (cut more))
              (entry_before r.line (entry_in h.subject line)
              (lines_read (input_to r w) h.subject (r.line + 1) (cut more)))))) within

          -- no starting word comes after it
          none_ahead : (n : ℕ) (done : Bool) (after : List ℕ) (x : ℕ)
              → 0 + starts_ahead
              (record r { line = n; starting = false; ended = done; unfinished = [] }) after ≤ x
          none_ahead n done after x =
              let none : starts_ahead
              (record r { line = n; starting = false; ended = done; unfinished = [] }) after ≡ 0 =
              (λ i. starts_in_lines (fine i) (has i) false (cut after)) in
              omega (arith, none)

          pub end_read : bytes_eq line end_line ≡ true
              → IsLineTaken (with_line r line) [] []
              (record r { line = r.line + 1; starting = false; ended = true; unfinished = [] })
          end_read is_end = record {
            max_lines = refl;
            follows = λ ss es before fol. step (with_line r line) next ss [] es [] before
                (10 ∷ []) refl (λ w more.
                entry_line_on w more
                ∙ ap (λ b. header_before h
                (cond b (after_end (input_to r w) (r.line + 1) (cut more))
                (entry_before r.line (entry_in h.subject line)
                (lines_read (input_to r w) h.subject (r.line + 1) (cut more))))) is_end
                ∙ ap (λ o. lines_on (input_to r w) (r.line + 1) o false r.last true (cut more))
                (sym has)
                ∙ sym (fine_on next (input_to r w) (cut more) fine)) fol;
            noticed = fine_on next (input_to r false) ([] ∷ []) fine
                ∙ ap (λ o. lines_on (input_to r false) (r.line + 1) o false r.last true ([] ∷ []))
                has
                ∙ (λ i. record {
                  header = sym has i;
                  starting = [];
                  entries = [];
                  ended = true;
                  fault = sym fine i;
                });
            room = λ after. none_ahead (r.line + 1) true after
                (starts_ahead (with_line r line) (10 ∷ after));
          }
            where
              next : LineState
              next = record r { line = r.line + 1; starting = false; ended = true; unfinished = [] }

          module _ (isnt_end : bytes_eq line end_line ≡ false) where
            plain_line_on : (w : Bool) (more : List ℕ) → goes_on (with_line r line) w (10 ∷ more)
                ≡ header_before h (entry_before r.line (entry_in h.subject line)
                (lines_read (input_to r w) h.subject (r.line + 1) (cut more)))
            plain_line_on w more =
                entry_line_on w more
                ∙ ap (λ b. header_before h
                (cond b (after_end (input_to r w) (r.line + 1) (cut more))
                (entry_before r.line (entry_in h.subject line)
                (lines_read (input_to r w) h.subject (r.line + 1) (cut more))))) isnt_end

            pub entry_read : (e : Entry) → entry_in h.subject line ≡ Some e
                → IsLineTaken (with_line r line) [] (e ∷ [])
                (record r { line = r.line + 1; starting = false; unfinished = [] })
            entry_read e found = record {
              max_lines = refl;
              follows = λ ss es before fol. step (with_line r line) next ss [] es (e ∷ []) before
                  (10 ∷ []) refl (λ w more.
                  plain_line_on w more
                  ∙ ap (λ o. header_before h (entry_before r.line o
                  (lines_read (input_to r w) h.subject (r.line + 1) (cut more)))) found
                  ∙ (λ i. with_read [] (e ∷ [])
                  (lines_on (input_to r w) (r.line + 1) (sym has i) false r.last (sym not_ended i)
                  (cut more)))
                  ∙ ap (with_read [] (e ∷ [])) (sym (fine_on next (input_to r w) (cut more) fine)))
                  fol;
              noticed = fine_on next (input_to r false) ([] ∷ []) fine
                  ∙ (λ i. lines_on (input_to r false) (r.line + 1) (has i) false r.last
                  (not_ended i) ([] ∷ []))
                  ∙ (λ i. record {
                    header = sym has i;
                    starting = [];
                    entries = [];
                    ended = sym not_ended i;
                    fault = sym fine i;
                  });
              room = λ after. none_ahead (r.line + 1) r.ended after
                  (starts_ahead (with_line r line) (10 ∷ after));
            }
              where
                next : LineState
                next = record r { line = r.line + 1; starting = false; unfinished = [] }

            pub bad_entry : entry_in h.subject line ≡ None
                → IsLineTaken (with_line r line) [] []
                (record r { fault = Some (record { line = r.line; rule = BadEntry }) })
            bad_entry found = line_fault (record { line = r.line; rule = BadEntry })
                (plain_line_on false []
                ∙ ap (λ o. header_before h
                (entry_before r.line o
                (lines_read (input_to r false) h.subject (r.line + 1) ([] ∷ [])))) found
                ∙ broken false not_ended BadEntry)

-- whether a line is the line `end`
pub is_word_true : (line : List ℕ) → line ≡ end_line → bytes_eq line end_line ≡ true
is_word_true line e = (bytes_eq-Decides line end_line).1 e

pub is_word_false : (line : List ℕ) → ¬ (line ≡ end_line) → bytes_eq line end_line ≡ false
is_word_false line other = by_test (bytes_eq line end_line) refl
  where
    by_test : (b : Bool) → bytes_eq line end_line ≡ b → b ≡ false
    by_test false e = refl
    by_test true e = absurd (other ((bytes_eq-Decides line end_line).0 e))
