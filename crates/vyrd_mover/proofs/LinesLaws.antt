-- The lines so far are followed by one more, or by bytes that break a rule.
use Rattle.vyrd_mover.proofs.Prelude
use Prelude.{◌≡◌, ℕ, ◌+◌, ◌<◌, ◌≤◌, Bool, true, false, cond, List, [], ◌∷◌, ◌++◌, length, Option}
use Prelude.{Some, None, ap, ◌∙◌, arith, append_assoc, is_some, end_line, cut, lacks, is_below}
use Prelude.{isnt_below, Events, HistoryRule, TooManyLines, AfterEnd, BadHeader, BadLine}
use Prelude.{HistoryFault, Lines, Recorded, refused, line_read, first_read, unless_too_many}
use Prelude.{unfinished_rule, history_reading, HaveRead, HaveReadOn, IsRefusal, IsRefusedAt}
use Rattle.vyrd_mover.specs.HistoryReaders.{GoesOn, rest_read, Follows, IsAt}
use Rattle.vyrd_mover.proofs.EventsReadLaws.{read_on}
use Rattle.vyrd_mover.proofs.SettledLaws.{long_line, long_text}
use Rattle.vyrd_mover.proofs.WalkLaws.{then_lines, after_first, too_many, end_found, line_found}
use Rattle.vyrd_mover.proofs.WalkLaws.{lines_last, first_step, first_last, refusal_first}
use Rattle.vyrd_mover.proofs.WalkLaws.{more_after}

not_empty : (line rest : List ℕ) → ¬ (line ++ 10 ∷ rest ≡ [])
not_empty [] rest e = cc
not_empty (b ∷ line) rest e = cc

-- the rule of a line that is one too many, or within the limit
pub above_limit : (n : ℕ) (rule : HistoryRule) → 4000000 < n → unless_too_many n rule ≡ TooManyLines
above_limit n rule high = ap (λ b. cond b TooManyLines rule) (is_below 4000000 n high)

pub within_limit : (n : ℕ) (rule : HistoryRule) → n ≤ 4000000 → unless_too_many n rule ≡ rule
within_limit n rule low = ap (λ b. cond b TooManyLines rule) (isnt_below 4000000 n low)

-- a line too many
pub rest_too_many : (r : Recorded) (n : ℕ) (is_ended : Bool) (line rest : List ℕ) → lacks 10 line
    ≡ true → 4000000 < n
    → rest_read r n is_ended (cut (line ++ 10 ∷ rest)) ≡ refused n TooManyLines
rest_too_many r n is_ended line rest lack high =
    grind (arith, more_after, not_empty, refused, above_limit, too_many)

-- a line after `end`
pub rest_after_end : (r : Recorded) (n : ℕ) (is_ended : Bool) (line rest : List ℕ) → is_ended ≡ true
    → n ≤ 4000000
    → rest_read r n is_ended (cut (line ++ 10 ∷ rest)) ≡ refused n AfterEnd
rest_after_end r n is_ended line rest e low =
    grind (arith, more_after, not_empty, refused, within_limit)

-- the line `end`
pub rest_ends : (e : Events) (r : Recorded) (n : ℕ) (is_ended : Bool) (line : List ℕ)
    → HaveRead e.ledger e.checker r → is_ended ≡ false
    → lacks 10 line ≡ true → n ≤ 4000000 → line ≡ end_line → GoesOn e r n is_ended line true
rest_ends e r n is_ended line have d lack low is =
    record {
      recorded = r;
      have = have;
      read = λ rest. cc (end_found r n line rest lack low is);
    }

-- another line
pub rest_line : (r : Recorded) (n : ℕ) (is_ended : Bool) (line rest : List ℕ) → is_ended ≡ false
    → lacks 10 line ≡ true → n ≤ 4000000
    → ¬ (line ≡ end_line) → rest_read r n is_ended (cut (line ++ 10 ∷ rest))
    ≡ then_lines n (cut rest) (line_read r line)
rest_line r n is_ended line rest d lack low other = cc (line_found r n line rest lack low other)

pub rest_goes_on : (e : Events) (r : Recorded) (n : ℕ) (is_ended : Bool) (line : List ℕ) → is_ended
    ≡ false → lacks 10 line ≡ true → n ≤ 4000000
    → ¬ (line ≡ end_line) → HaveReadOn e.ledger e.checker (line_read r line)
    → GoesOn e r n is_ended line false
rest_goes_on e r n is_ended line d lack low other have =
    let more = read_on e.ledger e.checker (line_read r line) have in
    record {
      recorded = more.now;
      have = more.have;
      read = λ rest. rest_line r n is_ended line rest d lack low other
          ∙ ap (then_lines n (cut rest)) more.is;
    }

-- bytes that are refused stay refused
pub still_at_fault : (l : Lines) (bytes more : List ℕ) → is_some l.fault ≡ true → IsAt l bytes
    → IsAt l (bytes ++ more)
still_at_fault l bytes more e3 e4 = grind (arith, more, is_some, append_assoc)

-- before line 1
pub at_first : (l : Lines) (bytes : List ℕ) → l.fault ≡ None → l.events ≡ None → IsAt l bytes
    → (bytes ≡ []) × (l.line ≡ 1) × (l.ended ≡ false)
at_first l bytes fine first at = grind arith

-- after it
pub at_later : (l : Lines) (e : Events) (bytes : List ℕ) → l.fault ≡ None → l.events ≡ Some e
    → IsAt l bytes → Follows l.line e l.ended bytes
at_later l e bytes fine later at = grind arith

pub first_taken : (l : Lines) (events : Events) (line bytes : List ℕ) → l.fault ≡ None → l.events
    ≡ None → IsAt l bytes → lacks 10 line ≡ true
    → HaveReadOn events.ledger events.checker (first_read line)
    → IsAt (record { line = 2; events = Some events; ended = l.ended; fault = l.fault })
    (bytes ++ (line ++ 10 ∷ []))
first_taken l events line bytes fine first at lack have = rw fine (rw begun.2 (rw begun.0 follows))
  where
    begun : (bytes ≡ []) × (l.line ≡ 1) × (l.ended ≡ false)
    begun = at_first l bytes fine first at

    follows : Follows 2 events false (line ++ 10 ∷ [])
    follows =
        let p = read_on events.ledger events.checker (first_read line) have in
        record {
          recorded = p.now;
          have = p.have;
          read = λ rest. ap history_reading
              (append_assoc line (10 ∷ []) rest) ∙ first_step line rest lack
              ∙ ap (after_first (cut rest)) p.is;
        }

pub first_refused : (l : Lines) (fault : HistoryFault) (line bytes rest : List ℕ) → l.fault ≡ None
    → l.events ≡ None → IsAt l bytes → lacks 10 line ≡ true
    → IsRefusedAt 1 fault (first_read line)
    → IsRefusal fault (history_reading ((bytes ++ (line ++ 10 ∷ [])) ++ rest))
first_refused l fault line bytes rest fine first at lack is =
    search (at_first, append_assoc, refusal_first, arith)

-- where the rest stands after one more line
pub line_and_rest : (bytes line rest : List ℕ) → (bytes ++ (line ++ 10 ∷ [])) ++ rest ≡ bytes
    ++ (line ++ 10 ∷ rest)
line_and_rest bytes line rest = search (append_assoc, arith)

pub later_taken : (n : ℕ) (e new : Events) (was_ended is_ended : Bool) (line bytes : List ℕ)
    → (f : Follows n e was_ended bytes)
    → GoesOn new f.recorded n was_ended line is_ended → Follows (n + 1) new is_ended
    (bytes ++ (line ++ 10 ∷ []))
later_taken n e new was_ended is_ended line bytes f on =
    record {
      recorded = on.recorded;
      have = on.have;
      read = λ rest. ap history_reading (line_and_rest bytes line rest) ∙ f.read (line ++ 10 ∷ rest)
          ∙ on.read rest;
    }

pub later_refused : (n : ℕ) (e : Events) (was_ended : Bool) (fault : HistoryFault)
    (line bytes rest : List ℕ) → (f : Follows n e was_ended bytes)
    → IsRefusal fault (rest_read f.recorded n was_ended (cut (line ++ 10 ∷ rest)))
    → IsRefusal fault (history_reading ((bytes ++ (line ++ 10 ∷ [])) ++ rest))
later_refused n e was_ended fault line bytes rest f is = grind (arith, line_and_rest)

-- a line of more than 64 bytes
pub long_first : (l : Lines) (bytes more rest : List ℕ) → l.fault ≡ None → l.events ≡ None
    → IsAt l bytes → lacks 10 more ≡ true → 64 < length more
    → history_reading ((bytes ++ more) ++ rest) ≡ refused l.line (unless_too_many l.line BadHeader)
long_first l bytes more rest fine first at lack long = search (at_first, long_text, refused, arith)

some_byte : (more rest : List ℕ) → 64 < length more → ¬ (more ++ rest ≡ [])
some_byte [] rest long e = absurd (omega (arith, long))
some_byte (b ∷ more) rest long e = cc

long_rest : (r : Recorded) (n : ℕ) (is_ended : Bool) (more rest : List ℕ) → lacks 10 more ≡ true
    → 64 < length more
    → rest_read r n is_ended (cut (more ++ rest))
    ≡ refused n (unless_too_many n (cond is_ended AfterEnd BadLine))
long_rest r n is_ended more rest lack long = search (more_after, some_byte, long_line, arith)

pub long_later : (l : Lines) (e : Events) (bytes more rest : List ℕ) → l.fault ≡ None → l.events
    ≡ Some e → IsAt l bytes → lacks 10 more ≡ true
    → 64 < length more → history_reading ((bytes ++ more) ++ rest) ≡ refused l.line
    (unless_too_many l.line (cond l.ended AfterEnd BadLine))
long_later l e bytes more rest fine later at lack long =
    grind (arith, more, long, at_later, append_assoc, long_rest)

-- the text ends before line 1 does
pub ends_first : (l : Lines) (bytes unfinished : List ℕ) → l.fault ≡ None → l.events ≡ None
    → IsAt l bytes → lacks 10 unfinished ≡ true
    → history_reading (bytes ++ unfinished) ≡ refused 1 (unfinished_rule 1 BadHeader unfinished)
ends_first l bytes unfinished fine first at lack = search (at_first, first_last, arith)

-- or before the line `end`
pub ends_later : (l : Lines) (e : Events) (bytes unfinished : List ℕ) → l.fault ≡ None → l.events
    ≡ Some e → l.ended ≡ false → IsAt l bytes
    → lacks 10 unfinished ≡ true → history_reading (bytes ++ unfinished) ≡ refused l.line
    (unfinished_rule l.line BadLine unfinished)
ends_later l e bytes unfinished fine later d at lack = search (at_later, lines_last, arith)

-- the value of an option that has one
pub record TheValue {A : Type 0} (o : Option A) : Type 0 where
  pub value : A
  pub is : o ≡ Some value

pub value_of : {A : Type 0} (o : Option A) → is_some o ≡ true → TheValue o
value_of o e = search arith
