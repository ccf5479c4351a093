-- What a reader that has been fed bytes says of them.
use Rattle.vyrd_text.proofs.Prelude
use Prelude.{◌≡◌, ℕ, ◌≤◌, Bool, true, false, cond, ◌&&◌, List, [], ◌∷◌, ◌++◌, length, Option, Some}
use Prelude.{None, Result, Ok, Err, refl, ap, sym, ◌∙◌, append_assoc, ◌==◌, nat_lt, slice_split}
use Prelude.{append-nil, append_cancel_left, Header, Entry, StartWord, Rule, TooManyLines}
use Prelude.{BadHeader, BadEntry, NoLineFeed, NoEnd, TextFault, has_any, reading, fault_on, lacks}
use Prelude.{split_whole, Longer, split_longer, LineState, ReaderState, lines_of, so_far, whole}
use Prelude.{input_to, with_read, known, lines_on, unless_faulty, goes_on, Follows, HasRead}
use Prelude.{IsNoticed, IsTaken, IsFed}
use Rattle.vyrd_text.specs.declared.fault.TextFault as fault
use Rattle.vyrd_text.specs.declared.fault.TextFault.TheVariants.{Malformed, Memory}
use Rattle.vyrd_text.specs.Answered.{UnlessMemory, IsGrownBy}
use Rattle.vyrd_text.proofs.ReaderLaws.{taken_then, faulty_taken}
use Rattle.vyrd_text.proofs.RestSteps.{rest_body}

-- the starting words and the entries of the bytes that were read
abbrev pub starting_of : ReaderState → List ℕ → List StartWord
starting_of r bytes = (reading (so_far r) bytes).starting

abbrev pub entries_of : ReaderState → List ℕ → List Entry
entries_of r bytes = (reading (so_far r) bytes).entries

-- no bytes have no entry
pub nothing_read : (r : ReaderState) → entries_of r [] ≡ []
unfolding reading
nothing_read r = refl

-- what the reader makes of nothing more is what the bytes say
read_now : (r : LineState) (bytes : List ℕ) (is_whole : Bool) (ss : List StartWord)
    (es : List Entry) → Follows r ss es bytes
    → reading (input_to r is_whole) bytes ≡ with_read ss es (goes_on r is_whole [])
read_now r bytes is_whole ss es follows = cc (append-nil bytes, follows is_whole [])

-- a list that is the front of itself has nothing after that
nothing_after : {A : Type 0} (xs ys : List A) → xs ≡ xs ++ ys → ys ≡ []
nothing_after xs ys e = append_cancel_left xs ys [] (sym e ∙ sym (append-nil xs))

-- a reader that has read bytes reports their fault
pub noticed_of : (r : ReaderState) (bytes : List ℕ) → HasRead r bytes → IsNoticed (lines_of r)
noticed_of r bytes has =
    let on = goes_on (lines_of r) false [] in
    let now : reading (so_far r) bytes ≡ with_read (starting_of r bytes) (entries_of r bytes) on =
    read_now (lines_of r) bytes false (starting_of r bytes) (entries_of r bytes) has.follows in
    let header : on.header ≡ r.header = sym (cc) ∙ sym has.header in
    let no_start : on.starting ≡ [] = nothing_after (starting_of r bytes) on.starting (cc) in
    let none : on.entries ≡ [] = nothing_after (entries_of r bytes) on.entries (cc) in
    let done : on.ended ≡ r.ended = sym (cc) ∙ sym has.ended in
    let fault : on.fault ≡ r.fault = sym (cc) ∙ sym has.fault in
    λ i. record {
      header = header i;
      starting = no_start i;
      entries = none i;
      ended = done i;
      fault = fault i;
    }

-- bytes were fed to a reader that had read some
module _ (old new : ReaderState) (bytes piece : List ℕ) (before after : List Entry)
    (has : HasRead old bytes)
    (fed : IsFed (lines_of old) piece old.start new.start before after (lines_of new)) where
  abbrev ss : List StartWord
  ss = starting_of old bytes ++ fed.starts

  abbrev es : List Entry
  es = entries_of old bytes ++ fed.found

  on : Follows (lines_of new) ss es (bytes ++ piece)
  on = fed.taken.follows (starting_of old bytes) (entries_of old bytes) bytes has.follows

  now : reading (so_far new) (bytes ++ piece) ≡ with_read ss es (known (lines_of new) new.fault)
  now = read_now (lines_of new) (bytes ++ piece) false ss es on
      ∙ ap (with_read ss es) (fed.taken.noticed (noticed_of old bytes has))

  all : (reading (so_far new) (bytes ++ piece)).entries ≡ es
  all = ap (λ read. read.entries) now ∙ append-nil es

  all_start : (reading (so_far new) (bytes ++ piece)).starting ≡ ss
  all_start = ap (λ read. read.starting) now ∙ append-nil ss

  start_is : new.start ≡ (reading (so_far new) (bytes ++ piece)).starting
  start_is = fed.start_grown ∙ ap (λ t. t ++ fed.starts) has.start ∙ sym all_start

  same : so_far new ≡ so_far old
  same = ap (λ n. record { max_lines = n; is_whole = false }) fed.taken.max_lines

  pub fed_read : HasRead new (bytes ++ piece)
  fed_read = record {
    header = sym (ap (λ read. read.header) now);
    start = start_is;
    ended = sym (ap (λ read. read.ended) now);
    fault = sym (ap (λ read. read.fault) now);
    follows = λ is_whole more. on is_whole more
        ∙ (λ i. with_read (sym all_start i) (sym all i) (goes_on (lines_of new) is_whole more));
  }

  pub fed_start : new.start ≡ (reading (so_far old) (bytes ++ piece)).starting
  fed_start = start_is ∙ ap (λ input. (reading input (bytes ++ piece)).starting) same

  pub fed_entries : IsGrownBy before (entries_of old bytes) after
      (reading (so_far old) (bytes ++ piece)).entries
  fed_entries = record {
    more = fed.found;
    one = fed.grown;
    other = ap (λ input. (reading input (bytes ++ piece)).entries) (sym same) ∙ all;
  }

  pub fed_fault : new.fault ≡ (reading (so_far old) (bytes ++ piece)).fault
  fed_fault = sym (ap (λ read. read.fault) now)
      ∙ ap (λ input. (reading input (bytes ++ piece)).fault) same

-- the fact holds in any case
pub unless : {P : Type 0} (r : Result (Unit {0}) fault.TextFault) → P → UnlessMemory r P
unless (Ok x) p = p
unless (Err (Malformed line rule)) p = p
unless (Err Memory) p = tt

-- nothing more is fed to a reader with a fault
pub faulty_fed : (r : LineState) (f : TextFault) (piece : List ℕ) (start : List StartWord)
    (entries : List Entry) → 1 ≤ r.max_lines
    → r.fault ≡ Some f → IsFed r piece start start entries entries r
faulty_fed r f piece start entries low is = record {
  starts = [];
  start_grown = sym (append-nil start);
  found = [];
  grown = sym (append-nil entries);
  taken = faulty_taken r f piece low is;
}

-- a whole line more was fed
pub fed_then : (a b c : LineState) (xs ys : List ℕ)
    (start start_middle start_new ts : List StartWord) (before middle after hs : List Entry)
    → IsFed a xs start start_middle before middle b → IsTaken b ys ts hs c → start_new
    ≡ start_middle ++ ts → after ≡ middle ++ hs
    → IsFed a (xs ++ ys) start start_new before after c
fed_then a b c xs ys start start_middle start_new ts before middle after hs fed taken start_grown
    grown = record {
      starts = fed.starts ++ ts;
      start_grown = cc (fed.start_grown, append_assoc start fed.starts ts);
      found = fed.found ++ hs;
      grown = cc (fed.grown, append_assoc before fed.found hs);
      taken = taken_then a b c xs ys fed.starts ts fed.found hs fed.taken taken;
    }

-- the rules at the end of the input
at_end : (a b h : Bool) (bad : Rule)
    → cond a (Some TooManyLines)
    (cond b (Some bad) (cond (h && false) (Some NoLineFeed) (cond false (Some NoEnd) None))) ≡ None
    → cond a (Some TooManyLines)
    (cond b (Some bad) (cond (h && true) (Some NoLineFeed) (cond true (Some NoEnd) None)))
    ≡ Some (cond h NoLineFeed NoEnd)
at_end true b h bad e = cc
at_end false true h bad e = cc
at_end false false true bad e = refl
at_end false false false bad e = refl

-- no fault on a line
pub no_fault : (n : ℕ) (o : Option Rule) → fault_on n o ≡ None → o ≡ None
no_fault n None e = refl
no_fault n (Some rule) e = cc

-- what the bytes say as the whole input
pub whole_read : (r : ReaderState) (bytes : List ℕ) → HasRead r bytes
    → reading (whole r) bytes ≡ with_read (starting_of r bytes) (entries_of r bytes)
    (goes_on (lines_of r) true [])
whole_read r bytes has = read_now (lines_of r) _ _ (starting_of r _) (entries_of r _) has.follows

module _ (r : LineState) where
  -- a fault that stands is the fault of the whole
  pub fault_at_end : (f : TextFault) → r.fault ≡ Some f → r.fault ≡ (goes_on r true []).fault
  fault_at_end f is = cc

  module _ (noticed : IsNoticed r) (fine : r.fault ≡ None) where
    -- the lines, and the unfinished one
    abbrev lines : List (List ℕ)
    lines = slice_split (λ b. b == 10) (r.unfinished ++ [])

    -- the fault of the bytes, which is none
    nothing_wrong : (lines_on (input_to r false) r.line r.header r.starting r.last r.ended
        lines).fault ≡ None
    nothing_wrong =
        sym (ap (λ o. (unless_faulty r (input_to r false) lines o).fault) fine)
        ∙ ap (λ read. read.fault) noticed ∙ fine

    at_whole : goes_on r true [] ≡ lines_on (input_to r true) r.line r.header r.starting r.last
        r.ended lines
    at_whole = ap (unless_faulty r (input_to r true) lines) fine

    ended_lines : (h : Header) (ls : List (List ℕ))
        → (lines_on (input_to r false) r.line (Some h) r.starting r.last true ls).fault ≡ None
        → (lines_on (input_to r true) r.line (Some h) r.starting r.last true ls).fault ≡ None
    ended_lines h [] e = e
    ended_lines h (line ∷ ls) e = e

    ended_is : (h : Header) (xs : List ℕ)
        → (lines_on (input_to r true) r.line (Some h) r.starting r.last true
        (slice_split (λ b. b == 10) xs)).ended ≡ true
    ended_is h xs = by_parts (slice_split (λ b. b == 10) xs) (split_longer (λ b. b == 10) [] xs)
      where
        by_parts : (ps : List (List ℕ)) → Longer ([] ∷ []) ps
            → (lines_on (input_to r true) r.line (Some h) r.starting r.last true ps).ended ≡ true
        by_parts [] l = absurd l
        by_parts (p ∷ ps) l = refl

    -- a text that was read to its end
    pub fine_at_end : (h : Header) → r.header ≡ Some h → r.ended ≡ true → (goes_on r true []).fault
        ≡ None
    fine_at_end h is done =
        ap (λ read. read.fault) at_whole
        ∙ (λ i. (lines_on (input_to r true) r.line (is i) r.starting r.last (done i) lines).fault)
        ∙ ended_lines h lines
        ((λ i. (lines_on (input_to r false) r.line (sym is i) r.starting r.last
        (sym done i) lines).fault) ∙ nothing_wrong)

    pub ended_at_end : (h : Header) → r.header ≡ Some h → r.ended ≡ true → (goes_on r true []).ended
        ≡ true
    ended_at_end h is done =
        ap (λ read. read.ended) at_whole
        ∙ (λ i. (lines_on (input_to r true) r.line (is i) r.starting r.last (done i) lines).ended)
        ∙ ended_is h (r.unfinished ++ [])

    module _ (one_line : lacks 10 r.unfinished ≡ true) (not_ended : r.ended ≡ false) where
      -- the unfinished line
      one : lines ≡ r.unfinished ∷ []
      one = ap (slice_split (λ b. b == 10)) (append-nil r.unfinished)
          ∙ split_whole 10 r.unfinished one_line

      -- a text that ends before `end`
      pub unfinished_at_end : (r.header ≡ None → r.line ≡ 1)
          → (goes_on r true []).fault
          ≡ Some (record { line = r.line; rule = cond (has_any r.unfinished) NoLineFeed NoEnd })
      unfinished_at_end first = by_header r.header refl
        where
          by_header : (o : Option Header) → r.header ≡ o
              → (goes_on r true []).fault
              ≡ Some (record { line = r.line; rule = cond (has_any r.unfinished) NoLineFeed NoEnd })
          by_header None is =
              let known_none =
              (λ i. (lines_on (input_to r false) r.line (sym is i) r.starting r.last r.ended
              (sym one i)).fault) ∙ nothing_wrong in
              ap (λ read. read.fault) at_whole
              ∙ (λ i. (lines_on (input_to r true) r.line (is i) r.starting r.last r.ended
              (one i)).fault)
              ∙ ap (fault_on 1)
              (at_end (has_any r.unfinished && nat_lt r.max_lines 1)
              (nat_lt 64 (length r.unfinished))
              (has_any r.unfinished) BadHeader (no_fault 1 _ known_none))
              ∙ ap (λ n. Some
              (record { line = n; rule = cond (has_any r.unfinished) NoLineFeed NoEnd }))
              (sym (first is))
          by_header (Some h) is =
              let known_none = ap (λ read. read.fault)
              (sym (rest_body (input_to r false) h r.starting r.last r.line r.unfinished))
              ∙ (λ i. (lines_on (input_to r false) r.line (sym is i) r.starting r.last
              (sym not_ended i) (sym one i)).fault) ∙ nothing_wrong in
              ap (λ read. read.fault) at_whole
              ∙ (λ i. (lines_on (input_to r true) r.line (is i) r.starting r.last (not_ended i)
              (one i)).fault)
              ∙ ap (λ read. read.fault)
              (rest_body (input_to r true) h r.starting r.last r.line r.unfinished)
              ∙ ap (fault_on r.line)
              (at_end (has_any r.unfinished && nat_lt r.max_lines r.line)
              (nat_lt 64 (length r.unfinished))
              (has_any r.unfinished) BadEntry (no_fault r.line _ known_none))
