-- How a reader goes on.
use Rattle.vyrd_text.proofs.Prelude
use Prelude.{◌≡◌, ℕ, ◌≤◌, Bool, true, false, List, [], ◌∷◌, ◌++◌, Option, Some, None, refl, ap, sym}
use Prelude.{◌∙◌, arith, append_assoc, length-append, ◌==◌, is_some, IsSome, slice_split}
use Prelude.{append-nil, Header, Entry, StartWord, Reading, TextFault, reading, reading_grows}
use Prelude.{input_of, LineState, ReaderState, fresh, input_to, with_read, known, unless_faulty}
use Prelude.{goes_on, Follows, HasRead, starts_ahead, with_line, IsTaken, IsLineTaken}

-- what was read before, before what was read before
twice : (ss ts : List StartWord) (es gs : List Entry) (r : Reading)
    → with_read ss es (with_read ts gs r) ≡ with_read (ss ++ ts) (es ++ gs) r
twice ss ts es gs r = search (append_assoc, arith)

-- a line that goes on
pub longer_line : (r : LineState) (ss : List StartWord) (es : List Entry) (before xs : List ℕ)
    → Follows r ss es before
    → Follows (with_line r (r.unfinished ++ xs)) ss es (before ++ xs)
longer_line r ss es before xs follows is_whole more = search (reading, append_assoc, more, arith)

-- a fault that is found stays
pub fault_found : (r : LineState) (ss : List StartWord) (es : List Entry) (before xs : List ℕ)
    (f : TextFault) → 1 ≤ r.max_lines
    → Follows r ss es before → goes_on r false xs ≡ known r (Some f)
    → Follows (record r { fault = Some f }) ss es (before ++ xs)
fault_found r ss es before xs f low follows is is_whole more =
    let old : reading (input_of r.max_lines false) (before ++ xs) ≡ with_read ss es
    (known r (Some f)) = follows _ _ ∙ ap (with_read _ _) is in
    (reading_grows _ _ _ _ low).grown.fault f (ap (λ read. read.fault) old) ∙ old

-- one step of the reader, from one reader to another with the same limit
pub step : (r new : LineState) (ss ts : List StartWord) (es gs : List Entry) (before xs : List ℕ)
    → new.max_lines ≡ r.max_lines
    → ((is_whole : Bool) (more : List ℕ) → goes_on r is_whole (xs ++ more) ≡ with_read ts gs
    (goes_on new is_whole more))
    → Follows r ss es before → Follows new (ss ++ ts) (es ++ gs) (before ++ xs)
step r new ss ts es gs before xs same on follows is_whole more =
    search (reading, more, append_assoc, twice, goes_on, arith)

-- what was taken in turn was taken together
pub taken_then : (a b c : LineState) (xs ys : List ℕ) (ss ts : List StartWord) (gs hs : List Entry)
    → IsTaken a xs ss gs b → IsTaken b ys ts hs c
    → IsTaken a (xs ++ ys) (ss ++ ts) (gs ++ hs) c
taken_then a b c xs ys ss ts gs hs first second = record {
  max_lines = second.max_lines ∙ first.max_lines;
  follows = λ rs es before f is_whole more.
      ap (λ t. reading (input_to c is_whole) (t ++ more)) (sym (append_assoc before xs ys))
      ∙ second.follows (rs ++ ss) (es ++ gs) (before ++ xs) (first.follows rs es before f) is_whole
      more
      ∙ (λ i. with_read (append_assoc rs ss ts i) (append_assoc es gs hs i)
      (goes_on c is_whole more));
  noticed = λ n. second.noticed (first.noticed n);
  room = λ after.
      let one = first.room (ys ++ after) in
      let other = second.room after in
      let same : starts_ahead a ((xs ++ ys) ++ after) ≡ starts_ahead a (xs ++ (ys ++ after)) =
      ap (starts_ahead a) (append_assoc xs ys after) in
      omega (arith, length-append ss ts, one, other, same);
}

-- bytes before a line feed, and then the line feed
pub line_then : (a b c : LineState) (line : List ℕ) (ss : List StartWord) (found : List Entry)
    → IsTaken a line [] [] b → IsLineTaken b ss found c
    → IsTaken a (line ++ 10 ∷ []) ss found c
line_then a b c line ss found first second = taken_then a b c line (10 ∷ []) [] ss [] found first
    (record {
      max_lines = second.max_lines;
      follows = second.follows;
      noticed = λ n. second.noticed;
      room = second.room;
    })

-- a whole line at once, for a reader without an unfinished one
pub line_at_once : (a c : LineState) (line : List ℕ) (ss : List StartWord) (found : List Entry)
    → a.unfinished ≡ []
    → IsLineTaken (with_line a line) ss found c → IsTaken a (line ++ 10 ∷ []) ss found c
line_at_once a c line ss found empty taken = record {
  max_lines = taken.max_lines;
  follows = λ rs es before f is_whole more.
      ap (λ t. reading (input_to c is_whole) (t ++ more)) (sym (append_assoc before line (10 ∷ [])))
      ∙ taken.follows _ _ (before ++ line) (λ w m. cc (longer_line a rs es before line f w m)) _ _;
  noticed = λ n. taken.noticed;
  room = λ after.
      let same : line ++ 10 ∷ after ≡ a.unfinished ++ ((line ++ 10 ∷ []) ++ after) =
      cc (append_assoc line (10 ∷ []) after) in
      rw (← same) (taken.room after);
}

-- a reader with a fault takes nothing in
pub faulty_taken : (a : LineState) (f : TextFault) (xs : List ℕ) → 1 ≤ a.max_lines
    → a.fault ≡ Some f → IsTaken a xs [] [] a
faulty_taken a f xs low is =
    record {
      max_lines = refl;
      follows = λ ss es before fol is_whole more. fault_found a ss es before xs f low fol
          (ap (unless_faulty a _ _) is) is_whole more
          ∙ (λ i. with_read (sym (append-nil ss) i) (sym (append-nil es) i) (known a (Some f)))
          ∙ ap (λ o. with_read (ss ++ []) (es ++ [])
          (unless_faulty a (input_to a is_whole) (slice_split (λ b. b == 10) (a.unfinished ++ more))
          o)) (sym is);
      noticed = λ n. n;
      room = λ after.
          let none : starts_ahead a after ≡ 0 = cc in
          omega (arith, none);
    }

-- a fault that is found when bytes come
pub fault_taken : (a : LineState) (f : TextFault) (xs : List ℕ) → 1 ≤ a.max_lines
    → goes_on a false xs ≡ known a (Some f)
    → IsTaken a xs [] [] (record a { fault = Some f })
fault_taken a f xs low is = record {
  max_lines = refl;
  follows = λ ss es before fol is_whole more.
      fault_found a ss es before xs f low fol is is_whole more
      ∙ (λ i. with_read (sym (append-nil ss) i) (sym (append-nil es) i) (known a (Some f)));
  noticed = λ n. refl;
  room = λ after. omega arith;
}

-- a reader of a log over a reader of lines
abbrev pub reader_with : LineState → List StartWord → ReaderState
reader_with r start = record {
  max_lines = r.max_lines;
  line = r.line;
  header = r.header;
  starting = r.starting;
  last = r.last;
  ended = r.ended;
  fault = r.fault;
  unfinished = r.unfinished;
  start = start;
}

pub fresh_has_read : (max : ℕ) → HasRead (reader_with (fresh max) []) []
unfolding reading
fresh_has_read max = search arith

pub no_none : (o : Option Header) → IsSome o → o ≡ None → ⊥
no_none o is e = search arith

pub none_of : (o : Option Header) → is_some o ≡ false → o ≡ None
none_of o e = search arith

pub some_of : (o : Option Header) → is_some o ≡ true → (h : Header) × (o ≡ Some h)
some_of None e = cc
some_of (Some h) e = (h, refl)
