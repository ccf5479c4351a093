-- How a reader goes on.
use Rattle.vyrd_own_log.proofs.Prelude
use Prelude.{◌≡◌, ℕ, Bool, true, false, cond, not, List, [], ◌∷◌, ◌++◌, Option, Some, None, refl}
use Prelude.{ap, sym, ◌∙◌, append_assoc, ◌==◌, onto_first, not-true, append-nil, StartWord, Rule}
use Prelude.{TextFault, fault_on, SoFar, nothing_read, read_next, read_lines, OwnReading}
use Prelude.{own_reading, cut, lacks, lacks-append, split_at, split_whole, first_true, second_true}
use Prelude.{parts_of, Found, LineState, input_to, known, unless_faulty, reads_on, broken, own_step}
use Prelude.{Brought, nothing_brought, brought_then, brought_by, with_read, rest_rule}
use Prelude.{OwnReaderKept, goes_on, HasReached, IsSound, IsTaken}
use Rattle.vyrd_own_log.proofs.EntryLaws.{AllCallable}
use Rattle.vyrd_own_log.proofs.StepLaws.{step_goes}
use Rattle.vyrd_own_log.proofs.SteadyLaws.{IsStep, step_is}
use Rattle.vyrd_own_log.proofs.RestLaws.{rest_step, no_rest, rest_so_far, rest_bad, rest_stays}

-- what was read before, before what was read before
twice : (a b : Brought) (r : OwnReading) → with_read a (with_read b r)
    ≡ with_read (brought_then a b) r
twice a b r = λ i. record r {
  lines = sym (append_assoc a.lines b.lines r.lines) i;
  starting = sym (append_assoc a.starting b.starting r.starting) i;
  entries = sym (append_assoc a.entries b.entries r.entries) i;
  numbers = sym (append_assoc a.numbers b.numbers r.numbers) i;
}

three : (a b c : Brought) → brought_then (brought_then a b) c ≡ brought_then a (brought_then b c)
three a b c = λ i. record {
  lines = append_assoc a.lines b.lines c.lines i;
  starting = append_assoc a.starting b.starting c.starting i;
  entries = append_assoc a.entries b.entries c.entries i;
  numbers = append_assoc a.numbers b.numbers c.numbers i;
}

pub and_nothing : (a : Brought) → brought_then a nothing_brought ≡ a
and_nothing a = λ i. record {
  lines = append-nil a.lines i;
  starting = append-nil a.starting i;
  entries = append-nil a.entries i;
  numbers = append-nil a.numbers i;
}

lines_then : (s : SoFar) (xs ys : List (List ℕ)) → read_lines s (xs ++ ys)
    ≡ read_lines (read_lines s xs) ys
lines_then s [] ys = refl
lines_then s (line ∷ xs) ys = lines_then (read_next s line).1 xs ys

-- what was taken in turn was taken together
pub taken_then : (k m n : OwnReaderKept) (xs ys : List ℕ) (b c : Brought) → IsTaken k xs b m
    → IsTaken m ys c n → IsTaken k (xs ++ ys) (brought_then b c) n
taken_then k m n xs ys b c first second = record {
  limit = second.limit ∙ first.limit;
  reached = λ a before has.
      rw (← append_assoc before xs ys)
      (rw (← three a b c)
      (second.reached _ (before ++ xs) (first.reached a _ has)));
}

-- Where bytes bring nothing: the reader goes on with what follows them as the other does.
nothing_taken : (k n : OwnReaderKept) (xs : List ℕ) → n.lines.max_lines ≡ k.lines.max_lines
    → n.lines.said
    ≡ k.lines.said
    → ((w : Bool) (more : List ℕ) → goes_on k.lines k.unfinished w (xs ++ more)
    ≡ goes_on n.lines n.unfinished w more)
    → IsTaken k xs nothing_brought n
nothing_taken k n xs same said on = record {
  limit = same;
  reached = λ a before has. rw (and_nothing a) (record {
    follows = λ w more.
        cc (append_assoc before xs more, has.follows w (xs ++ more), on w more);
    said = said ∙ has.said;
  });
}

-- no bytes
pub empty_taken : (k : OwnReaderKept) (start : List StartWord) → IsTaken k [] nothing_brought
    (record k { start = start })
empty_taken k start = nothing_taken k (record k { start = start }) [] refl refl (λ w more. refl)

-- a line that goes on
pub longer_taken : (k : OwnReaderKept) (xs : List ℕ) → IsTaken k xs nothing_brought
    (record k { unfinished = k.unfinished ++ xs })
longer_taken k xs = nothing_taken k _ _ refl refl (λ w more. cc (append_assoc k.unfinished xs more))

-- a reader with a fault takes nothing in
pub faulty_taken : (k : OwnReaderKept) (f : TextFault) (xs : List ℕ) → k.lines.fault ≡ Some f
    → IsTaken k xs nothing_brought k
faulty_taken k f xs is = nothing_taken k k _ refl refl (λ w more. ap (unless_faulty k.lines _ _) is
    ∙ sym (ap (unless_faulty k.lines _ _) is))

-- the beginning of a line, and what follows it
record IsCut (front more : List ℕ) : Type 0 where
  first : List ℕ
  rest : List (List ℕ)
  whole : cut (front ++ more) ≡ (front ++ first) ∷ rest

front_cut : (front more : List ℕ) → lacks 10 front ≡ true → IsCut front more
front_cut [] more lack = let p = parts_of more in record { first = p.0; rest = p.1; whole = p.2 }
front_cut (x ∷ front) more lack =
    let c = front_cut front more (second_true (not (x == 10)) _ lack) in record {
      first = c.first;
      rest = c.rest;
      whole = ap (λ t. cond t ([] ∷ cut (front ++ more)) (onto_first x (cut (front ++ more))))
          (not-true (x == 10) (first_true _ _ lack))
          ∙ ap (onto_first x) c.whole;
    }

module _ (k : OwnReaderKept) (xs : List ℕ) (sound : IsSound k) (one_line : lacks 10 xs ≡ true) where
  -- the line so far
  abbrev front : List ℕ
  front = k.unfinished ++ xs

  lack : lacks 10 (k.unfinished ++ xs) ≡ true
  lack = lacks-append 10 k.unfinished xs sound.one_line one_line

  -- a fault that is found before the line is whole
  module _ (fine : k.lines.fault ≡ None) (rule : Rule) (bad : rest_rule k.lines front ≡ Some rule)
    where
      abbrev r : LineState
      r = k.lines

      abbrev after : OwnReading
      after = known r (Some (record { line = r.line; rule = rule }))

      all : AllCallable r.said.specification
      all = second_true _ _ sound.steady.callable

      on_parts : (w : Bool) (first : List ℕ) (rest : List (List ℕ)) → reads_on r (input_to r w)
          ((front ++ first) ∷ rest) ≡ after
      on_parts w first [] =
          ap (unless_faulty r (input_to r w) ((front ++ first) ∷ [])) fine
          ∙ rest_bad r (front ++ first) sound.first w rule (rest_stays r front first rule bad)
      on_parts w first (next ∷ rest) =
          step_goes (front ++ first) next rest w r sound.steady.low sound.first
          ∙ ap (λ s. with_read (brought_by r.line (front ++ first) s.1)
          (reads_on s.0 (input_to r w) (next ∷ rest)))
          (rest_step r front first rule all fine bad)

      pub broken_taken : IsTaken k xs nothing_brought (record k { lines = (broken k.lines rule).0 })
      broken_taken = nothing_taken k (record k { lines = (broken k.lines rule).0 }) xs refl refl
          (λ w more.
          let c = front_cut front more lack in
          ap (λ t. reads_on r (input_to r w) (cut t)) (sym (append_assoc k.unfinished xs more))
          ∙ ap (reads_on r (input_to r w)) c.whole ∙ on_parts w c.first c.rest)

  -- a whole line
  abbrev step : LineState × Found
  step = own_step k.lines front

  pub line_taken : (specified : List (List ℕ)) (start : List StartWord) → IsTaken k (xs ++ 10 ∷ [])
      (brought_by k.lines.line front step.1)
      (record { lines = step.0; unfinished = []; specified = specified; start = start })
  line_taken specified start = record {
    limit = is.limit;
    reached = λ a before has. record {
      follows = λ w more.
          ap (λ m. own_reading (record { max_lines = m; is_whole = w })
          ((before ++ (xs ++ 10 ∷ [])) ++ more)) is.limit
          ∙ ap (own_reading (input_to k.lines w)) (four before xs (10 ∷ []) more)
          ∙ has.follows w (xs ++ 10 ∷ more)
          ∙ ap (with_read a) (on w more) ∙ twice a (brought_by k.lines.line front step.1)
          (goes_on step.0 [] w more);
      said = is.said ∙ ap (λ s. read_lines s (brought_by k.lines.line front step.1).lines) has.said
          ∙ sym (lines_then nothing_read a.lines (brought_by k.lines.line front step.1).lines);
    };
  }
    where
      is : IsStep k.lines front step
      is = step_is k.lines front sound.steady

      four : (a b c d : List ℕ) → (a ++ (b ++ c)) ++ d ≡ a ++ (b ++ (c ++ d))
      four a b c d = simp append_assoc

      on : (w : Bool) (more : List ℕ) → goes_on k.lines k.unfinished w (xs ++ 10 ∷ more)
          ≡ with_read (brought_by k.lines.line front step.1) (goes_on step.0 [] w more)
      on w more =
          let p = parts_of more in
          ap (λ t. reads_on k.lines (input_to k.lines w) (cut t))
          (sym (append_assoc k.unfinished xs (10 ∷ more)))
          ∙ ap (reads_on k.lines (input_to k.lines w))
          (split_at 10 front more lack ∙ ap (λ ps. front ∷ ps) p.2)
          ∙ step_goes front p.0 p.1 w k.lines sound.steady.low sound.first
          ∙ (λ i. with_read (brought_by k.lines.line front step.1)
          (reads_on step.0 (record { max_lines = sym is.limit i; is_whole = w }) (sym p.2 i)))

  -- and what is kept then
  pub line_sound : (specified : List (List ℕ)) (start : List StartWord)
      → IsSound (record { lines = step.0; unfinished = []; specified = specified; start = start })
  line_sound specified start = record {
    steady = (step_is k.lines front sound.steady).steady;
    first = (step_is k.lines front sound.steady).first sound.first;
    one_line = refl;
    noticed = λ fine. no_rest step.0;
  }

-- what the bytes so far say
pub read_now : (k : OwnReaderKept) (b : Brought) (bytes : List ℕ) → IsSound k
    → HasReached k.lines k.unfinished b bytes
    → own_reading (input_to k.lines false) bytes ≡ with_read b (known k.lines k.lines.fault)
read_now k b bytes sound has =
    ap (own_reading (input_to k.lines false)) (sym (append-nil bytes)) ∙ has.follows false []
    ∙ ap (λ t. with_read b (reads_on k.lines (input_to k.lines false) (cut t)))
    (append-nil k.unfinished)
    ∙ ap (λ ps. with_read b (reads_on k.lines (input_to k.lines false) ps))
    (split_whole 10 k.unfinished sound.one_line)
    ∙ ap (with_read b) (by_fault k.lines.fault refl)
  where
    by_fault : (f : Option TextFault) → k.lines.fault ≡ f
        → unless_faulty k.lines (input_to k.lines false) (k.unfinished ∷ []) f ≡ known k.lines f
    by_fault (Some f) is = refl
    by_fault None is = rest_so_far k.lines k.unfinished sound.first
        ∙ ap (λ o. known k.lines (fault_on k.lines.line o)) (sound.noticed is)
