-- What a reader that has been fed bytes says of them.
use Rattle.vyrd_own_log.proofs.Prelude
use Prelude.{◌≡◌, ℕ, ◌+◌, ◌-◌, ◌≤◌, Bool, true, false, List, [], ◌∷◌, ◌++◌, length, Option, Some}
use Prelude.{None, Result, refl, ap, sym, ◌∙◌, subst, arith, append_assoc, ◌==◌, nat_lt, OnOk}
use Prelude.{is_some, option_map, is_err, fault_of, below_of, is_below, not_below_of, isnt_below}
use Prelude.{option_or, append-nil, Entry, Rule, TextFault, has_any, own_reading, cut, split_whole}
use Prelude.{most_lines, IsAnswer, UnlessMemory, Found, LineState, input_to, known, unless_faulty}
use Prelude.{reads_on, has_ended, broken, own_step, Brought, nothing_brought, brought_then}
use Prelude.{brought_by, lines_of, starts_of, entries_of, numbers_of, with_read, rest_if, rest_rule}
use Prelude.{end_fault, fault_at_end, OwnReaderKept, ReaderState, fresh_kept, so_far, whole}
use Prelude.{HasReached, brought_in, HasRead, is_one_line, IsSound, IsTaken, IsFed, IsGrownBy}
use Rattle.vyrd_own_log.specs.declared.fault.LineFault.{LineFault}
use Rattle.vyrd_text.specs.declared.fault.TextFault as fault
use Rattle.vyrd_own_log.proofs.RestLaws.{rest_whole}
use Rattle.vyrd_own_log.proofs.ReaderLaws.{and_nothing, taken_then, empty_taken, broken_taken}
use Rattle.vyrd_own_log.proofs.ReaderLaws.{line_taken, line_sound, read_now}

-- no bytes were fed
pub nothing_fed : (k : OwnReaderKept) (es : List Entry) (ns : List ℕ) → IsFed k [] es es ns ns k
nothing_fed k es ns = record {
  brought = nothing_brought;
  taken = empty_taken k k.start;
  specified = sym (append-nil k.specified);
  start = sym (append-nil k.start);
  grown = sym (append-nil es);
  counted = sym (append-nil ns);
}

-- what was fed in turn was fed together
pub fed_then : (k m n : OwnReaderKept) (xs ys : List ℕ) (es fs gs : List Entry) (ms ns os : List ℕ)
    → IsFed k xs es fs ms ns m → IsFed m ys fs gs ns os n
    → IsFed k (xs ++ ys) es gs ms os n
fed_then k m n xs ys es fs gs ms ns os first second = record {
  brought = brought_then first.brought second.brought;
  taken = taken_then k m n xs ys first.brought second.brought first.taken second.taken;
  specified = second.specified ∙ ap (λ t. t ++ second.brought.lines) first.specified
      ∙ append_assoc k.specified first.brought.lines second.brought.lines;
  start = second.start ∙ ap (λ t. t ++ second.brought.starting) first.start
      ∙ append_assoc k.start first.brought.starting second.brought.starting;
  grown = second.grown ∙ ap (λ t. t ++ second.brought.entries) first.grown
      ∙ append_assoc es first.brought.entries second.brought.entries;
  counted = second.counted ∙ ap (λ t. t ++ second.brought.numbers) first.counted
      ∙ append_assoc ms first.brought.numbers second.brought.numbers;
}

-- bytes that bring nothing were fed
pub taken_fed : (k m : OwnReaderKept) (xs : List ℕ) (es : List Entry) (ns : List ℕ)
    → IsTaken k xs nothing_brought m → m.specified ≡ k.specified
    → m.start ≡ k.start → IsFed k xs es es ns ns m
taken_fed k m xs es ns taken alike same =
    grind (arith, append-nil k.specified, append-nil k.start, append-nil es, append-nil ns)

-- a whole line was fed
pub line_fed : (k n : OwnReaderKept) (xs : List ℕ) (found : Found) (es fs : List Entry)
    (ms ns : List ℕ)
    → IsSound k → is_one_line xs ≡ true
    → (n.lines, found) ≡ own_step k.lines (k.unfinished ++ xs) → n.unfinished ≡ []
    → n.specified ≡ k.specified ++ lines_of (k.unfinished ++ xs) found → n.start ≡ k.start
    ++ starts_of found
    → fs ≡ es ++ entries_of found → ns ≡ ms ++ numbers_of k.lines.line found
    → IsFed k (xs ++ 10 ∷ []) es fs ms ns n
line_fed k n xs found es fs ms ns sound one step empty specified start grown counted =
    let found_is : found ≡ (own_step k.lines (k.unfinished ++ xs)).1 = cc in
    record {
      brought = brought_by k.lines.line (k.unfinished ++ xs)
          (own_step k.lines (k.unfinished ++ xs)).1;
      taken = subst
          (λ m. IsTaken k (xs ++ 10 ∷ [])
          (brought_by k.lines.line (k.unfinished ++ xs) (own_step k.lines (k.unfinished ++ xs)).1)
          m) (λ i. record n { lines = (sym step i).0; unfinished = sym empty i })
          (line_taken k xs sound one n.specified n.start);
      specified = cc;
      start = cc;
      grown = cc;
      counted = cc;
    }

pub line_kept : (k n : OwnReaderKept) (xs : List ℕ) (found : Found) → IsSound k → is_one_line xs
    ≡ true
    → (n.lines, found) ≡ own_step k.lines (k.unfinished ++ xs) → n.unfinished ≡ [] → IsSound n
line_kept k n xs found sound one step empty =
    grind (arith, line_sound k xs sound one n.specified n.start)

-- what holds of an `Ok`
pub one_ok : {E P Q : Type 0} (r : Result (Unit {0}) E) → (P → Q) → OnOk r P → OnOk r Q
one_ok r f p = search arith

pub three_ok : {E P Q R S : Type 0} (r : Result (Unit {0}) E) → (P → Q → R → S) → OnOk r P
    → OnOk r Q → OnOk r R → OnOk r S
three_ok r f p q t = search arith

pub any_ok : {E P : Type 0} (r : Result (Unit {0}) E) → P → OnOk r P
any_ok r p = search arith

-- the rule of unfinished bytes, by a test for their length
pub rest_is : (r : LineState) (rest bytes : List ℕ) (is_long : Bool) → has_any bytes ≡ true
    → is_long ≡ nat_lt 200 (length (rest ++ bytes))
    → rest_rule r (rest ++ bytes) ≡ rest_if r true is_long
rest_is r rest bytes is_long some long = λ i. rest_if r (any rest bytes some i) (sym long i)
  where
    any : (xs ys : List ℕ) → has_any ys ≡ true → has_any (xs ++ ys) ≡ true
    any [] ys e = e
    any (x ∷ xs) ys e = refl

pub long_is : (a b n : ℕ) → a ≤ 200 → n ≡ a + b → nat_lt (200 - a) b ≡ nat_lt 200 n
long_is a b n small is = grind (arith, small, below_of, is_below, not_below_of, isnt_below)

pub some_of : (xs : List ℕ) → false ≡ (length xs == 0) → has_any xs ≡ true
some_of xs e = search arith

pub ok_of : {E P : Type 0} (r : Result (Unit {0}) E) → false ≡ is_err r → OnOk r P → P
ok_of r e p = search arith

-- a fault that is found before the line is whole
module _ (k n : OwnReaderKept) (bytes : List ℕ) (sound : IsSound k)
    (one_line : is_one_line bytes ≡ true)
    (fine : k.lines.fault ≡ None) (rule : Rule) (found : Found)
    (bad : rest_rule k.lines (k.unfinished ++ bytes) ≡ Some rule)
    (is : (n.lines, found) ≡ broken k.lines rule) (rest : n.unfinished ≡ k.unfinished) where
  same : n ≡ record {
    lines = (broken k.lines rule).0;
    unfinished = k.unfinished;
    specified = n.specified;
    start = n.start;
  }
  same = λ i. record {
    lines = (is i).0;
    unfinished = rest i;
    specified = n.specified;
    start = n.start;
  }

  pub fault_taken : IsTaken k bytes nothing_brought n
  fault_taken = restart k bytes (record k { lines = (broken k.lines rule).0 }) n
      (ap (λ m. m.lines) same) rest
      (broken_taken k bytes sound one_line fine rule bad)
    where
      restart : (a : OwnReaderKept) (xs : List ℕ) (b c : OwnReaderKept) → c.lines ≡ b.lines
          → c.unfinished
          ≡ b.unfinished → IsTaken a xs nothing_brought b
          → IsTaken a xs nothing_brought c
      restart a xs b c lines rest taken = record {
        limit = ap (λ r. r.max_lines) lines ∙ taken.limit;
        reached = λ x before has.
            subst (λ r. HasReached r c.unfinished (brought_then x nothing_brought) (before ++ xs))
            (sym lines)
            (subst (λ t. HasReached b.lines t (brought_then x nothing_brought) (before ++ xs))
            (sym rest) (taken.reached x before has));
      }

-- the answers about the text
pub whole_now : (k : OwnReaderKept) (b : Brought) (bytes : List ℕ) → IsSound k
    → HasReached k.lines k.unfinished b bytes
    → own_reading (input_to k.lines true) bytes
    ≡ with_read b (known k.lines (fault_at_end k.lines k.unfinished))
whole_now k b bytes sound has =
    ap (own_reading (input_to k.lines true)) (sym (append-nil bytes)) ∙ has.follows true []
    ∙ ap (λ t. with_read b (reads_on k.lines (input_to k.lines true) (cut t)))
    (append-nil k.unfinished)
    ∙ ap (λ ps. with_read b (reads_on k.lines (input_to k.lines true) ps))
    (split_whole 10 k.unfinished sound.one_line)
    ∙ ap (with_read b) (by_fault k.lines.fault refl)
  where
    by_fault : (f : Option TextFault) → k.lines.fault ≡ f
        → unless_faulty k.lines (input_to k.lines true) (k.unfinished ∷ []) f
        ≡ known k.lines (option_or f (end_fault k.lines k.unfinished))
    by_fault (Some f) is = refl
    by_fault None is = rest_whole k.lines k.unfinished sound.first (sound.noticed is)

-- what was brought is what the bytes say
brought_is : (k : OwnReaderKept) (b : Brought) (bytes : List ℕ) → IsSound k
    → HasReached k.lines k.unfinished b bytes
    → b ≡ brought_in (own_reading (input_to k.lines false) bytes)
brought_is k b bytes sound has = cc (read_now k b bytes sound has, and_nothing b)

pub has_read : (r : ReaderState) (b : Brought) (bytes : List ℕ) → r.has_failed ≡ false
    → IsSound r.kept
    → HasReached r.kept.lines r.kept.unfinished b bytes → r.kept.specified ≡ b.lines → r.kept.start
    ≡ b.starting → HasRead r bytes
has_read r b bytes works sound has specified start =
    grind (arith, read_now r.kept b bytes sound has, has.said, brought_is r.kept b bytes sound has)

pub fresh_read : (max : ℕ) (r : ReaderState) → 1 ≤ max → max ≤ most_lines → r.has_failed ≡ false
    → r.kept ≡ fresh_kept max → HasRead r []
unfolding own_reading
fresh_read max r low high works is =
    rw is (has_read _ nothing_brought [] works
    (record {
      steady = record { low = low; high = high; counted = omega arith; callable = refl };
      first = (refl, refl);
      one_line = refl;
      noticed = λ fine. refl;
    }) (record { follows = λ w more. refl; said = refl }) refl refl)

-- bytes were fed to a reader that had read some
module _ (old new : ReaderState) (bytes piece : List ℕ) (es fs : List Entry) (ms ns : List ℕ)
    (has : HasRead old bytes)
    (fed : IsSound old.kept → IsFed old.kept piece es fs ms ns new.kept)
    (kept : IsSound old.kept → IsSound new.kept) (works : new.has_failed ≡ false) where
  abbrev one : IsFed old.kept piece es fs ms ns new.kept
  one = fed has.sound

  abbrev all : Brought
  all = brought_then (brought_in (own_reading (so_far old) bytes)) one.brought

  now : HasReached new.kept.lines new.kept.unfinished all (bytes ++ piece)
  now = one.taken.reached (brought_in (own_reading (so_far old) bytes)) bytes has.reached

  pub fed_read : HasRead new (bytes ++ piece)
  fed_read = has_read new all (bytes ++ piece) works (kept has.sound) now
      (cc (one.specified, has.lines)) (cc (one.start, has.start))

  same_input : so_far new ≡ so_far old
  same_input = ap (λ n. record { max_lines = n; is_whole = false }) one.taken.limit

  said : all ≡ brought_in (own_reading (so_far old) (bytes ++ piece))
  said = grind (arith, brought_is new.kept all (bytes ++ piece) (kept has.sound) now)

  pub fed_entries : IsGrownBy es (own_reading (so_far old) bytes).entries fs
      (own_reading (so_far old) (bytes ++ piece)).entries
  fed_entries = search (said, arith)

  pub fed_numbers : IsGrownBy ms (own_reading (so_far old) bytes).numbers ns
      (own_reading (so_far old) (bytes ++ piece)).numbers
  fed_numbers = search (said, arith)

  pub fed_fault : new.kept.lines.fault ≡ (own_reading (so_far old) (bytes ++ piece)).fault
  fed_fault = fed_read.fault ∙ ap (λ input. (own_reading input (bytes ++ piece)).fault) same_input

pub unless : {P : Type 0} (r : Result (Unit {0}) fault.TextFault) → P → UnlessMemory r P
unless e0 p = grind arith

-- what the whole input says
module _ (r : ReaderState) (bytes : List ℕ) (has : HasRead r bytes) where
  at_end : own_reading (whole r) bytes
      ≡ with_read (brought_in (own_reading (so_far r) bytes))
      (known r.kept.lines (fault_at_end r.kept.lines r.kept.unfinished))
  at_end = whole_now r.kept (brought_in (own_reading (so_far r) bytes)) bytes has.sound has.reached

  pub end_fault_is : fault_at_end r.kept.lines r.kept.unfinished
      ≡ (own_reading (whole r) bytes).fault
  end_fault_is = sym (ap (λ read. read.fault) at_end)

  pub end_alike : own_reading (whole r) bytes
      ≡ record (own_reading (so_far r) bytes) { fault = (own_reading (whole r) bytes).fault }
  end_alike = λ i. record {
    header = (ap (λ read. read.header) at_end ∙ has.header) i;
    lines = (ap (λ read. read.lines) at_end ∙ append-nil (own_reading _ _).lines) i;
    starting = (ap (λ read. read.starting) at_end ∙ append-nil (own_reading _ _).starting) i;
    entries = (ap (λ read. read.entries) at_end ∙ append-nil (own_reading _ _).entries) i;
    numbers = (ap (λ read. read.numbers) at_end ∙ append-nil (own_reading _ _).numbers) i;
    ended = (ap (λ read. read.ended) at_end ∙ has.ended) i;
    fault = (own_reading (whole r) bytes).fault;
  }

  no_fault_ends : fault_at_end r.kept.lines r.kept.unfinished ≡ None → has_ended r.kept.lines.stage
      ≡ true
  no_fault_ends none = search (has_any, arith)

  pub end_ended : (x : Result (Unit {0}) fault.TextFault)
      → IsAnswer x (fault_at_end r.kept.lines r.kept.unfinished)
      → OnOk x ((own_reading (whole r) bytes).ended ≡ true)
  end_ended x is = search (at_end, no_fault_ends, arith)

pub no_fault : (o : Option LineFault) → is_some o ≡ false → option_map fault_of o ≡ None
no_fault o e = search arith
