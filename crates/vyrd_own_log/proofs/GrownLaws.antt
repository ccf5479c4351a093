-- What longer bytes say: what was read stays read, and a fault of text that is known stays.
use Rattle.vyrd_own_log.proofs.Prelude
use Prelude.{◌≡◌, ℕ, ◌+◌, ◌≤◌, Bool, true, false, ◌||◌, length, List, [], ◌∷◌, ◌++◌, Option, Some}
use Prelude.{None, refl, ap, sym, ◌∙◌, subst, arith, append_assoc, append-nil, Header, Rule}
use Prelude.{TextFault, has_any, written_in, OwnReading, own_reading, cut, lacks, lacks-append}
use Prelude.{both_true, same_of, most_lines, Stage, are_callable, header_at, has_ended, input_to}
use Prelude.{lines_on, known, unless_faulty, IsFirst, parts_of, broken, own_step, Brought}
use Prelude.{nothing_brought, brought_then, brought_by, with_read, rest_rule, OwnReaderKept}
use Prelude.{fresh_kept, goes_on, HasReached, IsSound, IsTaken, to_go_on, input_of, has_begun}
use Prelude.{IsGrown, ends, IsFormed}
use Rattle.vyrd_own_log.specs.declared.stage.Stage.TheVariants as stages
use Rattle.vyrd_own_log.proofs.CountLaws.{IsCounted, is_past, line_counted, same_counted}
use Rattle.vyrd_own_log.proofs.FollowLaws.{IsBare, entries_bare, reading_follows}
use Rattle.vyrd_own_log.proofs.ReaderLaws.{longer_taken, faulty_taken, broken_taken, line_taken}
use Rattle.vyrd_own_log.proofs.ReaderLaws.{line_sound, read_now}

-- bytes were read so far
record Reached (max : ℕ) (bytes : List ℕ) : Type 0 where
  kept : OwnReaderKept
  brought : Brought
  sound : IsSound kept
  limit : kept.lines.max_lines ≡ max
  counted : IsCounted kept.lines brought
  reached : HasReached kept.lines kept.unfinished brought bytes

-- one byte more
module _ (max : ℕ) (before : List ℕ) (at : Reached max before) where
  taken_to : (x : ℕ) (b : Brought) (n : OwnReaderKept) → IsTaken at.kept (x ∷ []) b n → IsSound n
      → IsCounted n.lines (brought_then at.brought b)
      → Reached max (before ++ x ∷ [])
  taken_to x b n taken sound counted = record {
    kept = n;
    brought = brought_then at.brought b;
    sound = sound;
    limit = taken.limit ∙ at.limit;
    counted = counted;
    reached = taken.reached at.brought before at.reached;
  }

  byte_within : (x : ℕ) → lacks 10 (x ∷ []) ≡ true → Reached max (before ++ x ∷ [])
  byte_within x one = by_fault at.kept.lines.fault refl
    where
      by_rule : at.kept.lines.fault ≡ None → (o : Option Rule)
          → rest_rule at.kept.lines (at.kept.unfinished ++ x ∷ []) ≡ o
          → Reached max (before ++ x ∷ [])
      by_rule fine None is = taken_to x nothing_brought
          (record at.kept { unfinished = at.kept.unfinished ++ x ∷ [] })
          (longer_taken at.kept (x ∷ [])) (record {
            steady = at.sound.steady;
            first = at.sound.first;
            one_line = lacks-append 10 at.kept.unfinished (x ∷ []) at.sound.one_line one;
            noticed = λ f. is;
          }) (same_counted at.kept.lines at.kept.lines at.brought refl refl at.counted)
      by_rule fine (Some rule) is = taken_to x nothing_brought
          (record at.kept { lines = (broken at.kept.lines rule).0 })
          (broken_taken at.kept (x ∷ []) at.sound one fine rule is) (record {
            steady = record {
              low = at.sound.steady.low;
              high = at.sound.steady.high;
              counted = at.sound.steady.counted;
              callable = at.sound.steady.callable;
            };
            first = first_of at.kept.lines.stage at.sound.first;
            one_line = at.sound.one_line;
            noticed = λ f. cc;
          }) (same_counted at.kept.lines (broken at.kept.lines rule).0 at.brought refl refl
          at.counted)
        where
          first_of : (st : Stage) → IsFirst st at.kept.lines
              → IsFirst st (broken at.kept.lines rule).0
          first_of stages.Header f = f
          first_of (stages.Specification h) f = tt
          first_of (stages.Starts h last) f = tt
          first_of (stages.Entries h) f = tt
          first_of (stages.End h) f = tt

      by_fault : (f : Option TextFault) → at.kept.lines.fault ≡ f → Reached max (before ++ x ∷ [])
      by_fault (Some f) is = taken_to x nothing_brought at.kept (faulty_taken at.kept f (x ∷ []) is)
          at.sound
          (same_counted at.kept.lines at.kept.lines at.brought refl refl at.counted)
      by_fault None is = by_rule is (rest_rule at.kept.lines (at.kept.unfinished ++ x ∷ [])) refl

  line_feed : Reached max (before ++ 10 ∷ [])
  line_feed = taken_to 10
      (brought_by at.kept.lines.line (at.kept.unfinished ++ [])
      (own_step at.kept.lines (at.kept.unfinished ++ [])).1)
      (record at.kept {
        lines = (own_step at.kept.lines (at.kept.unfinished ++ [])).0;
        unfinished = [];
      }) (line_taken _ [] at.sound refl _ _) (line_sound at.kept [] at.sound refl _ _)
      (line_counted at.kept.lines (at.kept.unfinished ++ []) at.brought at.counted)

  one_more : (x : ℕ) → Reached max (before ++ x ∷ [])
  one_more x = search (same_of, line_feed, byte_within, both_true, arith)

all_more : (max : ℕ) (before bytes : List ℕ) → Reached max before → Reached max (before ++ bytes)
all_more max before [] at = subst (Reached max) (sym (append-nil before)) at
all_more max before (x ∷ bytes) at =
    subst (Reached max) (append_assoc before (x ∷ []) bytes)
    (all_more max (before ++ x ∷ []) bytes (one_more max before at x))

reached_all : (max : ℕ) (bytes : List ℕ) → 1 ≤ max → max ≤ most_lines → Reached max bytes
unfolding own_reading
reached_all max bytes low high = all_more max [] bytes (record {
  kept = fresh_kept max;
  brought = nothing_brought;
  sound = record {
    steady = record { low = low; high = high; counted = omega arith; callable = refl };
    first = (refl, refl);
    one_line = refl;
    noticed = λ fine. refl;
  };
  limit = refl;
  counted = record { past = λ e. cc; numbered = refl; few = omega arith };
  reached = record { follows = λ w more. refl; said = refl };
})

-- the end was read, and nothing comes after it
record IsOver (read : OwnReading) : Type 0 where
  ended : read.ended ≡ true
  entries : read.entries ≡ []
  numbers : read.numbers ≡ []

-- where something past the starting words was read, none of them comes any more
pub past_of : (k : OwnReaderKept) (b : Brought) → IsCounted k.lines b
    → (has_any b.entries || has_ended k.lines.stage) ≡ true → is_past k.lines.stage ≡ true
past_of k b counted e = grind (arith, counted, has_any)

-- what is read on keeps the header and the end
module _ (k : OwnReaderKept) (w : Bool) (more : List ℕ) where
  header_stays : (h : Header) → header_at k.lines.stage ≡ Some h
      → (goes_on k.lines k.unfinished w more).header ≡ Some h
  header_stays h e = search arith

  end_stays : has_ended k.lines.stage ≡ true → IsOver (goes_on k.lines k.unfinished w more)
  end_stays e = by_fault k.lines.fault
    where
      by_stage : (st : Stage) (line : List ℕ) (lines : List (List ℕ)) → has_ended st ≡ true
          → IsOver (lines_on (input_to k.lines w) k.lines.said k.lines.line st (line ∷ lines))
      by_stage stages.Header line lines f = cc
      by_stage (stages.Specification g) line lines f = cc
      by_stage (stages.Starts g last) line lines f = cc
      by_stage (stages.Entries g) line lines f = cc
      by_stage (stages.End g) line lines f = record { ended = refl; entries = refl; numbers = refl }

      by_fault : (o : Option TextFault)
          → IsOver (unless_faulty k.lines (input_to k.lines w) (cut (k.unfinished ++ more)) o)
      by_fault (Some f) = record { ended = e; entries = refl; numbers = refl }
      by_fault None =
          let p = parts_of (k.unfinished ++ more) in
          rw p.2 (by_stage k.lines.stage p.0 p.1 e)

  -- neither lines of the specification nor starting words come any more
  past_bare : is_past k.lines.stage ≡ true → IsBare (goes_on k.lines k.unfinished w more)
  past_bare e = search (entries_bare, arith)

  fault_stays : (f : TextFault) → k.lines.fault ≡ Some f → goes_on k.lines k.unfinished w more
      ≡ known k.lines k.lines.fault
  fault_stays f is = search arith

pub reading_grown : (max : ℕ) (w : Bool) (bytes more : List ℕ) → 1 ≤ max → max ≤ most_lines
    → IsGrown (own_reading (to_go_on max) bytes) (own_reading (input_of max w) (bytes ++ more))
reading_grown max w bytes more low high = record {
  header = λ h e. ap (λ read. read.header) new
      ∙ header_stays k w more h (sym (ap (λ read. read.header) old) ∙ e);
  lines = (
    on.lines,
    ap (λ read. read.lines) new
        ∙ ap (λ t. t ++ on.lines) (sym (ap (λ read. read.lines) old ∙ append-nil b.lines)),
  );
  starting = (
    on.starting,
    ap (λ read. read.starting) new ∙ ap (λ t. t ++ on.starting)
        (sym (ap (λ read. read.starting) old ∙ append-nil b.starting)),
  );
  entries = (
    on.entries,
    ap (λ read. read.entries) new ∙ ap (λ t. t ++ on.entries)
        (sym (ap (λ read. read.entries) old ∙ append-nil b.entries)),
  );
  numbers = (
    on.numbers,
    ap (λ read. read.numbers) new ∙ ap (λ t. t ++ on.numbers)
        (sym (ap (λ read. read.numbers) old ∙ append-nil b.numbers)),
  );
  begun = λ e.
      let bare = past_bare k w more (past_of k b at.counted (begun_is e)) in (
        ap (λ read. read.lines) new ∙ ap (λ t. b.lines ++ t) bare.lines
            ∙ sym (ap (λ read. read.lines) old),
        ap (λ read. read.starting) new ∙ ap (λ t. b.starting ++ t) bare.starting
            ∙ sym (ap (λ read. read.starting) old),
      );
  ended = λ e.
      let done = end_stays k w more (sym (ap (λ read. read.ended) old) ∙ e) in (
        ap (λ read. read.ended) new ∙ done.ended,
        ap (λ read. read.entries) new ∙ ap (λ t. b.entries ++ t) done.entries
            ∙ sym (ap (λ read. read.entries) old),
        ap (λ read. read.numbers) new ∙ ap (λ t. b.numbers ++ t) done.numbers
            ∙ sym (ap (λ read. read.numbers) old),
      );
  fault = λ f e. new
      ∙ ap (with_read b) (fault_stays k w more f (sym (ap (λ read. read.fault) old) ∙ e)) ∙ sym old;
}
  where
    at : Reached max bytes
    at = reached_all max bytes low high

    k : OwnReaderKept
    k = at.kept

    b : Brought
    b = at.brought

    on : OwnReading
    on = goes_on k.lines k.unfinished w more

    old : own_reading (to_go_on max) bytes ≡ with_read b (known k.lines k.lines.fault)
    old = cc (at.limit, read_now k b bytes at.sound at.reached)

    begun_is : has_begun (own_reading (to_go_on max) bytes) ≡ true
        → (has_any b.entries || has_ended k.lines.stage) ≡ true
    begun_is e = sym (ap has_begun old ∙ ap (λ es. has_any es || has_ended k.lines.stage)
        (append-nil b.entries)) ∙ e

    new : own_reading (input_of max w) (bytes ++ more) ≡ with_read b on
    new = cc (at.limit, at.reached.follows w more)

pub reading_callable : (max : ℕ) (bytes : List ℕ) → 1 ≤ max → max ≤ most_lines
    → are_callable (written_in (own_reading (to_go_on max) bytes).lines).methods ≡ true
reading_callable max bytes low high =
    let at = reached_all max bytes low high in
    let old = ap (λ m. own_reading (to_go_on m) bytes) (sym at.limit)
    ∙ read_now at.kept _ _ at.sound at.reached in
    cc (append-nil at.brought.lines, at.reached.said, at.sound.steady.callable)

-- what is true of all that is read
pub reading_formed : (max : ℕ) (bytes : List ℕ) → 1 ≤ max → max ≤ most_lines
    → IsFormed max (own_reading (to_go_on max) bytes)
reading_formed max bytes low high = record {
  numbered = by_parts (ap (λ (read : OwnReading). read.numbers) old ∙ append-nil b.numbers)
      (ap (λ (read : OwnReading). read.starting) old ∙ append-nil b.starting)
      (ap (λ (read : OwnReading). read.entries) old ∙ append-nil b.entries)
      (ap (λ (read : OwnReading). read.ended) old);
  few = omega (
    arith,
    ap length (ap (λ (read : OwnReading). read.numbers) old
        ∙ append-nil b.numbers),
    at.counted.few,
    at.sound.steady.counted,
    at.limit,
  );
  headless = λ none. by_begun (has_any b.entries || has_ended k.lines.stage) refl
      (sym (ap (λ (read : OwnReading). read.header) old) ∙ none);
  header = λ h has. reading_follows (to_go_on max) bytes h has;
}
  where
    at : Reached max bytes
    at = reached_all max bytes low high

    k : OwnReaderKept
    k = at.kept

    b : Brought
    b = at.brought

    old : own_reading (to_go_on max) bytes ≡ with_read b (known k.lines k.lines.fault)
    old = cc (at.limit, read_now k b bytes at.sound at.reached)

    read : OwnReading
    read = own_reading (to_go_on max) bytes

    by_parts : read.numbers ≡ b.numbers → read.starting ≡ b.starting → read.entries ≡ b.entries
        → read.ended ≡ has_ended k.lines.stage
        → length read.numbers ≡ length read.starting + length read.entries + ends read.ended
    by_parts numbers starting entries ended = cc (at.counted.numbered)

    begun_is : has_begun read ≡ (has_any b.entries || has_ended k.lines.stage)
    begun_is = ap has_begun old ∙ ap (λ es. has_any es || has_ended k.lines.stage)
        (append-nil b.entries)

    by_stage : (st : Stage) → is_past st ≡ true → header_at st ≡ None → ⊥
    by_stage stages.Header past none = cc
    by_stage (stages.Specification h) past none = cc
    by_stage (stages.Starts h last) past none = cc
    by_stage (stages.Entries h) past none = cc
    by_stage (stages.End h) past none = cc

    by_begun : (t : Bool) → (has_any b.entries || has_ended k.lines.stage) ≡ t
        → header_at k.lines.stage ≡ None → has_begun read ≡ false
    by_begun false is none = begun_is ∙ is
    by_begun true is none = absurd (by_stage k.lines.stage (past_of k b at.counted is) none)
