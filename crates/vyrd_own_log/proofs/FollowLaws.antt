-- The starting words that are read keep both rules, and the header names the user's own subject.
use Rattle.vyrd_own_log.proofs.Prelude
use Prelude.{◌≡◌, ℕ, ◌+◌, Bool, true, false, cond, not, ◌&&◌, ◌||◌, List, [], ◌∷◌, Option, Some}
use Prelude.{None, refl, ap, sym, ◌∙◌, ◌==◌, nat_lt, slice_split, bytes_eq, Header, Own, Entry}
use Prelude.{StartWord, SpecificationLine, TooManyLines, BadHeader, Specification, StartRange}
use Prelude.{StartOrder, limits_of, ◌breaks◌, first_broken, end_line, is_out_of_range}
use Prelude.{is_out_of_order, start_rule, do_follow, start_in, header_if, Input, after_end_rule}
use Prelude.{Written, SoFar, nothing_read, read_next, own_entry_in, OwnReading, own_stopped}
use Prelude.{own_ended, is_note, own_entry_before, entries_read, own_start_before, own_starts_read}
use Prelude.{line_before, specification_read, own_header_in, own_text_read, own_reading, both_true}
use Rattle.vyrd_base.specs.declared.own.line.SpecificationLine.TheVariants as said
use Rattle.vyrd_own_log.proofs.HeaderLaws.{header_sound, header_complete}

-- neither lines of a specification nor starting words
pub record IsBare (read : OwnReading) : Type 0 where
  pub lines : read.lines ≡ []
  pub starting : read.starting ≡ []

pub entries_bare : (input : Input) (w : Written) (n : ℕ) (lines : List (List ℕ))
    → IsBare (entries_read input w n lines)
entries_bare input w n [] = record { lines = refl; starting = refl }
entries_bare input w n (rest ∷ []) = record { lines = refl; starting = refl }
entries_bare input w n (line ∷ next ∷ lines) =
    by_tests (entries_bare input w (n + 1) (next ∷ lines)) (nat_lt input.max_lines n) (is_note line)
    (bytes_eq line end_line) (own_entry_in w line)
  where
    rest : OwnReading
    rest = entries_read input w (n + 1) (next ∷ lines)

    by_tests : IsBare rest → (past note is_end : Bool) (o : Option Entry)
        → IsBare (cond past (own_stopped n (Some TooManyLines)) (cond note rest
        (cond is_end (own_ended n (after_end_rule input (n + 1) next lines))
        (own_entry_before n o rest))))
    by_tests bare true note is_end o = record { lines = refl; starting = refl }
    by_tests bare false true is_end o = bare
    by_tests bare false false true o = record { lines = refl; starting = refl }
    by_tests bare false false false None = record { lines = refl; starting = refl }
    by_tests bare false false false (Some e) =
        record { lines = bare.lines; starting = bare.starting }

starts_follow : (input : Input) (h : Header) (w : Written) (last : Option StartWord) (n : ℕ)
    (lines : List (List ℕ))
    → do_follow h last (own_starts_read input h w last n lines).starting ≡ true
starts_follow input h w last n [] = refl
starts_follow input h w last n (rest ∷ []) = refl
starts_follow input h w last n (line ∷ next ∷ lines) =
    by_tests (λ x. starts_follow input h w x (n + 1) (next ∷ lines)) (is_note line)
    (nat_lt input.max_lines n) (start_in line)
  where
    on : Option StartWord → OwnReading
    on x = own_starts_read input h w x (n + 1) (next ∷ lines)

    Follow : Type 0
    Follow = (x : Option StartWord) → do_follow h x (on x).starting ≡ true

    at_start : Bool → Option StartWord → OwnReading
    at_start past o = elim o as (λ _. OwnReading) [
      | None ↦ entries_read input w n (line ∷ next ∷ lines)
      | Some s ↦ cond past (own_stopped n (Some TooManyLines))
          (own_start_before n (start_rule h last s) s (on (Some s)))
    ]

    by_rule : Follow → (s : StartWord) (a b : Bool) → is_out_of_range h s ≡ a
        → is_out_of_order last s ≡ b
        → do_follow h last
        (own_start_before n (first_broken ((a breaks StartRange) ∷ (b breaks StartOrder) ∷ [])) s
        (on (Some s))).starting ≡ true
    by_rule follow s true b ea eb = refl
    by_rule follow s false true ea eb = refl
    by_rule follow s false false ea eb =
        both_true (not (is_out_of_range h s || is_out_of_order last s)) _ (λ i. not (ea i || eb i))
        (follow (Some s))

    by_start : Follow → (past : Bool) (o : Option StartWord)
        → do_follow h last (at_start past o).starting ≡ true
    by_start follow past None = cc ((entries_bare input w n (line ∷ next ∷ lines)).starting)
    by_start follow true (Some s) = refl
    by_start follow false (Some s) = by_rule follow s (is_out_of_range h s) (is_out_of_order last s)
        refl refl

    by_tests : Follow → (note past : Bool) (o : Option StartWord)
        → do_follow h last (cond (note && not past) (on last) (at_start past o)).starting ≡ true
    by_tests follow true true o = by_start follow true o
    by_tests follow true false o = follow last
    by_tests follow false past o = by_start follow past o

specification_follow : (input : Input) (h : Header) (s : SoFar) (n : ℕ) (lines : List (List ℕ))
    → do_follow h None (specification_read input h s n lines).starting ≡ true
specification_follow input h s n [] = refl
specification_follow input h s n (rest ∷ []) = refl
specification_follow input h s n (line ∷ next ∷ lines) =
    by_tests (specification_follow input h (read_next s line).1 (n + 1) (next ∷ lines))
    (nat_lt input.max_lines n) (read_next s line).0
  where
    rest : OwnReading
    rest = specification_read input h (read_next s line).1 (n + 1) (next ∷ lines)

    told : SpecificationLine → OwnReading
    told x = elim x as (λ _. OwnReading) [
      | said.More ↦ line_before line rest
      | said.Log ↦ own_starts_read input h s.specification None (n + 1) (next ∷ lines)
      | said.Refused rule column ↦ own_stopped n (Some (Specification rule))
    ]

    by_tests : do_follow h None rest.starting ≡ true → (past : Bool) (x : SpecificationLine)
        → do_follow h None (cond past (own_stopped n (Some TooManyLines)) (told x)).starting ≡ true
    by_tests follow true x = refl
    by_tests follow false said.More = follow
    by_tests follow false said.Log = starts_follow input h s.specification None (n + 1)
        (next ∷ lines)
    by_tests follow false (said.Refused rule column) = refl

-- the subject of a header that is read
made_own : (words callers : ℕ) (b : Bool) (e : limits_of Own 3 words callers ≡ b) (h : Header)
    → header_if 3 Own words callers b e ≡ Some h
    → h.subject ≡ Own
made_own words callers true e h is = cc
made_own words callers false e h is = cc

line_own : (line : List ℕ) (h : Header) → own_header_in line ≡ Some h → h.subject ≡ Own
line_own line h is =
    let spelled = header_sound line h is in
    made_own spelled.words spelled.callers (limits_of Own 3 spelled.words spelled.callers) refl h
    (sym (header_complete _ _ spelled.sized) ∙ ap own_header_in (sym spelled.spelled) ∙ is)

parts_follow : (input : Input) (parts : List (List ℕ)) (h : Header)
    → (own_text_read input parts).header ≡ Some h
    → (h.subject ≡ Own) × (do_follow h None (own_text_read input parts).starting ≡ true)
parts_follow input [] h has = cc
parts_follow input (rest ∷ []) h has = cc
parts_follow input (line ∷ next ∷ lines) h has = by_header (own_header_in line) refl has
  where
    text : Option Header → OwnReading
    text o = elim o as (λ _. OwnReading) [
      | None ↦ own_stopped 1 (Some BadHeader)
      | Some g ↦
          record (specification_read input g nothing_read 2 (next ∷ lines)) { header = Some g }
    ]

    by_header : (o : Option Header) → own_header_in line ≡ o → (text o).header ≡ Some h
        → (h.subject ≡ Own) × (do_follow h None (text o).starting ≡ true)
    by_header None is e = cc
    by_header (Some g) is e =
        let same : g ≡ h = cc in (
          line_own line h (is ∙ ap Some same),
          rw (← same)
              (specification_follow input g nothing_read 2 (next ∷ lines)),
        )

pub reading_follows : (input : Input) (bytes : List ℕ) (h : Header)
    → (own_reading input bytes).header ≡ Some h
    → (h.subject ≡ Own) × (do_follow h None (own_reading input bytes).starting ≡ true)
unfolding own_reading
reading_follows input bytes h has = parts_follow input (slice_split (λ b. b == 10) bytes) h has
