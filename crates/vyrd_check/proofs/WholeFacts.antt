-- The whole input says of header, starting words, entries and `end` what its bytes say so far.
use Rattle.vyrd_check.proofs.Prelude
use Prelude.{◌≡◌, ℕ, ◌+◌, Bool, true, false, cond, List, [], ◌∷◌, Option, Some, None, Result, Ok}
use Prelude.{Err, refl, ap, ◌==◌, nat_lt, slice_split, bytes_eq, Header, Subject, Entry, StartWord}
use Prelude.{Rule, end_line, start_rule, start_in, entry_in, header_in, Reading, stopped, ended}
use Prelude.{after_end_rule, entry_before, lines_read, start_before, starts_read, body_read}
use Prelude.{header_before, text_read, reading, so_far, input_of, read_so_far, read_whole}
use Rattle.vyrd_base.specs.declared.verdict.Rule.TheVariants.{BadEntry, TooManyLines}

-- two readings that differ in their faults at most
pub record IsSameText (a b : Reading) : Type 0 where
  pub header : a.header ≡ b.header
  pub starting : a.starting ≡ b.starting
  pub entries : a.entries ≡ b.entries
  pub ended : a.ended ≡ b.ended

same_text : (r : Reading) → IsSameText r r
same_text r = record { header = refl; starting = refl; entries = refl; ended = refl }

entry_same : (n : ℕ) (o : Option Entry) (a b : Reading) → IsSameText a b
    → IsSameText (entry_before n o a) (entry_before n o b)
entry_same n None a b s = same_text (stopped n (Some BadEntry))
entry_same n (Some e) a b s = record {
  header = s.header;
  starting = s.starting;
  entries = ap (λ es. e ∷ es) s.entries;
  ended = s.ended;
}

lines_same : (max : ℕ) (subject : Subject) (n : ℕ) (parts : List (List ℕ))
    → IsSameText (lines_read (so_far max) subject n parts)
    (lines_read (input_of max true) subject n parts)
lines_same max subject n [] = same_text (stopped n None)
lines_same max subject n (rest ∷ []) =
    record { header = refl; starting = refl; entries = refl; ended = refl }
lines_same max subject n (line ∷ next ∷ lines) = by_tests
    (lines_same max subject (n + 1) (next ∷ lines)) (nat_lt max n) (bytes_eq line end_line)
  where
    of_rest : Bool → Reading
    of_rest whole = lines_read (input_of max whole) subject (n + 1) (next ∷ lines)

    at_line : Bool → Bool → Bool → Reading
    at_line whole past is_end = cond past (stopped n (Some TooManyLines))
        (cond is_end (ended (n + 1) (after_end_rule (input_of max whole) (n + 1) next lines))
        (entry_before n (entry_in subject line) (of_rest whole)))

    by_tests : IsSameText (of_rest false) (of_rest true) → (past is_end : Bool)
        → IsSameText (at_line false past is_end) (at_line true past is_end)
    by_tests s true is_end = same_text (stopped n (Some TooManyLines))
    by_tests s false true = record { header = refl; starting = refl; entries = refl; ended = refl }
    by_tests s false false = entry_same n (entry_in subject line) (of_rest false) (of_rest true) s

start_same : (n : ℕ) (o : Option Rule) (w : StartWord) (a b : Reading) → IsSameText a b
    → IsSameText (start_before n o w a) (start_before n o w b)
start_same n (Some rule) w a b s = same_text (stopped n (Some rule))
start_same n None w a b s = record {
  header = s.header;
  starting = ap (λ ss. w ∷ ss) s.starting;
  entries = s.entries;
  ended = s.ended;
}

starts_same : (max : ℕ) (h : Header) (last : Option StartWord) (n : ℕ) (parts : List (List ℕ))
    → IsSameText (starts_read (so_far max) h last n parts)
    (starts_read (input_of max true) h last n parts)
starts_same max h last n [] = same_text (stopped n None)
starts_same max h last n (rest ∷ []) =
    record { header = refl; starting = refl; entries = refl; ended = refl }
starts_same max h last n (line ∷ next ∷ lines) =
    by_line (λ s. starts_same max h (Some s) (n + 1) (next ∷ lines)) (start_in line)
  where
    of_rest : Bool → StartWord → Reading
    of_rest whole s = starts_read (input_of max whole) h (Some s) (n + 1) (next ∷ lines)

    at_line : Bool → Option StartWord → Reading
    at_line whole o = elim o as (λ _. Reading) [
      | None ↦ lines_read (input_of max whole) h.subject n (line ∷ next ∷ lines)
      | Some s ↦ cond (nat_lt max n) (stopped n (Some TooManyLines))
          (start_before n (start_rule h last s) s (of_rest whole s))
    ]

    by_limit : (s : StartWord) → IsSameText (of_rest false s) (of_rest true s) → (past : Bool)
        → IsSameText
        (cond past (stopped n (Some TooManyLines))
        (start_before n (start_rule h last s) s (of_rest false s)))
        (cond past (stopped n (Some TooManyLines))
        (start_before n (start_rule h last s) s (of_rest true s)))
    by_limit s same true = same_text (stopped n (Some TooManyLines))
    by_limit s same false = start_same n (start_rule h last s) s (of_rest false s)
        (of_rest true s) same

    by_line : ((s : StartWord) → IsSameText (of_rest false s) (of_rest true s))
        → (o : Option StartWord) → IsSameText (at_line false o) (at_line true o)
    by_line same None = lines_same max h.subject n (line ∷ next ∷ lines)
    by_line same (Some s) = by_limit s (same s) (nat_lt max n)

body_same : (max : ℕ) (h : Header) (lines : List (List ℕ))
    → IsSameText (body_read (so_far max) h lines) (body_read (input_of max true) h lines)
body_same max h lines = by_version (h.version == 2)
  where
    by_version : (b : Bool)
        → IsSameText
        (cond b (starts_read (so_far max) h None 2 lines)
        (lines_read (so_far max) h.subject 2 lines))
        (cond b (starts_read (input_of max true) h None 2 lines)
        (lines_read (input_of max true) h.subject 2 lines))
    by_version true = starts_same max h None 2 lines
    by_version false = lines_same max h.subject 2 lines

parts_same : (max : ℕ) (parts : List (List ℕ)) → IsSameText (text_read (so_far max) parts)
    (text_read (input_of max true) parts)
parts_same max [] = same_text (stopped 1 None)
parts_same max (rest ∷ []) = record { header = refl; starting = refl; entries = refl; ended = refl }
parts_same max (line ∷ next ∷ lines) = by_header (header_in line)
  where
    at_header : Bool → Result Header Rule → Reading
    at_header whole r = elim r as (λ _. Reading) [
      | Ok h ↦ header_before h (body_read (input_of max whole) h (next ∷ lines))
      | Err rule ↦ stopped 1 (Some rule)
    ]

    by_header : (r : Result Header Rule) → IsSameText (at_header false r) (at_header true r)
    by_header (Ok h) =
        let s = body_same max h (next ∷ lines) in
        record { header = refl; starting = s.starting; entries = s.entries; ended = s.ended }
    by_header (Err rule) = same_text (stopped 1 (Some rule))

pub whole_same : (max : ℕ) (bytes : List ℕ) → IsSameText (read_so_far max bytes)
    (read_whole max bytes)
unfolding reading
whole_same max bytes = parts_same max (slice_split (λ b. b == 10) bytes)
