-- The text of a log is read as that log.
use Rattle.vyrd_base.proofs.Prelude
use Prelude.{◌≡◌, ℕ, ◌+◌, ◌<◌, ◌≤◌, ◌^◌, Bool, true, false, cond, not, ◌||◌, List, [], ◌∷◌, ◌++◌}
use Prelude.{map, length, Option, Some, None, Ok, Err, refl, ap, ◌∙◌, sym, arith, append_assoc}
use Prelude.{◌==◌, nat_lt, nat_le, codes, decimal, flat_map, ok_or, list_all, slice_split}
use Prelude.{AllByRecursion, nat_tests, Bool-set, Header, Subject, Entry, StartWord, TooManyLines}
use Prelude.{UnknownVersion, BadHeader, plain_words, is_built_in, limits_of, is_out_of_range}
use Prelude.{is_out_of_order, start_rule, do_follow, may_start, ended_line, start_line, entry_line}
use Prelude.{end_line, header_line, subject_name, log_text, is_entry_of, start_in, header_in}
use Prelude.{fields_of, header_spelled, header_from, header_if, header_of, Reading, Input, stopped}
use Prelude.{ended, entry_before, lines_read, start_before, starts_read, body_read, text_read}
use Prelude.{reading, verdict, text_verdict, lacks, split_at, split-join, lacks-join}
use Prelude.{number_of_decimal, bytes_same, is_plain_field, both_true, first_true, second_true}
use Prelude.{neither_true, above_of, is_below, rules_of}
use Rattle.vyrd_base.proofs.LineLaws.{plain_number, plain_spaces, plain_line_feeds}
use Rattle.vyrd_base.proofs.LineLaws.{entry_line_whole, entry_in-entry_line, entry_line_isnt_end}
use Rattle.vyrd_base.proofs.LineLaws.{is_start, start_line_whole, start_in-start_line}
use Rattle.vyrd_base.proofs.LineLaws.{start_in-entry_line, start_in-end_line}
use Rattle.vyrd_base.proofs.HeaderLaws.{low_version, sized, size_in_32_bits, callers_in_32_bits}
use Rattle.vyrd_base.proofs.HeaderLaws.{few_words}
use Rattle.vyrd_base.proofs.StructureLaws.{plain_subject}
use Rattle.vyrd_base.proofs.SubjectLaws.{subject_read}
use Rattle.vyrd_base.proofs.ListLaws.{or_none}

-- all entries can stand in the text of a log of the subject
abbrev pub AllOf : Subject → List Entry → Type 0
AllOf subject entries = AllByRecursion (λ e. is_entry_of subject e ≡ true) entries

-- these starting words and entries, and then `end`
abbrev pub complete : List StartWord → List Entry → Reading
complete starting entries = record {
  header = None;
  starting = starting;
  entries = entries;
  ended = true;
  fault = None;
}

abbrev pub tail_lines : List Entry → List (List ℕ)
tail_lines entries = map entry_line entries ++ end_line ∷ [] ∷ []

-- the lines after the header
abbrev pub body_lines : List StartWord → List Entry → List (List ℕ)
body_lines starting entries = map start_line starting ++ tail_lines entries

-- they are more than one
pub two_lines : (starting : List StartWord) (entries : List Entry)
    → (line : List ℕ) × (next : List ℕ) × (lines : List (List ℕ))
    × (body_lines starting entries ≡ line ∷ next ∷ lines)
two_lines [] [] = (_, _, _, refl)
two_lines [] (e ∷ []) = (_, _, _, refl)
two_lines [] (e ∷ next ∷ entries) = (_, _, _, refl)
two_lines (s ∷ starting) entries = let rest = two_lines starting entries in
    (start_line s, rest.0, rest.1 ∷ rest.2, ap (λ ls. start_line s ∷ ls) rest.3)

within_lines : (n max : ℕ) → n ≤ max → nat_lt max n ≡ false
within_lines n max h = grind (arith, nat_tests)

module _ (input : Input) (subject : Subject) where
  -- one line that spells an entry
  one_line : (n : ℕ) (e : Entry) (next : List ℕ) (lines : List (List ℕ)) → n ≤ input.max_lines
      → is_entry_of subject e ≡ true
      → lines_read input subject n (entry_line e ∷ next ∷ lines) ≡ entry_before n (Some e)
      (lines_read input subject (n + 1) (next ∷ lines))
  one_line n e next lines within is =
      search (ended, within_lines, entry_line_isnt_end, entry_in-entry_line, arith)

  -- the lines of entries and of `end`
  pub tail_read : (n : ℕ) (entries : List Entry) → n + length entries ≤ input.max_lines
      → AllOf subject entries
      → lines_read input subject n (tail_lines entries) ≡ complete [] entries
  tail_read n [] within all = ap (λ b. cond b (stopped n (Some TooManyLines)) (complete [] []))
      (within_lines n input.max_lines (omega arith))
  tail_read n (e ∷ []) within all =
      one_line n e end_line ([] ∷ []) (omega arith) all.0 ∙ ap (entry_before n (Some e))
      (tail_read (n + 1) [] (omega arith) all.1)
  tail_read n (e ∷ next ∷ entries) within all =
      one_line n e (entry_line next) (tail_lines entries) (omega arith) all.0
      ∙ ap (entry_before n (Some e)) (tail_read (n + 1) (next ∷ entries) (omega arith) all.1)

below_then : (word words : ℕ) → nat_le words word ≡ false → words ≤ 2 ^ 32 → nat_lt word (2 ^ 32)
    ≡ true
below_then word words e h = is_below word (2 ^ 32) (let low = above_of words word e in omega arith)

value_then : (value : ℕ) → nat_le (2 ^ 63) value ≡ false → nat_lt value (2 ^ 64) ≡ true
value_then value e = is_below value (2 ^ 64) (let low = above_of (2 ^ 63) value e in omega arith)

-- the numbers of a starting word in range have a spelling
pub spelled_start : (h : Header) (s : StartWord) → is_out_of_range h s ≡ false → is_start s ≡ true
spelled_start h s e =
    let first = neither_true (nat_le (plain_words h) s.word || s.value == 0)
    (nat_le (2 ^ 63) s.value) e in
    let word = neither_true (nat_le (plain_words h) s.word) (s.value == 0) first.0 in
    both_true _ _ (below_then s.word (plain_words h) word.0 (omega (arith, few_words h)))
    (value_then s.value first.1)

-- a starting word that follows the last one
pub record DoesFollow (h : Header) (last : Option StartWord) (s : StartWord) : Type 0 where
  pub in_range : is_out_of_range h s ≡ false
  pub in_order : is_out_of_order last s ≡ false

pub first_follows : (h : Header) (last : Option StartWord) (s : StartWord)
    (starting : List StartWord)
    → do_follow h last (s ∷ starting) ≡ true → DoesFollow h last s
first_follows h last s starting e = search (neither_true, first_true, arith)

pub no_start_rule : (h : Header) (last : Option StartWord) (s : StartWord) → DoesFollow h last s
    → start_rule h last s ≡ None
no_start_rule h last s is = grind arith

module _ (input : Input) (h : Header) where
  -- a line that spells no starting word ends them
  pub no_start_line : (last : Option StartWord) (n : ℕ) (line next : List ℕ) (lines : List (List ℕ))
      → start_in line ≡ None
      → starts_read input h last n (line ∷ next ∷ lines) ≡ lines_read input h.subject n
      (line ∷ next ∷ lines)
  no_start_line last n line next lines none = search arith

  -- one line that spells a starting word
  pub one_start_line : (last : Option StartWord) (n : ℕ) (line next : List ℕ)
      (lines : List (List ℕ)) (s : StartWord) → start_in line ≡ Some s
      → starts_read input h last n (line ∷ next ∷ lines) ≡ cond (nat_lt input.max_lines n)
      (stopped n (Some TooManyLines))
      (start_before n (start_rule h last s) s (starts_read input h (Some s) (n + 1) (next ∷ lines)))
  one_start_line last n line next lines s is = search arith

  -- the lines of entries and of `end`, where starting words may stand
  tail_started : (last : Option StartWord) (n : ℕ) (entries : List Entry) → n + length entries
      ≤ input.max_lines → AllOf h.subject entries
      → starts_read input h last n (tail_lines entries) ≡ complete [] entries
  tail_started last n [] within all =
      no_start_line last n end_line [] [] start_in-end_line ∙ tail_read input h.subject n
      [] within all
  tail_started last n (e ∷ []) within all =
      no_start_line last n (entry_line e) end_line ([] ∷ []) (start_in-entry_line h.subject e all.0)
      ∙ tail_read input h.subject n (e ∷ []) within all
  tail_started last n (e ∷ next ∷ entries) within all =
      no_start_line last n (entry_line e) (entry_line next) (tail_lines entries)
      (start_in-entry_line h.subject e all.0)
      ∙ tail_read input h.subject n (e ∷ next ∷ entries) within all

  -- the lines of starting words, of entries and of `end`
  starts_tail : (last : Option StartWord) (n : ℕ) (starting : List StartWord) (entries : List Entry)
      → n + length starting + length entries ≤ input.max_lines → do_follow h last starting ≡ true
      → AllOf h.subject entries
      → starts_read input h last n (body_lines starting entries) ≡ complete starting entries
  starts_tail last n [] entries within follow all = tail_started last n entries (omega arith) all
  starts_tail last n (s ∷ starting) entries within follow all =
      let is = first_follows h last s starting follow in
      let rest = two_lines starting entries in
      let onward : starts_read input h (Some s) (n + 1) (rest.0 ∷ rest.1 ∷ rest.2)
      ≡ complete starting entries =
      ap (starts_read input h (Some s) (n + 1)) (sym rest.3)
      ∙ starts_tail (Some s) (n + 1) starting entries (omega arith)
      (second_true (not (is_out_of_range h s || is_out_of_order last s)) _ follow) all in
      ap (λ ls. starts_read input h last n (start_line s ∷ ls)) rest.3
      ∙ one_start_line last n (start_line s) rest.0 (rest.1 ∷ rest.2) s
      (start_in-start_line s (spelled_start h s is.in_range))
      ∙ ap (λ b. cond b (stopped n (Some TooManyLines))
      (start_before n (start_rule h last s) s
      (starts_read input h (Some s) (n + 1) (rest.0 ∷ rest.1 ∷ rest.2))))
      (within_lines n input.max_lines (omega arith))
      ∙ ap (λ o. start_before n o s
      (starts_read input h (Some s) (n + 1) (rest.0 ∷ rest.1 ∷ rest.2))) (no_start_rule h last s is)
      ∙ ap (start_before n None s) onward

  -- the lines after the header, with the starting words that its version allows
  pub body_tail : (starting : List StartWord) (entries : List Entry) → length starting
      + length entries + 2 ≤ input.max_lines
      → may_start h starting ≡ true → AllOf h.subject entries
      → body_read input h (body_lines starting entries) ≡ complete starting entries
  body_tail starting entries within may all = search
      (tail_started, tail_read, first_true, starts_tail, second_true, arith)

-- a line with its line feed before more
pub regrouped : (line rest more : List ℕ) → (ended_line line ++ rest) ++ more ≡ line
    ++ 10 ∷ (rest ++ more)
regrouped line rest more = search (append_assoc, more, arith)

-- the text of entries and of `end`
abbrev pub tail_text : List Entry → List ℕ
tail_text entries = flat_map (λ e. ended_line (entry_line e)) entries ++ ended_line end_line

-- it comes apart into their lines
pub split_tail : (subject : Subject) (entries : List Entry) → AllOf subject entries
    → slice_split (λ b. b == 10) (tail_text entries) ≡ tail_lines entries
split_tail subject [] all = refl
split_tail subject (e ∷ entries) all =
    ap (slice_split (λ b. b == 10))
    (regrouped (entry_line e) (flat_map (λ x. ended_line (entry_line x)) entries)
    (ended_line end_line))
    ∙ split_at 10 (entry_line e) (tail_text entries) (entry_line_whole subject e all.0)
    ∙ ap (λ rest. entry_line e ∷ rest) (split_tail subject entries all.1)

-- the text after the header's line
abbrev pub body_text : List StartWord → List Entry → List ℕ
body_text starting entries = flat_map (λ s. ended_line (start_line s)) starting ++ tail_text entries

split_starts : (h : Header) (last : Option StartWord) (starting : List StartWord)
    (entries : List Entry) → do_follow h last starting ≡ true
    → AllOf h.subject entries → slice_split (λ b. b == 10) (body_text starting entries)
    ≡ body_lines starting entries
split_starts h last [] entries follow all = split_tail h.subject entries all
split_starts h last (s ∷ starting) entries follow all =
    let is = first_follows h last s starting follow in
    ap (slice_split (λ b. b == 10))
    (regrouped (start_line s) (flat_map (λ x. ended_line (start_line x)) starting)
    (tail_text entries))
    ∙ split_at 10 (start_line s) (body_text starting entries)
    (start_line_whole s (spelled_start h s is.in_range))
    ∙ ap (λ rest. start_line s ∷ rest)
    (split_starts h (Some s) starting entries
    (second_true (not (is_out_of_range h s || is_out_of_order last s)) _ follow) all)

-- the text of a log as its header's line and what stands after it
pub log_text_parts : (line : List ℕ) (starting : List StartWord) (entries : List Entry)
    → ((ended_line line ++ flat_map (λ s. ended_line (start_line s)) starting)
    ++ flat_map (λ e. ended_line (entry_line e)) entries)
    ++ ended_line end_line ≡ line ++ 10 ∷ body_text starting entries
log_text_parts line starting entries = grind (arith, starting, append_assoc)

pub split_body : (h : Header) (starting : List StartWord) (entries : List Entry)
    → may_start h starting ≡ true
    → AllOf h.subject entries → slice_split (λ b. b == 10) (body_text starting entries)
    ≡ body_lines starting entries
split_body h [] entries may all = split_tail h.subject entries all
split_body h (s ∷ starting) entries may all = search (split_starts, starting, second_true, arith)

version_fits : (n : ℕ) → n ≤ 3 → nat_lt n (2 ^ 32) ≡ true
version_fits n h = is_below n (2 ^ 32) (omega arith)

-- limits that were tested give the header
header_if_within : (version : ℕ) (subject : Subject) (size callers : ℕ)
    (w : limits_of subject version size callers
    ≡ true) (b : Bool) (e : limits_of subject version size callers ≡ b) → b ≡ true
    → header_if version subject size callers b e
    ≡ Some (record {
      version = version;
      subject = subject;
      size = size;
      callers = callers;
      within = w;
    })
header_if_within version subject size callers w true e t = cc (Bool-set _ _ e w)
header_if_within version subject size callers w false e t = cc

-- a header of a built-in subject is read back from its line
pub header_in-header_line : (h : Header) → is_built_in h.subject ≡ true
    → header_in (header_line h.version h.subject h.size h.callers) ≡ Ok h
unfolding header_in
header_in-header_line h built =
    ap (header_from line) fields
    ∙ (λ i. header_spelled line (number_of_decimal h.version small_version i)
    (subject_read h.subject built i)
    (number_of_decimal h.size small_size i) (number_of_decimal h.callers small_callers i))
    ∙ ap (λ b. cond b (ok_or (header_of h.version h.subject h.size h.callers) UnknownVersion)
    (Err BadHeader))
    (both_true _ _ (both_true _ _ (version_fits h.version (low_version h)) (sized h built))
    (bytes_same line))
    ∙ ap (λ o. ok_or o UnknownVersion)
    (header_if_within h.version h.subject h.size h.callers h.within
    (limits_of h.subject h.version h.size h.callers) refl h.within)
  where
    line : List ℕ
    line = header_line h.version h.subject h.size h.callers

    small_version : h.version < 2 ^ 64
    small_version = omega (arith, low_version h)

    small_size : h.size < 2 ^ 64
    small_size = omega (arith, size_in_32_bits h)

    small_callers : h.callers < 2 ^ 64
    small_callers = omega (arith, callers_in_32_bits h)

    parts : List (List ℕ)
    parts = decimal h.version ∷ subject_name h.subject ∷ decimal h.size ∷ decimal h.callers ∷ []

    plain : list_all is_plain_field (codes "vyrd" ∷ parts) ≡ true
    plain = both_true _ _ (plain_number h.version small_version)
        (both_true _ _ (plain_subject h.subject)
        (both_true _ _ (plain_number h.size small_size)
        (both_true _ _ (plain_number h.callers small_callers) refl)))

    fields : fields_of line ≡ codes "vyrd" ∷ parts
    fields = split-join 32 (codes "vyrd") parts (plain_spaces (codes "vyrd" ∷ parts) plain)

header_lacks : (h : Header) → lacks 10 (header_line h.version h.subject h.size h.callers) ≡ true
header_lacks h = lacks-join 10 32 (codes "vyrd")
    (decimal h.version ∷ subject_name h.subject ∷ decimal h.size ∷ decimal h.callers ∷ []) refl
    (plain_line_feeds (codes "vyrd" ∷ decimal h.version ∷ subject_name h.subject ∷ decimal h.size
    ∷ decimal h.callers ∷ [])
    (both_true _ _ (plain_number h.version small_version)
    (both_true _ _ (plain_subject h.subject)
    (both_true _ _ (plain_number h.size small_size)
    (both_true _ _ (plain_number h.callers small_callers) refl)))))
  where
    small_version : h.version < 2 ^ 64
    small_version = omega (arith, low_version h)

    small_size : h.size < 2 ^ 64
    small_size = omega (arith, size_in_32_bits h)

    small_callers : h.callers < 2 ^ 64
    small_callers = omega (arith, callers_in_32_bits h)

-- the whole text of a log, with `end` and no fault
abbrev pub whole : Header → List StartWord → List Entry → Reading
whole h starting entries = record {
  header = Some h;
  starting = starting;
  entries = entries;
  ended = true;
  fault = None;
}

-- a header's line before the lines of starting words, of entries and of `end`
lines_of_log : (input : Input) (h : Header) (starting : List StartWord) (entries : List Entry)
    → is_built_in h.subject ≡ true
    → length starting + length entries + 2 ≤ input.max_lines → may_start h starting ≡ true
    → AllOf h.subject entries
    → text_read input (header_line h.version h.subject h.size h.callers
    ∷ body_lines starting entries) ≡ whole h starting entries
lines_of_log input h starting entries built within may all =
    grind (
      arith,
      (two_lines starting entries).3,
      header_in-header_line h built,
      body_tail input h
          starting entries within may all,
    )

-- the text of a log is read as that log
pub reading-log_text : (input : Input) (h : Header) (starting : List StartWord)
    (entries : List Entry) → is_built_in h.subject ≡ true
    → length starting + length entries + 2 ≤ input.max_lines → may_start h starting ≡ true
    → AllOf h.subject entries
    → reading input (log_text h starting entries) ≡ whole h starting entries
unfolding reading log_text
reading-log_text input h starting entries built within may all =
    let line = header_line h.version h.subject h.size h.callers in
    ap (λ bytes. text_read input (slice_split (λ b. b == 10) bytes))
    (log_text_parts line starting entries)
    ∙ ap (text_read input) (split_at 10 line (body_text starting entries) (header_lacks h)
    ∙ ap (λ rest. line ∷ rest) (split_body h starting entries may all))
    ∙ lines_of_log input h starting entries built within may all

-- the verdict about the text of a log is the verdict about the log
pub text_verdict-log_text : (max : ℕ) (h : Header) (starting : List StartWord)
    (entries : List Entry) → is_built_in h.subject ≡ true
    → length starting + length entries + 2 ≤ max → may_start h starting ≡ true
    → AllOf h.subject entries
    → text_verdict max (log_text h starting entries) ≡ verdict (rules_of h) starting entries
unfolding text_verdict verdict
text_verdict-log_text max h starting entries built within may all =
    search (reading-log_text, or_none, arith)
