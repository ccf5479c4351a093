-- What is read to its end without a fault is the text of a log.
use Rattle.vyrd_base.proofs.Prelude
use Prelude.{◌≡◌, ℕ, ◌+◌, ◌^◌, Bool, true, false, cond, not, ◌&&◌, ◌||◌, List, [], ◌∷◌, ◌++◌}
use Prelude.{Option, Some, None, Result, Ok, Err, refl, ap, subst, ◌∙◌, sym, ◌==◌, nat_lt, flat_map}
use Prelude.{ok_or, option_and_then, slice_split, join_with_byte, bytes_eq, bytes_eq-Decides}
use Prelude.{Header, Subject, Entry, StartWord, Rule, TooManyLines, UnknownVersion, BadHeader}
use Prelude.{is_sized, limits_of, first_broken, is_out_of_range, is_out_of_order, start_rule}
use Prelude.{do_follow, may_start, ended_line, start_line, entry_line, end_line, header_line}
use Prelude.{log_text, is_entry_of, fields_of, number_of, guessed_entry, entry_in, start_in}
use Prelude.{header_if, header_of, header_spelled, header_from, header_in, subject_called, Reading}
use Prelude.{Input, has_any, stopped, ended, after_end_rule, entry_before, lines_read, start_before}
use Prelude.{starts_read, body_read, header_before, text_read, reading, both_true, first_true}
use Prelude.{second_true}
use Rattle.std.proofs.lemmas.List.Splits.{join_with_byte-slice_split}
use Rattle.vyrd_base.specs.declared.verdict.Rule.TheVariants.{AfterEnd, StartRange, StartOrder}
use Rattle.vyrd_base.specs.Shape.{◌breaks◌}
use Rattle.vyrd_base.proofs.LineLaws.{start_in_sound}
use Rattle.vyrd_base.proofs.ReadingLaws.{AllOf, tail_lines, body_lines, two_lines, tail_text}
use Rattle.vyrd_base.proofs.ReadingLaws.{body_text, regrouped, log_text_parts}
use Rattle.vyrd_base.proofs.ReadingGrows.{no_starting}

-- an entry that is read is spelled by the line, and its numbers are in range
pub entry_in_sound : (subject : Subject) (line : List ℕ) (e : Entry) → entry_in subject line
    ≡ Some e
    → (line ≡ entry_line e) × (is_entry_of subject e ≡ true)
unfolding entry_in
entry_in_sound subject line e found = by_guess (guessed_entry subject (fields_of line)) found
  where
    checked : (x : Entry) (b : Bool) → (is_entry_of subject x && bytes_eq (entry_line x) line) ≡ b
        → cond b (Some x) None ≡ Some e
        → (line ≡ entry_line e) × (is_entry_of subject e ≡ true)
    checked x false t f = cc
    checked x true t f =
        let same : x ≡ e = cc in
        let spelled = (bytes_eq-Decides (entry_line x) line).0
        (second_true (is_entry_of subject x) _ t) in
        (sym spelled ∙ ap entry_line same, ap (is_entry_of subject) (sym same) ∙ first_true _ _ t)

    by_guess : (o : Option Entry) → option_and_then
        (λ x. cond (is_entry_of subject x && bytes_eq (entry_line x) line) (Some x) None) o ≡ Some e
        → (line ≡ entry_line e) × (is_entry_of subject e ≡ true)
    by_guess None f = cc
    by_guess (Some x) f = checked x (is_entry_of subject x && bytes_eq (entry_line x) line) refl f

-- a starting word that breaks no rule follows the last one
follows_of : (h : Header) (last : Option StartWord) (s : StartWord) → start_rule h last s ≡ None
    → not (is_out_of_range h s || is_out_of_order last s) ≡ true
follows_of h last s e = by_tests (is_out_of_range h s) (is_out_of_order last s) e
  where
    by_tests : (a b : Bool) → cond a (Some StartRange) (cond b (Some StartOrder) None) ≡ None
        → not (a || b) ≡ true
    by_tests true b f = cc
    by_tests false true f = cc
    by_tests false false f = refl

-- the entries that lines give are of the subject
pub lines_of_subject : (input : Input) (subject : Subject) (n : ℕ) (lines : List (List ℕ))
    → AllOf subject (lines_read input subject n lines).entries
lines_of_subject input subject n [] = tt
lines_of_subject input subject n (rest ∷ []) = tt
lines_of_subject input subject n (line ∷ next ∷ lines) =
    by_tests (nat_lt input.max_lines n) (bytes_eq line end_line) (entry_in subject line) refl
    (lines_of_subject input subject (n + 1) (next ∷ lines))
  where
    by_tests : (past is_end : Bool) (o : Option Entry) → entry_in subject line ≡ o
        → AllOf subject (lines_read input subject (n + 1) (next ∷ lines)).entries
        → AllOf subject
        (cond past (stopped n (Some TooManyLines))
        (cond is_end (ended (n + 1) (after_end_rule input (n + 1) next lines))
        (entry_before n o (lines_read input subject (n + 1) (next ∷ lines))))).entries
    by_tests true is_end o e all = tt
    by_tests false true o e all = tt
    by_tests false false None e all = tt
    by_tests false false (Some x) e all = ((entry_in_sound subject line x e).1, all)

-- the starting words that lines give follow the last one, and their entries are of the subject
pub record StartsKept (h : Header) (last : Option StartWord) (read : Reading) : Type 0 where
  pub follow : do_follow h last read.starting ≡ true
  pub of_subject : AllOf h.subject read.entries

pub starts_kept : (input : Input) (h : Header) (last : Option StartWord) (n : ℕ)
    (lines : List (List ℕ))
    → StartsKept h last (starts_read input h last n lines)
starts_kept input h last n [] = record { follow = refl; of_subject = tt }
starts_kept input h last n (rest ∷ []) = record { follow = refl; of_subject = tt }
starts_kept input h last n (line ∷ next ∷ lines) = by_line
    (λ s. starts_kept input h (Some s) (n + 1) (next ∷ lines)) (start_in line)
  where
    onward : StartWord → Reading
    onward s = starts_read input h (Some s) (n + 1) (next ∷ lines)

    by_rule : (s : StartWord) → StartsKept h (Some s) (onward s) → (past : Bool) (o : Option Rule)
        → start_rule h last s ≡ o
        → StartsKept h last
        (cond past (stopped n (Some TooManyLines)) (start_before n o s (onward s)))
    by_rule s rest true o e = record { follow = refl; of_subject = tt }
    by_rule s rest false (Some rule) e = record { follow = refl; of_subject = tt }
    by_rule s rest false None e =
        record {
          follow = both_true _ _ (follows_of h last s e) rest.follow;
          of_subject = rest.of_subject;
        }

    by_line : ((s : StartWord) → StartsKept h (Some s) (onward s)) → (o : Option StartWord)
        → StartsKept h last (elim o as (λ _. Reading) [
          | None ↦ lines_read input h.subject n (line ∷ next ∷ lines)
          | Some s ↦ cond (nat_lt input.max_lines n) (stopped n (Some TooManyLines))
              (start_before n (start_rule h last s) s (onward s))
        ])
    by_line rest None = record {
      follow = ap (do_follow h last) (no_starting input h.subject n (line ∷ next ∷ lines));
      of_subject = lines_of_subject input h.subject n (line ∷ next ∷ lines);
    }
    by_line rest (Some s) = by_rule s (rest s) (nat_lt input.max_lines n) (start_rule h last s) refl

-- a log may begin with the starting words that are read, and the entries are of its subject
pub record IsWritable (h : Header) (read : Reading) : Type 0 where
  pub may : may_start h read.starting ≡ true
  pub of_subject : AllOf h.subject read.entries

may_of : (h : Header) (starting : List StartWord) → (h.version == 2) ≡ true
    → do_follow h None starting ≡ true → may_start h starting ≡ true
may_of h [] is follow = refl
may_of h (s ∷ starting) is follow = both_true _ _ is follow

body_writable : (input : Input) (h : Header) (lines : List (List ℕ))
    → IsWritable h (body_read input h lines)
body_writable input h lines = by_version (h.version == 2) refl
  where
    by_version : (b : Bool) → (h.version == 2) ≡ b
        → IsWritable h
        (cond b (starts_read input h None 2 lines) (lines_read input h.subject 2 lines))
    by_version true is =
        let kept = starts_kept input h None 2 lines in
        record {
          may = may_of h (starts_read input h None 2 lines).starting is kept.follow;
          of_subject = kept.of_subject;
        }
    by_version false is = record {
      may = ap (may_start h) (no_starting input h.subject 2 lines);
      of_subject = lines_of_subject input h.subject 2 lines;
    }

text_writable : (input : Input) (parts : List (List ℕ)) (h : Header)
    → (text_read input parts).header ≡ Some h → IsWritable h (text_read input parts)
text_writable input [] h has = cc
text_writable input (rest ∷ []) h has = cc
text_writable input (line ∷ next ∷ lines) h has = by_header (header_in line) has
  where
    text : Result Header Rule → Reading
    text r = elim r as (λ _. Reading) [
      | Ok x ↦ header_before x
          (body_read input x (next ∷ lines))
      | Err rule ↦ stopped 1 (Some rule)
    ]

    by_header : (r : Result Header Rule) → (text r).header ≡ Some h → IsWritable h (text r)
    by_header (Err rule) e = cc
    by_header (Ok x) e =
        let same : x ≡ h = cc in
        let is = body_writable input x (next ∷ lines) in
        subst (λ g. IsWritable g (header_before x (body_read input x (next ∷ lines)))) same
        (record { may = is.may; of_subject = is.of_subject })

pub reading_writable : (input : Input) (bytes : List ℕ) (h : Header) → (reading input bytes).header
    ≡ Some h → IsWritable h (reading input bytes)
unfolding reading
reading_writable input bytes h has = text_writable input (slice_split (λ b. b == 10) bytes) h has

-- a line that ends the text, where nothing is wrong
nothing_after : (b limit : Bool)
    → first_broken ((b && limit breaks TooManyLines) ∷ (b breaks AfterEnd) ∷ []) ≡ None → b ≡ false
nothing_after true true e = cc
nothing_after true false e = cc
nothing_after false limit e = refl

nothing : (line : List ℕ) (lines : List (List ℕ)) → (has_any line || has_any lines) ≡ false
    → ◌≡◌ {A = List (List ℕ)} (line ∷ lines) ([] ∷ [])
nothing [] [] e = refl
nothing [] (x ∷ lines) e = cc
nothing (b ∷ line) lines e = cc

-- what whole lines are, where `end` was read and nothing is wrong
pub lines_sound : (input : Input) (subject : Subject) (n : ℕ) (lines : List (List ℕ))
    → (lines_read input subject n lines).ended ≡ true → (lines_read input subject n lines).fault
    ≡ None
    → lines ≡ tail_lines (lines_read input subject n lines).entries
lines_sound input subject n [] done none = cc
lines_sound input subject n (rest ∷ []) done none = cc
lines_sound input subject n (line ∷ next ∷ lines) done none =
    by_limit (lines_sound input subject (n + 1) (next ∷ lines)) (nat_lt input.max_lines n) done none
  where
    onward : Reading
    onward = lines_read input subject (n + 1) (next ∷ lines)

    end : Reading
    end = ended (n + 1) (after_end_rule input (n + 1) next lines)

    Rest : Type 0
    Rest = onward.ended ≡ true → onward.fault ≡ None → next ∷ lines ≡ tail_lines onward.entries

    by_entry : Rest → (o : Option Entry) → entry_in subject line ≡ o
        → (entry_before n o onward).ended ≡ true
        → (entry_before n o onward).fault ≡ None → line ∷ next ∷ lines
        ≡ tail_lines (entry_before n o onward).entries
    by_entry rest None e d f = cc
    by_entry rest (Some x) e d f = λ i. (entry_in_sound subject line x e).0 i ∷ rest d f i

    of_fault : (o : Option Rule) → (ended (n + 1) o).fault ≡ None → o ≡ None
    of_fault None f = refl
    of_fault (Some r) f = cc

    by_end : Rest → (b : Bool) → bytes_eq line end_line ≡ b
        → (cond b end (entry_before n (entry_in subject line) onward)).ended ≡ true
        → (cond b end (entry_before n (entry_in subject line) onward)).fault ≡ None
        → line ∷ next ∷ lines
        ≡ tail_lines (cond b end (entry_before n (entry_in subject line) onward)).entries
    by_end rest true e d f =
        let is_end = (bytes_eq-Decides line end_line).0 e in
        let empty = nothing next lines
        (nothing_after (has_any next || has_any lines) (nat_lt input.max_lines (n + 1))
        (of_fault (after_end_rule input (n + 1) next lines) f)) in
        λ i. is_end i ∷ empty i
    by_end rest false e d f = by_entry rest (entry_in subject line) refl d f

    by_limit : Rest → (b : Bool) → (cond b (stopped n (Some TooManyLines))
        (cond (bytes_eq line end_line) end (entry_before n (entry_in subject line) onward))).ended
        ≡ true
        → (cond b (stopped n (Some TooManyLines))
        (cond (bytes_eq line end_line) end (entry_before n (entry_in subject line) onward))).fault
        ≡ None
        → line ∷ next ∷ lines ≡ tail_lines (cond b (stopped n (Some TooManyLines))
        (cond (bytes_eq line end_line) end (entry_before n (entry_in subject line) onward))).entries
    by_limit rest true d f = cc
    by_limit rest false d f = by_end rest (bytes_eq line end_line) refl d f

-- the lines that a reading has, with their starting words
abbrev pub lines_in : Reading → List (List ℕ)
lines_in read = body_lines read.starting read.entries

lines_sound_from : (input : Input) (subject : Subject) (n : ℕ) (lines : List (List ℕ))
    → (lines_read input subject n lines).ended ≡ true
    → (lines_read input subject n lines).fault ≡ None
    → lines ≡ lines_in (lines_read input subject n lines)
lines_sound_from input subject n lines done none =
    cc (lines_sound input subject n lines done none, no_starting input subject n lines)

-- the same, where starting words may stand
pub starts_sound : (input : Input) (h : Header) (last : Option StartWord) (n : ℕ)
    (lines : List (List ℕ))
    → (starts_read input h last n lines).ended ≡ true → (starts_read input h last n lines).fault
    ≡ None
    → lines ≡ lines_in (starts_read input h last n lines)
starts_sound input h last n [] done none = cc
starts_sound input h last n (rest ∷ []) done none = cc
starts_sound input h last n (line ∷ next ∷ lines) done none =
    by_line (λ s. starts_sound input h (Some s) (n + 1) (next ∷ lines)) (start_in line) refl done
    none
  where
    onward : StartWord → Reading
    onward s = starts_read input h (Some s) (n + 1) (next ∷ lines)

    Rest : StartWord → Type 0
    Rest s = (onward s).ended ≡ true → (onward s).fault ≡ None → next ∷ lines ≡ lines_in (onward s)

    by_rule : (s : StartWord) → line ≡ start_line s → Rest s → (past : Bool) (o : Option Rule)
        → (cond past (stopped n (Some TooManyLines)) (start_before n o s (onward s))).ended ≡ true
        → (cond past (stopped n (Some TooManyLines)) (start_before n o s (onward s))).fault ≡ None
        → line ∷ next ∷ lines
        ≡ lines_in (cond past (stopped n (Some TooManyLines)) (start_before n o s (onward s)))
    by_rule s is rest true o d f = cc
    by_rule s is rest false (Some rule) d f = cc
    by_rule s is rest false None d f = λ i. is i ∷ rest d f i

    by_line : ((s : StartWord) → Rest s) → (o : Option StartWord) → start_in line ≡ o
        → (elim o as (λ _. Reading) [
          | None ↦ lines_read input h.subject n (line ∷ next ∷ lines)
          | Some s ↦ cond (nat_lt input.max_lines n) (stopped n (Some TooManyLines))
              (start_before n (start_rule h last s) s (onward s))
        ]).ended ≡ true
        → (elim o as (λ _. Reading) [
          | None ↦ lines_read input h.subject n (line ∷ next ∷ lines)
          | Some s ↦ cond (nat_lt input.max_lines n) (stopped n (Some TooManyLines))
              (start_before n (start_rule h last s) s (onward s))
        ]).fault ≡ None
        → line ∷ next ∷ lines ≡ lines_in (elim o as (λ _. Reading) [
          | None ↦ lines_read input h.subject n (line ∷ next ∷ lines)
          | Some s ↦ cond (nat_lt input.max_lines n) (stopped n (Some TooManyLines))
              (start_before n (start_rule h last s) s (onward s))
        ])
    by_line rest None e d f = lines_sound_from input h.subject n (line ∷ next ∷ lines) d f
    by_line rest (Some s) e d f = by_rule s (start_in_sound line s e).0 (rest s)
        (nat_lt input.max_lines n) (start_rule h last s) d f

-- the lines after a header
pub body_sound : (input : Input) (h : Header) (lines : List (List ℕ))
    → (body_read input h lines).ended ≡ true
    → (body_read input h lines).fault ≡ None → lines ≡ lines_in (body_read input h lines)
body_sound input h lines done none = by_version (h.version == 2) done none
  where
    by_version : (b : Bool)
        → (cond b (starts_read input h None 2 lines) (lines_read input h.subject 2 lines)).ended
        ≡ true
        → (cond b (starts_read input h None 2 lines) (lines_read input h.subject 2 lines)).fault
        ≡ None
        → lines ≡ lines_in
        (cond b (starts_read input h None 2 lines) (lines_read input h.subject 2 lines))
    by_version true d f = starts_sound input h None 2 lines d f
    by_version false d f = lines_sound_from input h.subject 2 lines d f

-- a header that is read is spelled by the line
header_if_is : (version : ℕ) (subject : Subject) (size callers : ℕ) (b : Bool)
    (t : limits_of subject version size callers
    ≡ b) (h : Header) → header_if version subject size callers b t ≡ Some h
    → header_line version subject size callers ≡ header_line h.version h.subject h.size h.callers
header_if_is version subject size callers false t h e = cc
header_if_is version subject size callers true t h e = ap spelling e
  where
    spelling : Option Header → List ℕ
    spelling None = []
    spelling (Some x) = header_line x.version x.subject x.size x.callers

ok_is : (o : Option Header) (rule : Rule) (h : Header) → ok_or o rule ≡ Ok h → o ≡ Some h
ok_is None rule h e = cc
ok_is (Some x) rule h e = ap Some (let same : x ≡ h = cc in same)

spelled_sound : (line : List ℕ) (version : ℕ) (subject : Option Subject) (size callers : ℕ)
    (h : Header)
    → header_spelled line version subject size callers ≡ Ok h
    → line ≡ header_line h.version h.subject h.size h.callers
spelled_sound line version None size callers h e = cc
spelled_sound line version (Some subject) size callers h e =
    by_test (nat_lt version (2 ^ 32) && is_sized size callers
    && bytes_eq (header_line version subject size callers) line) refl e
  where
    by_test : (b : Bool)
        → (nat_lt version (2 ^ 32) && is_sized size callers
        && bytes_eq (header_line version subject size callers) line) ≡ b
        → cond b (ok_or (header_of version subject size callers) UnknownVersion) (Err BadHeader)
        ≡ Ok h
        → line ≡ header_line h.version h.subject h.size h.callers
    by_test false t f = cc
    by_test true t f =
        sym ((bytes_eq-Decides (header_line version subject size callers) line).0
        (second_true (nat_lt version (2 ^ 32) && is_sized size callers) _ t))
        ∙ header_if_is version subject size callers (limits_of subject version size callers) refl h
        (ok_is (header_of version subject size callers) UnknownVersion h f)

from_sound : (line : List ℕ) (fields : List (List ℕ)) (h : Header) → header_from line fields ≡ Ok h
    → line ≡ header_line h.version h.subject h.size h.callers
from_sound line [] h e = cc
from_sound line (a ∷ []) h e = cc
from_sound line (a ∷ b ∷ []) h e = cc
from_sound line (a ∷ b ∷ c ∷ []) h e = cc
from_sound line (a ∷ b ∷ c ∷ d ∷ []) h e = cc
from_sound line (a ∷ b ∷ c ∷ d ∷ f ∷ more) h e = spelled_sound line (number_of b) (subject_called c)
    (number_of d) (number_of f) h e

pub header_in_sound : (line : List ℕ) (h : Header) → header_in line ≡ Ok h
    → line ≡ header_line h.version h.subject h.size h.callers
unfolding header_in
header_in_sound line h e = from_sound line (fields_of line) h e

join_step : (line : List ℕ) (starting : List StartWord) (entries : List Entry)
    → join_with_byte 10 (line ∷ body_lines starting entries) ≡ line ++ 10 ∷ join_with_byte 10
    (body_lines starting entries)
join_step line starting entries = rw (two_lines starting entries).3 refl

-- the lines of a log, joined by line feeds
join_tail : (entries : List Entry) → join_with_byte 10 (tail_lines entries) ≡ tail_text entries
join_tail [] = refl
join_tail (e ∷ entries) = join_step (entry_line e) [] entries
    ∙ ap (λ rest. entry_line e ++ 10 ∷ rest) (join_tail entries)
    ∙ sym (regrouped (entry_line e) (flat_map (λ x. ended_line (entry_line x)) entries)
    (ended_line end_line))

join_body : (starting : List StartWord) (entries : List Entry)
    → join_with_byte 10 (body_lines starting entries) ≡ body_text starting entries
join_body [] entries = join_tail entries
join_body (s ∷ starting) entries = join_step (start_line s) starting entries
    ∙ ap (λ rest. start_line s ++ 10 ∷ rest) (join_body starting entries)
    ∙ sym (regrouped (start_line s) (flat_map (λ x. ended_line (start_line x)) starting)
    (tail_text entries))

pub join_log : (h : Header) (starting : List StartWord) (entries : List Entry)
    → join_with_byte 10 (header_line h.version h.subject h.size h.callers
    ∷ body_lines starting entries) ≡ log_text h starting entries
unfolding log_text
join_log h starting entries =
    let line = header_line h.version h.subject h.size h.callers in
    join_step line starting entries ∙ ap (λ rest. line ++ 10 ∷ rest) (join_body starting entries)
    ∙ sym (log_text_parts line starting entries)

-- the text is that of a log with the header that was read
pub record IsLogText (bytes : List ℕ) (read : Reading) : Type 0 where
  pub header : Header
  pub is_header : read.header ≡ Some header
  pub text : bytes ≡ log_text header read.starting read.entries

parts_sound : (input : Input) (parts : List (List ℕ)) → (text_read input parts).ended ≡ true
    → (text_read input parts).fault ≡ None → IsLogText (join_with_byte 10 parts)
    (text_read input parts)
parts_sound input [] done none = cc
parts_sound input (rest ∷ []) done none = cc
parts_sound input (line ∷ next ∷ lines) done none = by_header (header_in line) refl done none
  where
    text : Result Header Rule → Reading
    text r = elim r as (λ _. Reading) [
      | Ok h ↦ header_before h
          (body_read input h (next ∷ lines))
      | Err rule ↦ stopped 1 (Some rule)
    ]

    by_header : (r : Result Header Rule) → header_in line ≡ r → (text r).ended ≡ true
        → (text r).fault ≡ None
        → IsLogText (join_with_byte 10 (line ∷ next ∷ lines)) (text r)
    by_header (Err rule) e d f = cc
    by_header (Ok h) e d f =
        let whole = body_sound input h (next ∷ lines) d f in
        record {
          header = h;
          is_header = refl;
          text = ap (join_with_byte 10) (λ i. header_in_sound line h e i ∷ whole i)
              ∙ join_log h (body_read input h (next ∷ lines)).starting
              (body_read input h (next ∷ lines)).entries;
        }

-- what is read to its end without a fault is the text of a log
pub reading_sound : (input : Input) (bytes : List ℕ) → (reading input bytes).ended ≡ true
    → (reading input bytes).fault ≡ None
    → IsLogText bytes (reading input bytes)
unfolding reading
reading_sound input bytes done none =
    subst (λ xs. IsLogText xs (text_read input (slice_split (λ b. b == 10) bytes)))
    (join_with_byte-slice_split 10 bytes)
    (parts_sound input (slice_split (λ b. b == 10) bytes) done none)
