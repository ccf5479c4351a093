-- How many entries a reading has, and what is wrong with them.
use Rattle.vyrd_check.proofs.Prelude
use Prelude.{◌≡◌, ℕ, ◌+◌, ◌≤◌, Bool, true, false, cond, List, [], ◌∷◌, length, Option, Some, None}
use Prelude.{Result, Ok, Err, refl, ◌∙◌, sym, arith, option_or, slice_split, bytes_eq, rules_of}
use Prelude.{Header, Subject, Entry, StartWord, Rule, TooManyLines, Verdict, Malformed, end_line}
use Prelude.{start_rule, start_in, entry_in, header_in, Reading, stopped, ended, after_end_rule}
use Prelude.{entry_before, lines_read, start_before, starts_read, body_read, header_before}
use Prelude.{text_read, reading, text_verdict, text_verdict_so_far, verdict_so_far, end_verdict}
use Prelude.{verdict, so_far, read_so_far, read_whole, wrong_in, has_begun}
use Rattle.std.specs.Prelude.{unwrap_or, ◌==◌, nat_lt, option_map, option_and_then}
use Rattle.vyrd_base.specs.TextVerdicts.{entries_verdict}
use Rattle.vyrd_base.specs.Verdicts.{accepted}
use Rattle.vyrd_base.proofs.TestLaws.{not_below_of}
use Rattle.vyrd_check.proofs.WholeFacts.{whole_same}

-- lines from line n on give no more entries than there may be lines
lines_few : (max : ℕ) (subject : Subject) (n : ℕ) (lines : List (List ℕ)) → n ≤ max + 1
    → length (lines_read (so_far max) subject n lines).entries + n ≤ max + 1
lines_few max subject n [] within = omega (arith, within)
lines_few max subject n (rest ∷ []) within = omega (arith, within)
lines_few max subject n (line ∷ next ∷ lines) within =
    by_tests (λ low. lines_few max subject (n + 1) (next ∷ lines) low) (nat_lt max n)
    (bytes_eq line end_line) refl
  where
    after : Reading
    after = lines_read (so_far max) subject (n + 1) (next ∷ lines)

    by_entry : (n + 1 ≤ max + 1 → length after.entries + (n + 1) ≤ max + 1) → n ≤ max
        → (o : Option Entry)
        → length (entry_before n o after).entries + n ≤ max + 1
    by_entry onward low None = omega (arith, low)
    by_entry onward low (Some e) = omega (arith, onward (omega (arith, low)))

    by_tests : (n + 1 ≤ max + 1 → length after.entries + (n + 1) ≤ max + 1) → (past is_end : Bool)
        → nat_lt max n ≡ past
        → length (cond past (stopped n (Some TooManyLines))
        (cond is_end (ended (n + 1) (after_end_rule (so_far max) (n + 1) next lines))
        (entry_before n (entry_in subject line) after))).entries + n ≤ max + 1
    by_tests onward true is_end p = omega (arith, within)
    by_tests onward false true p = omega (arith, within)
    by_tests onward false false p = by_entry onward (not_below_of max n p) (entry_in subject line)

-- the same, where starting words may stand
starts_few : (max : ℕ) (h : Header) (last : Option StartWord) (n : ℕ) (lines : List (List ℕ))
    → n ≤ max + 1
    → length (starts_read (so_far max) h last n lines).entries + n ≤ max + 1
starts_few max h last n [] within = omega (arith, within)
starts_few max h last n (rest ∷ []) within = omega (arith, within)
starts_few max h last n (line ∷ next ∷ lines) within =
    by_line (λ s low. starts_few max h (Some s) (n + 1) (next ∷ lines) low) (start_in line)
  where
    after : StartWord → Reading
    after s = starts_read (so_far max) h (Some s) (n + 1) (next ∷ lines)

    Rest : StartWord → Type 0
    Rest s = n + 1 ≤ max + 1 → length (after s).entries + (n + 1) ≤ max + 1

    by_rule : (s : StartWord) → Rest s → n ≤ max → (o : Option Rule)
        → length (start_before n o s (after s)).entries + n ≤ max + 1
    by_rule s onward low None = omega (arith, onward (omega (arith, low)))
    by_rule s onward low (Some rule) = omega (arith, within)

    by_limit : (s : StartWord) → Rest s → (past : Bool) → nat_lt max n ≡ past
        → length (cond past (stopped n (Some TooManyLines))
        (start_before n (start_rule h last s) s (after s))).entries + n ≤ max + 1
    by_limit s onward true p = omega (arith, within)
    by_limit s onward false p = by_rule s onward (not_below_of max n p) (start_rule h last s)

    by_line : ((s : StartWord) → Rest s) → (o : Option StartWord)
        → length (elim o as (λ _. Reading) [
          | None ↦ lines_read (so_far max) h.subject n (line ∷ next ∷ lines)
          | Some s ↦ cond (nat_lt max n) (stopped n (Some TooManyLines))
              (start_before n (start_rule h last s) s (after s))
        ]).entries + n ≤ max + 1
    by_line onward None = lines_few max h.subject n (line ∷ next ∷ lines) within
    by_line onward (Some s) = by_limit s (onward s) (nat_lt max n) refl

body_few : (max : ℕ) (h : Header) (lines : List (List ℕ)) → 1 ≤ max
    → length (body_read (so_far max) h lines).entries ≤ max
body_few max h lines low = grind (arith, starts_few, lines_few)

parts_few : (max : ℕ) (parts : List (List ℕ)) → 1 ≤ max
    → length (text_read (so_far max) parts).entries ≤ max
parts_few max [] low = omega arith
parts_few max (rest ∷ []) low = omega arith
parts_few max (line ∷ next ∷ lines) low = by_header (header_in line)
  where
    by_header : (r : Result Header Rule)
        → length (elim r as (λ _. Reading) [
          | Ok h ↦ header_before h (body_read (so_far max) h (next ∷ lines))
          | Err rule ↦ stopped 1 (Some rule)
        ]).entries ≤ max
    by_header (Ok h) = body_few max h (next ∷ lines) low
    by_header (Err rule) = omega arith

pub entries_few : (max : ℕ) (bytes : List ℕ) → 1 ≤ max → length (read_so_far max bytes).entries
    ≤ max
unfolding reading
entries_few max bytes low = parts_few max (slice_split (λ b. b == 10) bytes) low

headless_parts : (max : ℕ) (parts : List (List ℕ)) → (text_read (so_far max) parts).header ≡ None
    → has_begun (text_read (so_far max) parts) ≡ false
headless_parts max parts none = grind arith

-- without a header there is neither an entry nor `end`
pub headless_empty : (max : ℕ) (bytes : List ℕ) → (read_so_far max bytes).header ≡ None
    → has_begun (read_so_far max bytes) ≡ false
unfolding reading
headless_empty max bytes none = headless_parts max (slice_split (λ b. b == 10) bytes) none

-- what is known of bytes is what is wrong with what was read, or otherwise their fault of text
pub known_so_far : (max : ℕ) (bytes : List ℕ) (wrong fault : Option Verdict)
    → wrong ≡ wrong_in (read_so_far max bytes)
    → fault ≡ option_map (λ fault. Malformed fault.line fault.rule) (read_so_far max bytes).fault
    → option_or wrong fault ≡ text_verdict_so_far max bytes
unfolding text_verdict_so_far
known_so_far max bytes wrong fault wrong_is fault_is = λ i. option_or (wrong_is i) (fault_is i)

pub first_none : {A : Type 0} (a b : Option A) → option_or a b ≡ None → a ≡ None
first_none a b e = search arith

pub second_none : {A : Type 0} (a b : Option A) → option_or a b ≡ None → b ≡ None
second_none a b e = search arith

-- what is wrong with the entries of bytes about which nothing is known
pub entries_right : (max : ℕ) (bytes : List ℕ) → text_verdict_so_far max bytes ≡ None
    → wrong_in (read_so_far max bytes) ≡ None
unfolding text_verdict_so_far
entries_right max bytes nothing = first_none _ _ nothing

-- nothing is wrong with the entries, nor with their end
header_right : (max : ℕ) (bytes : List ℕ) (h : Header) → text_verdict_so_far max bytes ≡ None
    → (read_so_far max bytes).header ≡ Some h
    → entries_verdict (read_so_far max bytes) h ≡ None
header_right max bytes h nothing has = cc (entries_right max bytes nothing)

-- no fault of text is known
pub text_right : (max : ℕ) (bytes : List ℕ) → text_verdict_so_far max bytes ≡ None
    → (read_so_far max bytes).fault ≡ None
unfolding text_verdict_so_far
text_right max bytes nothing = search (second_none, arith)

-- if `end` was read and nothing is wrong, the log is accepted
pub ended_right : (max : ℕ) (bytes : List ℕ) (h : Header) → text_verdict_so_far max bytes ≡ None
    → (read_so_far max bytes).header ≡ Some h
    → (read_so_far max bytes).ended ≡ true
    → verdict (rules_of h) (read_so_far max bytes).starting (read_so_far max bytes).entries
    ≡ accepted (read_so_far max bytes).entries
unfolding verdict
ended_right max bytes h nothing has done =
    let r = read_so_far max bytes in
    let wrong = header_right max bytes h nothing has in
    let none : option_or (verdict_so_far (rules_of h) r.starting r.entries)
    (end_verdict (rules_of h) r.starting r.entries) ≡ None = cc in
    cc

-- If nothing is known of the bytes, the verdict about them as the whole input is their fault of
-- text, or otherwise acceptance.
pub whole_right : (max : ℕ) (bytes : List ℕ) → text_verdict_so_far max bytes ≡ None
    → text_verdict max bytes
    ≡ unwrap_or (option_map (λ fault. Malformed fault.line fault.rule) (read_whole max bytes).fault)
    (accepted (read_so_far max bytes).entries)
unfolding text_verdict
whole_right max bytes nothing =
    let r = read_so_far max bytes in
    let w = read_whole max bytes in
    let same = whole_same max bytes in
    let right = entries_right max bytes nothing in
    let wrong_is : wrong_in w ≡ None =
    (λ i. option_and_then (λ h.
    option_or (verdict_so_far (rules_of h) (sym same.starting i) (sym same.entries i))
    (cond (sym same.ended i) (end_verdict (rules_of h) (sym same.starting i) (sym same.entries i))
    None))
    (sym same.header i)) ∙ right in
    (λ i. unwrap_or
    (option_or (wrong_is i) (option_map (λ fault. Malformed fault.line fault.rule) w.fault))
    (accepted (sym same.entries i)))

pub whole_faulty : (max : ℕ) (bytes : List ℕ) (line : ℕ) (rule : Rule)
    → text_verdict_so_far max bytes ≡ None
    → (read_whole max bytes).fault ≡ Some (record { line = line; rule = rule })
    → Malformed line rule ≡ text_verdict max bytes
whole_faulty max bytes line rule nothing fault = grind (arith, nothing, whole_right)

pub whole_accepted : (max : ℕ) (bytes : List ℕ) (h : Header) → text_verdict_so_far max bytes ≡ None
    → (read_whole max bytes).fault ≡ None → (read_whole max bytes).ended ≡ true
    → (read_so_far max bytes).header ≡ Some h
    → verdict (rules_of h) (read_so_far max bytes).starting (read_so_far max bytes).entries
    ≡ text_verdict max bytes
whole_accepted max bytes h nothing fault done has =
    grind (arith, nothing, ended_right, whole_same, whole_right)

-- if `end` isn't read so far, it isn't in the whole input either
pub not_ended : (max : ℕ) (bytes : List ℕ) → (read_so_far max bytes).ended ≡ false
    → (read_whole max bytes).ended ≡ true → ⊥
not_ended max bytes none done = grind (arith, whole_same)
