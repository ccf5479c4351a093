-- What longer bytes say: what was read stays read, and a fault of text that is known stays.
use Rattle.vyrd_base.proofs.Prelude
use Prelude.{◌≡◌, ℕ, ◌+◌, ◌<◌, ◌≤◌, Bool, true, false, cond, ◌&&◌, ◌||◌, List, [], ◌∷◌, ◌++◌}
use Prelude.{length, Option, Some, None, Result, Ok, Err, refl, ap, ◌∙◌, sym, arith, length-append}
use Prelude.{◌==◌, nat_lt, slice_split, onto_first, bytes_eq, nat_tests, and-false, Header, Subject}
use Prelude.{Entry, StartWord, Rule, TooManyLines, BadHeader, BadEntry, end_line, start_rule}
use Prelude.{start_in, entry_in, header_in, Reading, TextFault, Input, has_any, stopped, ended}
use Prelude.{unfinished_rule, after_end_rule, entry_before, lines_read, start_before, starts_read}
use Prelude.{body_read, header_before, text_read, reading, below_of, is_below}
use Rattle.vyrd_base.proofs.LongLines.{long_entry, long_start, long_isnt_end, long_header}
use Rattle.vyrd_base.proofs.ReadingLaws.{no_start_line}

-- parts of which the last one goes on, and after which further ones may come
abbrev pub Longer : List (List ℕ) → List (List ℕ) → Type 0
Longer [] qs = ⊥
Longer (rest ∷ []) [] = ⊥
Longer (rest ∷ []) (q ∷ qs) = (more : List ℕ) × (q ≡ rest ++ more)
Longer (p ∷ next ∷ ps) [] = ⊥
Longer (p ∷ next ∷ ps) (q ∷ qs) = (q ≡ p) × Longer (next ∷ ps) qs

longer_cons : (ps qs : List (List ℕ)) → Longer ps qs → Longer ([] ∷ ps) ([] ∷ qs)
longer_cons ps qs h = search arith

longer_onto : (x : ℕ) (ps qs : List (List ℕ)) → Longer ps qs → Longer (onto_first x ps)
    (onto_first x qs)
longer_onto x ps qs h = grind arith

-- no text has no part
longer_nothing : (qs : List (List ℕ)) → 0 < length qs → Longer ([] ∷ []) qs
longer_nothing qs h = search arith

pub some_parts : (p : ℕ → Bool) (xs : List ℕ) → 0 < length (slice_split p xs)
some_parts p [] = omega arith
some_parts p (x ∷ xs) = grind arith

pub split_longer : (p : ℕ → Bool) (xs ys : List ℕ) → Longer (slice_split p xs)
    (slice_split p (xs ++ ys))
split_longer p [] ys = longer_nothing (slice_split p ys) (some_parts p ys)
split_longer p (x ∷ xs) ys =
    let rest = split_longer p xs ys in
    elim (p x) as (λ b. Longer (cond b ([] ∷ slice_split p xs) (onto_first x (slice_split p xs)))
    (cond b ([] ∷ slice_split p (xs ++ ys)) (onto_first x (slice_split p (xs ++ ys))))) [
      | true ↦ longer_cons (slice_split p xs) (slice_split p (xs ++ ys)) rest
      | false ↦ longer_onto x (slice_split p xs) (slice_split p (xs ++ ys)) rest
    ]

-- What more bytes leave: all, where a fault is known; what was read and perhaps more; all entries,
-- where `end` was read; and all
-- starting words, once there is an entry or `end`.
pub record Grown (old new : Reading) : Type 0 where
  pub fault : (f : TextFault) → old.fault ≡ Some f → new ≡ old
  pub entries : old.fault ≡ None → (more : List Entry) × (new.entries ≡ old.entries ++ more)
  pub ended : old.fault ≡ None → old.ended ≡ true → (new.entries ≡ old.entries) × (new.ended ≡ true)
  pub starting : old.fault ≡ None → (more : List StartWord) × (new.starting ≡ old.starting ++ more)
  pub begun : old.fault ≡ None → (has_any old.entries || old.ended) ≡ true → new.starting
      ≡ old.starting

no_more : {A : Type 0} (xs : List A) → xs ≡ xs ++ []
no_more [] = refl
no_more (x ∷ xs) = ap (λ ys. x ∷ ys) (no_more xs)

same_grown : (r : Reading) → Grown r r
same_grown r = search (no_more, ended, arith)

-- one more entry before both, with the same starting words
entry_grown : (n : ℕ) (o : Option Entry) (old new : Reading) → new.starting ≡ old.starting
    → Grown old new
    → Grown (entry_before n o old) (entry_before n o new)
entry_grown n o old new same g = search (same_grown, arith)

-- one more starting word before both, or the rule that it breaks
start_grown : (n : ℕ) (o : Option Rule) (s : StartWord) (old new : Reading) → Grown old new
    → Grown (start_before n o s old) (start_before n o s new)
start_grown n o s old new g = search (same_grown, arith)

-- a reading that stopped with nothing read
stopped_grown : (n : ℕ) (o : Option Rule) (new : Reading)
    → ((rule : Rule) → o ≡ Some rule → new ≡ stopped n o) → Grown (stopped n o) new
stopped_grown n o new same = search (ended, arith)

-- bytes that may go on, and bytes that are the whole input or may go on
abbrev pub so_far : ℕ → Input
so_far max = record { max_lines = max; is_whole = false }

abbrev pub input_of : ℕ → Bool → Input
input_of max whole = record { max_lines = max; is_whole = whole }

-- why an unfinished line is bad already
data Known (max n : ℕ) (bad rule : Rule) (rest : List ℕ) : Type 0 where
  past : 0 < length rest → nat_lt max n ≡ true → rule ≡ TooManyLines → Known max n bad rule rest
  long : 64 < length rest → nat_lt max n ≡ false → rule ≡ bad → Known max n bad rule rest

some_bytes : (xs : List ℕ) (b : Bool) → (has_any xs && b) ≡ true → (0 < length xs) × (b ≡ true)
some_bytes xs b e = search arith

many_bytes : (xs : List ℕ) (b : Bool) → (has_any xs && b) ≡ false → 64 < length xs → b ≡ false
many_bytes xs b e h = search arith

is_some_length : (xs : List ℕ) (b : Bool) → 0 < length xs → b ≡ true → (has_any xs && b) ≡ true
is_some_length xs b h e = search arith

no_first : (xs : List ℕ) (b : Bool) → b ≡ false → (has_any xs && b) ≡ false
no_first xs b e = ap (λ x. has_any xs && x) e ∙ and-false (has_any xs)

no_rule : {P : Type 0} {rule : Rule} (o : Option Rule) → o ≡ None → o ≡ Some rule → P
no_rule o e f = absurd (let x : ⊥ = cc in x)

unfinished_known : (max n : ℕ) (bad rule : Rule) (rest : List ℕ)
    → unfinished_rule (so_far max) n bad rest ≡ Some rule → Known max n bad rule rest
unfinished_known max n bad rule rest e = search
    (has_any, below_of, many_bytes, no_rule, some_bytes, arith)

-- the rule stays, as the unfinished line goes on
unfinished_stays : (max n : ℕ) (whole : Bool) (bad rule : Rule) (rest more : List ℕ)
    → Known max n bad rule rest
    → unfinished_rule (input_of max whole) n bad (rest ++ more) ≡ Some rule
unfinished_stays max n whole bad rule rest more e7 =
    grind (arith, whole, more, past, is_some_length, length-append, long, no_first, is_below)

-- and as it is finished
finished_stays : (max n : ℕ) (whole : Bool) (subject : Subject) (rule : Rule)
    (rest more next : List ℕ) (lines : List (List ℕ))
    → Known max n BadEntry rule rest
    → lines_read (input_of max whole) subject n ((rest ++ more) ∷ next ∷ lines)
    ≡ stopped n (Some rule)
finished_stays max n whole subject rule rest more next lines e9 =
    grind (arith, whole, more, past, long, long_isnt_end, length-append, long_entry)

-- the break after `end` stays
after_end_stays : (max n : ℕ) (whole : Bool) (next : List ℕ) (ps : List (List ℕ)) (q : List ℕ)
    (qs : List (List ℕ)) (rule : Rule)
    → Longer (next ∷ ps) (q ∷ qs)
    → after_end_rule (so_far max) n next ps ≡ Some rule → after_end_rule (input_of max whole) n q qs
    ≡ Some rule
after_end_stays max n whole next ps q qs rule h e = grind (arith, whole, has_any)

line_grown : (n : ℕ) (past is_end : Bool) (end end' onward onward' : Reading) → Grown end end'
    → Grown onward onward'
    → Grown (cond past (stopped n (Some TooManyLines)) (cond is_end end onward))
    (cond past (stopped n (Some TooManyLines)) (cond is_end end' onward'))
line_grown n true is_end end end' onward onward' g h = same_grown (stopped n (Some TooManyLines))
line_grown n false true end end' onward onward' g h = g
line_grown n false false end end' onward onward' g h = h

end_grown : (n : ℕ) (o o' : Option Rule) → ((rule : Rule) → o ≡ Some rule → o' ≡ Some rule)
    → Grown (ended n o) (ended n o')
end_grown n o o' stays = search (ended, arith)

-- entries and `end` come without starting words
pub no_starting : (input : Input) (subject : Subject) (n : ℕ) (lines : List (List ℕ))
    → (lines_read input subject n lines).starting ≡ []
no_starting input subject n [] = refl
no_starting input subject n (rest ∷ []) = refl
no_starting input subject n (line ∷ next ∷ lines) =
    by_tests (nat_lt input.max_lines n) (bytes_eq line end_line) (entry_in subject line)
    (no_starting input subject (n + 1) (next ∷ lines))
  where
    by_tests : (past is_end : Bool) (o : Option Entry)
        → (lines_read input subject (n + 1) (next ∷ lines)).starting ≡ []
        → (cond past (stopped n (Some TooManyLines))
        (cond is_end (ended (n + 1) (after_end_rule input (n + 1) next lines))
        (entry_before n o (lines_read input subject (n + 1) (next ∷ lines))))).starting ≡ []
    by_tests true is_end o e = refl
    by_tests false true o e = refl
    by_tests false false None e = refl
    by_tests false false (Some x) e = e

no_parts : (p : List ℕ) (ps : List (List ℕ)) → Longer (p ∷ ps) [] → ⊥
no_parts p ps h = search arith

-- the lines that more bytes make
pub lines_grow : (max : ℕ) (whole : Bool) (subject : Subject) (n : ℕ) (ps qs : List (List ℕ))
    → Longer ps qs
    → Grown (lines_read (so_far max) subject n ps) (lines_read (input_of max whole) subject n qs)
lines_grow max whole subject n [] qs h = absurd h
lines_grow max whole subject n (rest ∷ []) [] h = absurd h
lines_grow max whole subject n (rest ∷ []) (q ∷ []) h =
    search (whole, stopped_grown, unfinished_stays, unfinished_known, arith)
lines_grow max whole subject n (rest ∷ []) (q ∷ next ∷ qs) h =
    rw h.1
    (stopped_grown n (unfinished_rule (so_far max) n BadEntry rest)
    (lines_read (input_of max whole) subject n ((rest ++ h.0) ∷ next ∷ qs))
    (λ rule e. finished_stays max n whole subject rule rest h.0 next qs
    (unfinished_known max n BadEntry rule rest e) ∙ ap (stopped n) (sym e)))
lines_grow max whole subject n (p ∷ next ∷ ps) [] h = absurd h
lines_grow max whole subject n (p ∷ next ∷ ps) (q ∷ []) h = absurd (no_parts next ps h.1)
lines_grow max whole subject n (p ∷ next ∷ ps) (q ∷ q2 ∷ qs) h =
    rw h.0
    (line_grown n (nat_lt max n) (bytes_eq p end_line)
    (ended (n + 1) (after_end_rule (so_far max) (n + 1) next ps))
    (ended (n + 1) (after_end_rule (input_of max whole) (n + 1) q2 qs))
    (entry_before n (entry_in subject p) (lines_read (so_far max) subject (n + 1) (next ∷ ps)))
    (entry_before n (entry_in subject p)
    (lines_read (input_of max whole) subject (n + 1) (q2 ∷ qs)))
    (end_grown (n + 1) (after_end_rule (so_far max) (n + 1) next ps)
    (after_end_rule (input_of max whole) (n + 1) q2 qs)
    (λ rule e. after_end_stays max (n + 1) whole next ps q2 qs rule h.1 e))
    (entry_grown n (entry_in subject p) (lines_read (so_far max) subject (n + 1) (next ∷ ps))
    (lines_read (input_of max whole) subject (n + 1) (q2 ∷ qs))
    (no_starting (input_of max whole) subject (n + 1) (q2 ∷ qs)
    ∙ sym (no_starting (so_far max) subject (n + 1) (next ∷ ps)))
    (lines_grow max whole subject (n + 1) (next ∷ ps) (q2 ∷ qs) h.1)))

-- an unfinished line that is bad already stays bad where starting words may stand
finished_start : (max n : ℕ) (whole : Bool) (h : Header) (last : Option StartWord) (rule : Rule)
    (rest more next : List ℕ) (lines : List (List ℕ))
    → Known max n BadEntry rule rest
    → starts_read (input_of max whole) h last n ((rest ++ more) ∷ next ∷ lines)
    ≡ stopped n (Some rule)
finished_start max n whole h last rule rest more next lines known = by_line
    (start_in (rest ++ more)) refl known
  where
    by_line : (o : Option StartWord) → start_in (rest ++ more) ≡ o → Known max n BadEntry rule rest
        → starts_read (input_of max whole) h last n ((rest ++ more) ∷ next ∷ lines)
        ≡ stopped n (Some rule)
    by_line None e k = no_start_line (input_of max whole) h last n (rest ++ more) next lines e
        ∙ finished_stays max n whole h.subject rule rest more next lines k
    by_line (Some s) e (past some limit is) = search (whole, more, arith)
    by_line (Some s) e (long many limit is) =
        let longer : 64 < length (rest ++ more) = omega (arith, length-append rest more) in
        absurd (none_is_some (sym (long_start (rest ++ more) longer) ∙ e))
      where
        none_is_some : {s : StartWord} → None ≡ Some s → ⊥
        none_is_some e = cc

-- the lines that more bytes make, where starting words may stand
pub starts_grow : (max : ℕ) (whole : Bool) (h : Header) (last : Option StartWord) (n : ℕ)
    (ps qs : List (List ℕ)) → Longer ps qs
    → Grown (starts_read (so_far max) h last n ps) (starts_read (input_of max whole) h last n qs)
starts_grow max whole h last n [] qs l = absurd l
starts_grow max whole h last n (rest ∷ []) [] l = absurd l
starts_grow max whole h last n (rest ∷ []) (q ∷ []) l = lines_grow max whole h.subject n (rest ∷ [])
    (q ∷ []) l
starts_grow max whole h last n (rest ∷ []) (q ∷ next ∷ qs) l =
    rw l.1
    (stopped_grown n (unfinished_rule (so_far max) n BadEntry rest)
    (starts_read (input_of max whole) h last n ((rest ++ l.0) ∷ next ∷ qs))
    (λ rule e. finished_start max n whole h last rule rest l.0 next qs
    (unfinished_known max n BadEntry rule rest e) ∙ ap (stopped n) (sym e)))
starts_grow max whole h last n (p ∷ next ∷ ps) [] l = absurd l
starts_grow max whole h last n (p ∷ next ∷ ps) (q ∷ []) l = absurd (no_parts next ps l.1)
starts_grow max whole h last n (p ∷ next ∷ ps) (q ∷ q2 ∷ qs) l =
    rw l.0
    (by_line (start_in p) (λ s. starts_grow max whole h (Some s) (n + 1) (next ∷ ps) (q2 ∷ qs) l.1))
  where
    by_limit : (s : StartWord) (b : Bool)
        → Grown (starts_read (so_far max) h (Some s) (n + 1) (next ∷ ps))
        (starts_read (input_of max whole) h (Some s) (n + 1) (q2 ∷ qs))
        → Grown (cond b (stopped n (Some TooManyLines))
        (start_before n (start_rule h last s) s
        (starts_read (so_far max) h (Some s) (n + 1) (next ∷ ps))))
        (cond b (stopped n (Some TooManyLines))
        (start_before n (start_rule h last s) s
        (starts_read (input_of max whole) h (Some s) (n + 1) (q2 ∷ qs))))
    by_limit s b g = search (same_grown, start_grown, whole, arith)

    by_line : (o : Option StartWord)
        → ((s : StartWord) → Grown (starts_read (so_far max) h (Some s) (n + 1) (next ∷ ps))
        (starts_read (input_of max whole) h (Some s) (n + 1) (q2 ∷ qs)))
        → Grown (elim o as (λ _. Reading) [
          | None ↦ lines_read (so_far max) h.subject n (p ∷ next ∷ ps)
          | Some s ↦ cond (nat_lt max n) (stopped n (Some TooManyLines))
              (start_before n (start_rule h last s) s
              (starts_read (so_far max) h (Some s) (n + 1) (next ∷ ps)))
        ])
        (elim o as (λ _. Reading) [
          | None ↦ lines_read (input_of max whole) h.subject n (p ∷ q2 ∷ qs)
          | Some s ↦ cond (nat_lt max n) (stopped n (Some TooManyLines))
              (start_before n (start_rule h last s) s
              (starts_read (input_of max whole) h (Some s) (n + 1) (q2 ∷ qs)))
        ])
    by_line None onward = lines_grow max whole h.subject n (p ∷ next ∷ ps) (p ∷ q2 ∷ qs) (refl, l.1)
    by_line (Some s) onward = by_limit s (nat_lt max n) (onward s)

-- the lines after the header
pub body_grow : (max : ℕ) (whole : Bool) (h : Header) (ps qs : List (List ℕ)) → Longer ps qs
    → Grown (body_read (so_far max) h ps) (body_read (input_of max whole) h qs)
body_grow max whole h ps qs l = grind (arith, whole, starts_grow, lines_grow)

-- the same, with the header
pub record TextGrown (old new : Reading) : Type 0 where
  pub grown : Grown old new
  pub header : (h : Header) → old.header ≡ Some h → new.header ≡ Some h

header_grown : (h : Header) (old new : Reading) → Grown old new → TextGrown (header_before h old)
    (header_before h new)
header_grown h old new g = grind (arith, g.entries, g.ended, g.starting, g.begun)

stopped_text : (n : ℕ) (o : Option Rule) (new : Reading)
    → ((rule : Rule) → o ≡ Some rule → new ≡ stopped n o) → TextGrown (stopped n o) new
stopped_text n o new same = record { grown = stopped_grown n o new same; header = λ h e. cc }

in_limit : (max : ℕ) → 1 ≤ max → nat_lt max 1 ≡ true → ⊥
in_limit max h e = let f : max < 1 = grind (arith, nat_tests) in omega arith

finished_header : (max : ℕ) (whole : Bool) (rule : Rule) (rest more next : List ℕ)
    (lines : List (List ℕ)) → 1 ≤ max → Known max 1 BadHeader rule rest
    → text_read (input_of max whole) ((rest ++ more) ∷ next ∷ lines) ≡ stopped 1 (Some rule)
finished_header max whole rule rest more next lines low e8 =
    grind (arith, whole, more, past, in_limit, long, long_header, length-append)

text_grow : (max : ℕ) (whole : Bool) (ps qs : List (List ℕ)) → 1 ≤ max → Longer ps qs
    → TextGrown (text_read (so_far max) ps) (text_read (input_of max whole) qs)
text_grow max whole [] qs low h = absurd h
text_grow max whole (rest ∷ []) [] low h = absurd h
text_grow max whole (rest ∷ []) (q ∷ []) low h =
    search (whole, stopped_text, unfinished_stays, unfinished_known, arith)
text_grow max whole (rest ∷ []) (q ∷ next ∷ qs) low h =
    rw h.1
    (stopped_text 1 (unfinished_rule (so_far max) 1 BadHeader rest)
    (text_read (input_of max whole) ((rest ++ h.0) ∷ next ∷ qs))
    (λ rule e. finished_header max whole rule rest h.0 next qs low
    (unfinished_known max 1 BadHeader rule rest e) ∙ ap (stopped 1) (sym e)))
text_grow max whole (p ∷ next ∷ ps) [] low h = absurd h
text_grow max whole (p ∷ next ∷ ps) (q ∷ []) low h = absurd (no_parts next ps h.1)
text_grow max whole (p ∷ next ∷ ps) (q ∷ q2 ∷ qs) low h =
    grind (arith, h.0, by_header (header_in p))
  where
    by_header : (r : Result Header Rule)
        → TextGrown (elim r as (λ _. Reading) [
          | Ok x ↦ header_before x
              (body_read (so_far max) x (next ∷ ps))
          | Err rule ↦ stopped 1 (Some rule)
        ])
        (elim r as (λ _. Reading) [
          | Ok x ↦ header_before x
              (body_read (input_of max whole) x (q2 ∷ qs))
          | Err rule ↦ stopped 1 (Some rule)
        ])
    by_header (Ok x) = search (header_grown, whole, body_grow, arith)
    by_header (Err rule) = record { grown = same_grown (stopped 1 (Some rule)); header = λ x e. e }

-- what longer bytes say, as bytes that may go on or as the whole input
pub reading_grows : (max : ℕ) (whole : Bool) (bytes more : List ℕ) → 1 ≤ max
    → TextGrown (reading (so_far max) bytes) (reading (input_of max whole) (bytes ++ more))
unfolding reading
reading_grows max whole bytes more low =
    text_grow max whole (slice_split (λ b. b == 10) bytes)
    (slice_split (λ b. b == 10) (bytes ++ more)) low (split_longer (λ b. b == 10) bytes more)
