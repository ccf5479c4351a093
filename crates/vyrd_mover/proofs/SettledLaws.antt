-- The bytes of the longest input settle what they say as a history: the lines that are taken in are
-- short and few, so reading ends in them.
use Rattle.vyrd_mover.proofs.Prelude
use Prelude.{◌≡◌, ℕ, ◌+◌, ◌*◌, ◌<◌, ◌≤◌, Bool, true, false, cond, not, List, [], ◌∷◌, ◌++◌, length}
use Prelude.{length-append, Option, Some, None, refl, ap, subst, sym, ◌∙◌, arith, append_assoc, inl}
use Prelude.{inr, ◌⊎◌, ◌==◌, nat_lt, bytes_eq, append-nil, bytes_eq-Decides, Header, Subject}
use Prelude.{Stamped, end_line, cut, lacks, lacks-append, both_true, below_of, is_below}
use Prelude.{not_below_of, same_of, HistoryRule, TooManyLines, BadHeader, BadLine, Recorded}
use Prelude.{history_header_in, event_in, refused, broken_by, with_event, unless_broken, event_read}
use Prelude.{begun_or_bad, unless_too_many, unfinished_rule, lines_read, history_reading}
use Rattle.vyrd_base.proofs.LongLines.{longer}
use Rattle.vyrd_mover.specs.LongHistories.{longest_history}
use Rattle.vyrd_mover.proofs.HeadLaws.{header_in_sound}
use Rattle.vyrd_mover.proofs.EventLaws.{event_in_sound}
use Rattle.vyrd_mover.proofs.ShortLines.{short_event, short_first}
use Rattle.vyrd_mover.proofs.WalkLaws.{then_lines, too_many, end_found, line_found, lines_last}
use Rattle.vyrd_mover.proofs.WalkLaws.{after_first, first_step, first_last, more_after}

-- the first line of a text, which may be all of it
abbrev FirstLine : List ℕ → Type 0
FirstLine text = (lacks 10 text ≡ true)
    ⊎ ((line : List ℕ) × (more : List ℕ) × (lacks 10 line ≡ true) × (text ≡ line ++ 10 ∷ more))

first_line : (text : List ℕ) → FirstLine text
first_line [] = inl refl
first_line (x ∷ text) = by_byte (x == 10) refl (first_line text)
  where
    one_more : (x == 10) ≡ false → FirstLine text → FirstLine (x ∷ text)
    one_more e (inl whole) = inl (both_true (not (x == 10)) _ (ap not e) whole)
    one_more e (inr p) = inr (x ∷ p.0, p.1, both_true (not (x == 10)) _ (ap not e) p.2, cc p.3)

    by_byte : (b : Bool) → (x == 10) ≡ b → FirstLine text → FirstLine (x ∷ text)
    by_byte true e rest = inr ([], text, refl, cc (same_of x 10 e))
    by_byte false e rest = one_more e rest

-- a line of more than 64 bytes spells nothing
long_event : (subject : Subject) (number : ℕ) (line : List ℕ) → 64 < length line
    → event_in subject number line ≡ None
long_event subject number line long = by_answer (event_in subject number line) refl
  where
    by_answer : (o : Option Stamped) → event_in subject number line ≡ o → o ≡ None
    by_answer None e = refl
    by_answer (Some x) e =
        let is = event_in_sound subject number line x e in
        let short = short_event subject x is.is in
        let same = ap length is.line_is in
        absurd (omega (arith, long, short, same))

long_header : (line : List ℕ) → 64 < length line → history_header_in line ≡ None
long_header line long = by_answer (history_header_in line) refl
  where
    by_answer : (o : Option Header) → history_header_in line ≡ o → o ≡ None
    by_answer None e = refl
    by_answer (Some h) e = grind (arith, short_first h, (header_in_sound line h e).1)

long_isnt_end : (line : List ℕ) → 64 < length line → ¬ (line ≡ end_line)
long_isnt_end line long e = let same = ap length e in omega (arith, long, same)

long_unfinished : (n : ℕ) (bad : HistoryRule) (rest : List ℕ) → 64 < length rest
    → unfinished_rule n bad rest ≡ unless_too_many n bad
long_unfinished n bad rest long = grind (arith, long, is_below)

-- more than 64 bytes without a line feed are a bad line, whatever follows them
pub long_line : (r : Recorded) (n : ℕ) (line more : List ℕ) → lacks 10 line ≡ true
    → 64 < length line
    → lines_read r n (cut (line ++ more)) ≡ refused n (unless_too_many n BadLine)
long_line r n line more lack long = by_line (first_line more)
  where
    Bad : List ℕ → Type 0
    Bad text = lines_read r n (cut text) ≡ refused n (unless_too_many n BadLine)

    by_limit : (next rest : List ℕ) → lacks 10 (line ++ next) ≡ true → (b : Bool) → nat_lt 4000000 n
        ≡ b
        → lines_read r n (cut ((line ++ next) ++ 10 ∷ rest))
        ≡ refused n (cond b TooManyLines BadLine)
    by_limit next rest whole b e = search
        (too_many, below_of, longer, line_found, not_below_of, long_isnt_end, long_event, arith)

    by_line : FirstLine more → Bad (line ++ more)
    by_line (inl whole) = search (lines_last, lacks-append, refused, long_unfinished, longer, arith)
    by_line (inr p) = grind (
      arith,
      append_assoc line p.0 (10 ∷ p.1),
      p.3,
      by_limit p.0 p.1
          (lacks-append 10 line p.0 lack p.2) (nat_lt 4000000 n) refl,
    )

pub long_text : (line more : List ℕ) → lacks 10 line ≡ true → 64 < length line
    → history_reading (line ++ more) ≡ refused 1 BadHeader
long_text line more lack long = by_line (first_line more)
  where
    Bad : List ℕ → Type 0
    Bad text = history_reading text ≡ refused 1 BadHeader

    by_line : FirstLine more → Bad (line ++ more)
    by_line (inl whole) =
        first_last (line ++ more) (lacks-append 10 line more lack whole)
        ∙ ap (refused 1) (long_unfinished 1 BadHeader (line ++ more) (longer line more long))
    by_line (inr p) =
        subst Bad (append_assoc line p.0 (10 ∷ p.1) ∙ ap (λ text. line ++ text) (sym p.3))
        (first_step (line ++ p.0) p.1 (lacks-append 10 line p.0 lack p.2)
        ∙ ap (λ o. after_first (cut p.1) (begun_or_bad o))
        (long_header (line ++ p.0) (longer line p.0 long)))

-- how many bytes there are from line n on, with 65 for each line before
abbrev Enough : ℕ → List ℕ → Type 0
Enough n text = longest_history ≤ 65 * n + length text

-- what the bytes from line n on say doesn't change with more bytes
abbrev Settled : Recorded → ℕ → List ℕ → List ℕ → Type 0
Settled r n text more = lines_read r n (cut (text ++ more)) ≡ lines_read r n (cut text)

something : (text : List ℕ) → 0 < length text → ¬ (text ≡ [])
something text some e = let same = ap length e in omega (arith, some, same)

-- the bytes `line`, which have no line feed, begin line n
lines_settled : (r : Recorded) (n : ℕ) (line todo more : List ℕ) → lacks 10 line ≡ true
    → n ≤ 4000001 → Enough n (line ++ todo)
    → Settled r n (line ++ todo) more
lines_settled r n line [] more lack low enough =
    let long : 64 < length line = omega (arith, enough, low, length-append line []) in
    cc (append-nil line, long_line r n line more lack long, long_line r n line [] lack long)
lines_settled r n line (x ∷ todo) more lack low enough = by_byte
    (λ u m begun lack low enough. lines_settled u m begun todo more lack low enough) (x == 10) refl
  where
    Rest : Type 0
    Rest = (u : Recorded) (m : ℕ) (begun : List ℕ) → lacks 10 begun ≡ true → m ≤ 4000001
        → Enough m (begun ++ todo) → Settled u m (begun ++ todo) more

    size : length (line ++ x ∷ todo) ≡ length line + 1 + length todo
    size = omega (arith, length-append line (x ∷ todo))

    by_rule : Rest → n ≤ 4000000 → (e : Stamped) → event_in r.header.subject (length r.history) line
        ≡ Some e → (o : Option HistoryRule)
        → then_lines n (cut (todo ++ more)) (unless_broken r e o) ≡ then_lines n (cut todo)
        (unless_broken r e o)
    by_rule rest few e is (Some rule) = refl
    by_rule rest few e is None =
        let spelled = event_in_sound r.header.subject (length r.history) line e is in
        let short = short_event r.header.subject e spelled.is in
        let same = ap length spelled.line_is in
        rest (with_event r e) (n + 1) [] refl (omega (arith, few))
        (omega (arith, enough, size, short, same))

    by_event : Rest → n ≤ 4000000 → (o : Option Stamped) → event_in r.header.subject
        (length r.history) line ≡ o
        → then_lines n (cut (todo ++ more)) (event_read r o) ≡ then_lines n (cut todo)
        (event_read r o)
    by_event rest few None is = refl
    by_event rest few (Some e) is = by_rule rest few e is (broken_by r e)

    by_end : Rest → n ≤ 4000000 → (b : Bool) → bytes_eq line end_line ≡ b
        → lines_read r n (cut (line ++ 10 ∷ (todo ++ more))) ≡ lines_read r n
        (cut (line ++ 10 ∷ todo))
    by_end rest few true is =
        let end = (bytes_eq-Decides line end_line).0 is in
        let same = ap length end in
        let some : 0 < length todo = omega (arith, enough, size, same, few) in
        let more_some : 0 < length (todo ++ more) = omega (arith, some, length-append todo more) in
        end_found r n line (todo ++ more) lack few end ∙ more_after r (n + 1) (todo ++ more)
        (something (todo ++ more) more_some)
        ∙ sym (end_found r n line todo lack few end ∙ more_after r (n + 1) todo
        (something todo some))
    by_end rest few false is =
        let other : ¬ (line ≡ end_line) =
        λ e. (let yes = sym is ∙ (bytes_eq-Decides line end_line).1 e in cc) in
        line_found r n line (todo ++ more) lack few other
        ∙ by_event rest few (event_in r.header.subject (length r.history) line) refl
        ∙ sym (line_found r n line todo lack few other)

    by_limit : Rest → (b : Bool) → nat_lt 4000000 n ≡ b
        → lines_read r n (cut (line ++ 10 ∷ (todo ++ more))) ≡ lines_read r n
        (cut (line ++ 10 ∷ todo))
    by_limit rest true e =
        let high = below_of 4000000 n e in
        too_many r n line (todo ++ more) lack high ∙ sym (too_many r n line todo lack high)
    by_limit rest false e = by_end rest (not_below_of 4000000 n e) (bytes_eq line end_line) refl

    by_byte : Rest → (b : Bool) → (x == 10) ≡ b → Settled r n (line ++ x ∷ todo) more
    by_byte rest true e =
        let feed = same_of x 10 e in
        cc (append_assoc line (x ∷ todo) more, by_limit rest (nat_lt 4000000 n) refl)
    by_byte rest false e =
        let whole = append_assoc line (x ∷ []) todo in
        let lack_more : lacks 10 (line ++ x ∷ []) ≡ true = lacks-append 10 line (x ∷ []) lack
        (both_true (not (x == 10)) _ (ap not e) refl) in
        rw (← whole) (rest r n (line ++ x ∷ []) lack_more low (subst (Enough n) (sym whole) enough))

-- the bytes `line`, which have no line feed, begin the text
text_settled : (line todo more : List ℕ) → lacks 10 line ≡ true → longest_history
    ≤ length (line ++ todo)
    → history_reading ((line ++ todo) ++ more) ≡ history_reading (line ++ todo)
text_settled line [] more lack enough =
    let long : 64 < length line = omega (arith, enough, length-append line []) in
    cc (append-nil line, long_text line more lack long, long_text line [] lack long)
text_settled line (x ∷ todo) more lack enough = by_byte
    (λ begun lack enough. text_settled begun todo more lack enough) (x == 10) refl
  where
    Rest : Type 0
    Rest = (begun : List ℕ) → lacks 10 begun ≡ true → longest_history ≤ length (begun ++ todo)
        → history_reading ((begun ++ todo) ++ more) ≡ history_reading (begun ++ todo)

    by_header : (o : Option Header) → history_header_in line ≡ o
        → after_first (cut (todo ++ more)) (begun_or_bad o) ≡ after_first (cut todo)
        (begun_or_bad o)
    by_header None is = refl
    by_header (Some h) is =
        let short = short_first h in
        let same = ap length (header_in_sound line h is).1 in
        lines_settled (record { header = h; history = [] }) 2 [] todo more refl (omega arith)
        (omega (arith, enough, length-append line (x ∷ todo), short, same))

    by_byte : Rest → (b : Bool) → (x == 10) ≡ b → history_reading ((line ++ x ∷ todo) ++ more)
        ≡ history_reading (line ++ x ∷ todo)
    by_byte rest true e =
        let feed = same_of x 10 e in
        cc (
          append_assoc line (x ∷ todo) more,
          first_step line (todo ++ more) lack,
          by_header
              (history_header_in line) refl,
          first_step line todo lack,
        )
    by_byte rest false e =
        let whole = append_assoc line (x ∷ []) todo in
        let lack_more : lacks 10 (line ++ x ∷ []) ≡ true = lacks-append 10 line (x ∷ []) lack
        (both_true (not (x == 10)) _ (ap not e) refl) in
        rw (← whole) (rest (line ++ x ∷ []) lack_more (rw whole enough))

-- what that many bytes say doesn't change with more bytes
pub reading_settled : (bytes more : List ℕ) → longest_history ≤ length bytes
    → history_reading (bytes ++ more) ≡ history_reading bytes
reading_settled bytes more enough = text_settled [] bytes more refl enough
