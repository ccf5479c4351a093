-- The text of a history is read as that history, and what is read is the text of a history.
use Rattle.vyrd_mover.proofs.Prelude
use Prelude.{◌≡◌, ℕ, ◌+◌, ◌≤◌, ◌^◌, Bool, true, false, cond, not, ◌&&◌, List, [], ◌∷◌, ◌++◌, map}
use Prelude.{length, Option, Some, None, Ok, refl, ap, subst, sym, ◌∙◌, arith, append_assoc, nat_lt}
use Prelude.{decimal, bytes_eq, append-nil, list_all-append, list_all-map, bytes_eq-Decides, Header}
use Prelude.{Subject, Did, Read, Wrote, Took, Gave, Marked, Stamped, end_line, is_kind_of, Place}
use Prelude.{places, places_after, newest_first, cells_of, is_legal_at, is_legal, size_in_32_bits}
use Prelude.{callers_in_32_bits, with_later, places_after-append, length-newest_first, cut, lacks}
use Prelude.{lacks-join, both_true, first_true, second_true, same_of, below_of, not_below_of}
use Prelude.{isnt_below, HistoryRule, TooManyLines, Recorded, history_header_line, did_line}
use Prelude.{event_line, history_lines, history_text, is_event_of, is_did_of, history_header_in}
use Prelude.{event_in, refused, broken_by, with_event, unless_broken, event_read, line_read}
use Prelude.{begun_or_bad, ended, lines_read, text_read, history_reading, KeepsLimits}
use Rattle.std.specs.List.{join_with_byte, list_all, AllByRecursion}
use Rattle.std.proofs.lemmas.List.Splits.{join_with_byte-slice_split}
use Rattle.vyrd_base.specs.Reading.{has_any}
use Rattle.vyrd_base.proofs.SplitLaws.{join_lines, cut_lines, all_lack}
use Rattle.vyrd_base.proofs.LineLaws.{spaced_isnt_end, plain_number, plain_line_feeds, below_32}
use Rattle.vyrd_base.proofs.LineLaws.{entry_line_whole, entry_line_isnt_end}
use Rattle.vyrd_base.proofs.ListLaws.{all_push}
use Rattle.vyrd_mover.specs.HistoryReading.{is_misplaced, next_place}
use Rattle.vyrd_mover.proofs.HeadLaws.{IsFirst, header_in_sound, header_in-first_line}
use Rattle.vyrd_mover.proofs.HeadLaws.{first_line_whole}
use Rattle.vyrd_mover.proofs.EventLaws.{event_in_sound, event_in-event_line}
use Rattle.vyrd_mover.proofs.WalkLaws.{then_lines, after_first}

-- a test of places that doesn't look ahead
abbrev pub LooksBack : (Place Stamped → Bool) → Type 0
LooksBack test = (more : List Stamped) (place : Place Stamped) → test (with_later more place)
    ≡ test place

all_split : (test : Place Stamped → Bool) → LooksBack test → (xs ys : List Stamped)
    → list_all test (places (xs ++ ys))
    ≡ (list_all test (places xs) && list_all test (places_after (newest_first xs) ys))
all_split test back xs ys =
    ap (list_all test) (places_after-append [] xs ys)
    ∙ list_all-append test (map (with_later ys) (places_after [] xs))
    (places_after (newest_first xs) ys)
    ∙ ap (λ b. b && list_all test (places_after (newest_first xs) ys))
    (list_all-map test (with_later ys) (places_after [] xs) ∙ same (places_after [] xs))
  where
    same : (ps : List (Place Stamped)) → list_all (λ p. test (with_later ys p)) ps
        ≡ list_all test ps
    same [] = refl
    same (p ∷ ps) = ap (λ b. b && list_all (λ p. test (with_later ys p)) ps) (back ys p)
        ∙ ap (λ b. test p && b) (same ps)

-- the test holds of one event more, if it did before
pub all_more : (test : Place Stamped → Bool) → LooksBack test → (xs : List Stamped) (e : Stamped)
    → list_all test (places xs) ≡ true
    → test (next_place xs e) ≡ true → list_all test (places (xs ++ e ∷ [])) ≡ true
all_more test back xs e before here = search (all_split, back, both_true, here, arith)

-- and of each event where it holds of all
pub all_here : (test : Place Stamped → Bool) → LooksBack test → (xs : List Stamped) (e : Stamped)
    (ys : List Stamped)
    → list_all test (places (xs ++ e ∷ ys)) ≡ true → test (next_place xs e) ≡ true
all_here test back xs e ys all =
    let rest = second_true (list_all test (places _)) _ (sym (all_split test back xs (e ∷ ys))
    ∙ all) in
    sym (back ys _) ∙ first_true _ _ rest

abbrev pub legal_test : Header → Place Stamped → Bool
legal_test h place = is_legal_at (cells_of h) place

abbrev turn_test : Place Stamped → Bool
turn_test place = not (is_misplaced place)

-- an event that breaks no rule is legal and in turn, and the other way round
pub no_rule : (r : Recorded) (e : Stamped) → broken_by r e ≡ None
    → (legal_test r.header (next_place r.history e) ≡ true)
    × (turn_test (next_place r.history e) ≡ true)
no_rule r e none = grind arith

breaks_none : (r : Recorded) (e : Stamped) → legal_test r.header (next_place r.history e) ≡ true
    → turn_test (next_place r.history e) ≡ true
    → broken_by r e ≡ None
breaks_none r e legal turn = grind arith

-- what is kept of a history while it is read
record Keeps (r : Recorded) : Type 0 where
  legal : list_all (legal_test r.header) (places r.history) ≡ true
  in_turn : list_all turn_test (places r.history) ≡ true
  spelled : AllByRecursion (λ e. is_event_of r.header.subject e ≡ true) r.history

keeps_more : (r : Recorded) (e : Stamped) → Keeps r → is_event_of r.header.subject e ≡ true
    → broken_by r e ≡ None → Keeps (with_event r e)
keeps_more r e keeps is none = search (no_rule, all_more, all_push, arith)

-- what lines say after the history so far: more events and then `end`
record Sound (r : Recorded) (n : ℕ) (lines : List (List ℕ)) (v : Recorded) : Type 0 where
  more : List Stamped
  text : lines ≡ map event_line more ++ end_line ∷ [] ∷ []
  history : v.history ≡ r.history ++ more
  header : v.header ≡ r.header
  keeps : Keeps v
  few : n + length more ≤ 4000000

-- nothing follows `end`
nothing_after : (r : Recorded) (n : ℕ) (lines : List (List ℕ)) (v : Recorded) → ended r n lines
    ≡ Ok v → (lines ≡ [] ∷ []) × (r ≡ v)
nothing_after r n lines v e = grind arith

lines_sound : (r : Recorded) (n : ℕ) (lines : List (List ℕ)) (v : Recorded) → Keeps r
    → lines_read r n lines ≡ Ok v → Sound r n lines v
lines_sound r n [] v keeps e = cc
lines_sound r n (rest ∷ []) v keeps e = cc
lines_sound r n (line ∷ next ∷ lines) v keeps e = by_limit
    (λ u k f. lines_sound u (n + 1) (next ∷ lines) v k f) (nat_lt 4000000 n) refl e
  where
    Rest : Type 0
    Rest = (u : Recorded) → Keeps u → lines_read u (n + 1) (next ∷ lines) ≡ Ok v
        → Sound u (n + 1) (next ∷ lines) v

    by_rule : Rest → (x : Stamped) → event_in r.header.subject (length r.history) line ≡ Some x
        → (o : Option HistoryRule) → broken_by r x ≡ o
        → then_lines n (next ∷ lines) (unless_broken r x o) ≡ Ok v
        → Sound r n (line ∷ next ∷ lines) v
    by_rule rest x is (Some rule) none f = cc
    by_rule rest x is None none f =
        let spelled = event_in_sound r.header.subject (length r.history) line x is in
        let s = rest (with_event r x) (keeps_more r x keeps spelled.is none) f in
        record {
          more = x ∷ s.more;
          text = λ i. spelled.line_is i ∷ s.text i;
          history = s.history ∙ append_assoc r.history (x ∷ []) s.more;
          header = s.header;
          keeps = s.keeps;
          few = let l = s.few in omega (arith, l);
        }

    by_event : Rest → (o : Option Stamped) → event_in r.header.subject (length r.history) line ≡ o
        → then_lines n (next ∷ lines) (event_read r o) ≡ Ok v
        → Sound r n (line ∷ next ∷ lines) v
    by_event rest None is f = cc
    by_event rest (Some x) is f = by_rule rest x is (broken_by r x) refl f

    by_end : Rest → n ≤ 4000000 → (b : Bool) → bytes_eq line end_line ≡ b
        → cond b (ended r (n + 1) (next ∷ lines)) (then_lines n (next ∷ lines) (line_read r line))
        ≡ Ok v
        → Sound r n (line ∷ next ∷ lines) v
    by_end rest low true is f =
        let last = nothing_after r (n + 1) (next ∷ lines) v f in
        let end = (bytes_eq-Decides line end_line).0 is in
        record {
          more = [];
          text = λ i. end i ∷ last.0 i;
          history = ap (λ u. u.history) (sym last.1) ∙ sym (append-nil r.history);
          header = ap (λ u. u.header) (sym last.1);
          keeps = subst Keeps last.1 keeps;
          few = omega (arith, low);
        }
    by_end rest low false is f = by_event rest (event_in r.header.subject (length r.history) line)
        refl f

    by_limit : Rest → (b : Bool) → nat_lt 4000000 n ≡ b
        → cond b (refused n TooManyLines)
        (cond (bytes_eq line end_line) (ended r (n + 1) (next ∷ lines))
        (then_lines n (next ∷ lines) (line_read r line))) ≡ Ok v
        → Sound r n (line ∷ next ∷ lines) v
    by_limit rest true is f = cc
    by_limit rest false is f = by_end rest (not_below_of 4000000 n is) (bytes_eq line end_line) refl
        f

-- all lines, and what stands after the last line feed
abbrev all_lines : Recorded → List (List ℕ)
all_lines r = history_header_line r.header.subject r.header.size r.header.callers
    ∷ map event_line r.history ++ end_line ∷ [] ∷ []

all_lines_are : (r : Recorded) → history_lines r ++ [] ∷ [] ≡ all_lines r
all_lines_are r = grind (arith, append_assoc)

-- what is read: a history's text, which keeps the limits
pub record IsHistoryText (bytes : List ℕ) (r : Recorded) : Type 0 where
  pub text : bytes ≡ history_text r
  pub limits : KeepsLimits r

text_sound : (parts : List (List ℕ)) (v : Recorded) → text_read parts ≡ Ok v
    → IsHistoryText (join_with_byte 10 parts) v
unfolding history_text is_legal
text_sound [] v e = cc
text_sound (rest ∷ []) v e = cc
text_sound (line ∷ next ∷ lines) v e = by_header (history_header_in line) refl e
  where
    found : (h : Header) → IsFirst line h → lines_read (record { header = h; history = [] }) 2
        (next ∷ lines) ≡ Ok v
        → IsHistoryText (join_with_byte 10 (line ∷ next ∷ lines)) v
    found h is f =
        let s = lines_sound (record { header = h; history = [] }) 2 (next ∷ lines) v
        (record { legal = refl; in_turn = refl; spelled = tt }) f in
        let events : v.history ≡ s.more = s.history in
        let first : line ≡ history_header_line v.header.subject v.header.size v.header.callers =
        cc (is.1, s.header) in
        let all : ◌≡◌ {A = List (List ℕ)} (line ∷ next ∷ lines) (all_lines v) = λ i. first i
        ∷ (s.text ∙ ap (λ xs. map event_line xs ++ end_line ∷ [] ∷ []) (sym events)) i in
        record {
          text = ap (join_with_byte 10) (all ∙ sym (all_lines_are v))
              ∙ join_lines (history_lines v);
          limits = record {
            version = cc (s.header, is.0);
            legal = s.keeps.legal;
            in_turn = s.keeps.in_turn;
            spelled = s.keeps.spelled;
            few = let l = s.few in omega (arith, l, ap length events);
          };
        }

    by_header : (o : Option Header) → history_header_in line ≡ o → after_first (next ∷ lines)
        (begun_or_bad o) ≡ Ok v
        → IsHistoryText (join_with_byte 10 (line ∷ next ∷ lines)) v
    by_header None is f = cc
    by_header (Some h) is f = found h (header_in_sound line h is) f

pub reading_sound : (bytes : List ℕ) (r : Recorded) → history_reading bytes ≡ Ok r
    → IsHistoryText bytes r
unfolding history_reading
reading_sound bytes r e = subst (λ xs. IsHistoryText xs r) (join_with_byte-slice_split 10 bytes)
    (text_sound (cut bytes) r e)

-- an event's line is one line
did_whole : (subject : Subject) (caller : ℕ) (did : Did) → nat_lt caller (2 ^ 32) ≡ true
    → is_did_of subject did ≡ true → lacks 10 (did_line caller did) ≡ true
did_whole subject caller (Read cell value) low is = search (
  lacks-join,
  plain_line_feeds,
  both_true,
  plain_number,
  below_32,
  first_true,
  below_of,
  second_true,
  arith,
)
did_whole subject caller (Wrote cell value) low is = search (
  lacks-join,
  plain_line_feeds,
  both_true,
  plain_number,
  below_32,
  first_true,
  below_of,
  second_true,
  arith,
)
did_whole subject caller (Took lock) low is = search
    (lacks-join, plain_line_feeds, both_true, plain_number, below_32, arith)
did_whole subject caller (Gave lock) low is = search
    (lacks-join, plain_line_feeds, both_true, plain_number, below_32, arith)
did_whole subject caller (Marked kind) low is = entry_line_whole subject _
    (both_true (nat_lt _ _) (is_kind_of subject kind) low (first_true _ (not _) is))

pub event_line_whole : (subject : Subject) (e : Stamped) → is_event_of subject e ≡ true
    → lacks 10 (event_line e) ≡ true
event_line_whole subject e is = search (did_whole, first_true, second_true, arith)

-- a line with a space isn't the line `end`
isnt_end : (caller : ℕ) (did : Did) (rest : List ℕ) → did_line caller did ≡ decimal caller
    ++ 32 ∷ rest → bytes_eq (did_line caller did) end_line ≡ false
isnt_end caller did rest line = by_test (bytes_eq (did_line caller did) end_line) refl
  where
    by_test : (b : Bool) → bytes_eq (did_line caller did) end_line ≡ b → b ≡ false
    by_test true same =
        ap (lacks 32) (sym ((bytes_eq-Decides (did_line caller did) end_line).0 same))
        ∙ ap (lacks 32) line ∙ spaced_isnt_end (decimal caller) rest
    by_test false same = refl

pub did_isnt_end : (caller : ℕ) (did : Did) → bytes_eq (did_line caller did) end_line ≡ false
did_isnt_end caller did = grind (arith, isnt_end, entry_line_isnt_end)

abbrev of_parts : Header → List Stamped → Recorded
of_parts h history = record { header = h; history = history }

-- one event's line is read
event_step : (h : Header) (past : List Stamped) (n : ℕ) (e : Stamped) (rest : List (List ℕ))
    → has_any rest ≡ true → n ≤ 4000000
    → is_event_of h.subject e ≡ true → e.number ≡ length past → broken_by (of_parts h past) e ≡ None
    → lines_read (of_parts h past) n (event_line e ∷ rest)
    ≡ lines_read (of_parts h (past ++ e ∷ [])) (n + 1) rest
event_step h past n e rest some low is number none =
    grind (arith, past, refused, ended, isnt_below, did_isnt_end, event_in-event_line)

some_lines : (es : List Stamped) (next : List ℕ) (lines : List (List ℕ))
    → has_any (map event_line es ++ next ∷ lines) ≡ true
some_lines [] next lines = refl
some_lines (e ∷ es) next lines = refl

-- the line `end` is read
end_step : (r : Recorded) (n : ℕ) → n ≤ 4000000 → lines_read r n (end_line ∷ [] ∷ []) ≡ Ok r
end_step r n low = ap (λ b. cond b (refused n TooManyLines) (Ok r)) (isnt_below 4000000 n low)

legal_number : (h : Header) (past : List Stamped) (e : Stamped) → legal_test h (next_place past e)
    ≡ true → e.number ≡ length past
legal_number h past e legal = grind (arith, past, same_of, first_true, length-newest_first)

-- the lines of events, and `end`
events_read : (h : Header) (past todo : List Stamped) (n : ℕ)
    → AllByRecursion (λ e. is_event_of h.subject e ≡ true) todo
    → list_all (legal_test h) (places (past ++ todo)) ≡ true
    → list_all turn_test (places (past ++ todo)) ≡ true → n + length todo ≤ 4000000
    → lines_read (of_parts h past) n (map event_line todo ++ end_line ∷ [] ∷ [])
    ≡ Ok (of_parts h (past ++ todo))
events_read h past [] n all legal turn few =
    cc (end_step (of_parts h past) n (omega arith), append-nil past)
events_read h past (e ∷ todo) n all legal turn few =
    let legal_here = all_here (legal_test h) (λ more place. refl) past e todo legal in
    let turn_here = all_here turn_test (λ more place. refl) past e todo turn in
    event_step h past n e (map event_line todo ++ end_line ∷ [] ∷ [])
    (some_lines todo end_line ([] ∷ [])) (omega arith) all.0
    (legal_number h past e legal_here) (breaks_none (of_parts h past) e legal_here turn_here)
    ∙ events_read h (past ++ e ∷ []) todo (n + 1) all.1
    (cc (append_assoc past (e ∷ []) todo))
    (cc (append_assoc past (e ∷ []) todo))
    (omega arith)
    ∙ ap (λ es. Ok (of_parts h es)) (append_assoc past (e ∷ []) todo)

events_lack : (subject : Subject) (es : List Stamped)
    → AllByRecursion (λ e. is_event_of subject e ≡ true) es
    → all_lack 10 (map event_line es ++ end_line ∷ []) ≡ true
events_lack subject [] all = refl
events_lack subject (e ∷ es) all = both_true _ _ (event_line_whole subject e all.0)
    (events_lack subject es all.1)

all_lack_feeds : (r : Recorded) → KeepsLimits r → all_lack 10 (history_lines r) ≡ true
all_lack_feeds r keeps =
    both_true _ _ (first_line_whole _ _ _ (let l = size_in_32_bits r.header in omega (arith, l))
    (let l = callers_in_32_bits r.header in omega (arith, l)))
    (events_lack r.header.subject _ keeps.spelled)

-- all lines are read as the history
all_read : (r : Recorded) → KeepsLimits r → text_read (all_lines r) ≡ Ok r
unfolding is_legal
all_read r keeps = by_rest (map _ _ ++ end_line ∷ [] ∷ []) (some_lines _ _ _)
    (events_read _ [] _ 2 keeps.spelled keeps.legal keeps.in_turn
    (let l = keeps.few in omega (arith, l)))
  where
    by_rest : (rest : List (List ℕ)) → has_any rest ≡ true
        → lines_read (of_parts r.header []) 2 rest ≡ Ok r
        → text_read (history_header_line r.header.subject r.header.size r.header.callers ∷ rest)
        ≡ Ok r
    by_rest [] some on = cc
    by_rest (next ∷ lines) some on = cc (header_in-first_line r.header keeps.version)

-- the text of a history is read as that history
pub reading-history_text : (r : Recorded) → KeepsLimits r → history_reading (history_text r) ≡ Ok r
unfolding history_reading history_text
reading-history_text r keeps = ap text_read (cut_lines (history_lines r) (all_lack_feeds r keeps)
    ∙ all_lines_are r) ∙ all_read r keeps
