-- The bytes of the longest input settle what they say: the lines that are taken in are short and
-- few, so reading ends at a line that begins in them.
use Rattle.vyrd_work.proofs.Prelude
use Prelude.{◌≡◌, ℕ, ◌+◌, ◌<◌, ◌≤◌, Bool, true, false, cond, List, [], ◌∷◌, ◌++◌, length, Option}
use Prelude.{Some, None, Result, Ok, Err, refl, ap, sym, ◌∙◌, arith, length-append, ◌==◌}
use Prelude.{onto_first, join_with_byte, bytes_eq, bytes_eq-Decides, join_with_byte-slice_split}
use Prelude.{Subject, end_line, is_below, cut, parts_of, Item, WorkRule, AfterEnd, BadHeader}
use Prelude.{BadLine, Workload, item_line, begun_in, is_item_of, item_in, Refusal, refused}
use Prelude.{broken_by, with_item, unless_broken, item_read, line_read, begun_or_bad}
use Prelude.{unfinished_rule, ended, lines_read, text_read, work_reading, KeepsLimits}
use Rattle.std.proofs.Common.{◌*◌}
use Rattle.vyrd_base.proofs.LongLines.{long_isnt_end, longer}
use Rattle.vyrd_work.specs.declared.line.Item.TheVariants as item
use Rattle.vyrd_work.specs.LongInputs.{longest_input}
use Rattle.vyrd_work.proofs.ItemLaws.{item_in_sound}
use Rattle.vyrd_work.proofs.FirstLaws.{IsBegun, begun_in_sound}
use Rattle.vyrd_work.proofs.WalkLaws.{then_lines}
use Rattle.vyrd_work.proofs.LimitLaws.{limits_more}
use Rattle.vyrd_work.proofs.ShortLines.{short_op, short_turns, short_first}
use Rattle.vyrd_work.proofs.TextLaws.{begun_keeps}

-- the lines of two texts in a row: the last line of the first, `p` where no others follow it, goes
-- on with the first of the
-- second
abbrev joined_first : List ℕ → List (List ℕ) → List ℕ → List ℕ
joined_first p [] q = p ++ q
joined_first p (next ∷ ps) q = p

abbrev joined_rest : List (List ℕ) → List ℕ → List (List ℕ) → List (List ℕ)
joined_rest [] q qs = qs
joined_rest (p ∷ ps) q qs = joined_first p ps q ∷ joined_rest ps q qs

abbrev joined : List (List ℕ) → List ℕ → List (List ℕ) → List (List ℕ)
joined [] q qs = q ∷ qs
joined (p ∷ ps) q qs = joined_first p ps q ∷ joined_rest ps q qs

cut_joined : (xs ys q : List ℕ) (qs : List (List ℕ)) → cut ys ≡ q ∷ qs → cut (xs ++ ys)
    ≡ joined (cut xs) q qs
cut_joined [] ys q qs e = e
cut_joined (x ∷ xs) ys q qs e = by_byte (cut_joined xs ys q qs e) (x == 10)
  where
    p : (next : List ℕ) × (lines : List (List ℕ)) × (cut xs ≡ next ∷ lines)
    p = parts_of xs

    onto : (first : List ℕ) (ps : List (List ℕ)) → onto_first x (joined (first ∷ ps) q qs)
        ≡ joined (onto_first x (first ∷ ps)) q qs
    onto first ps = search arith

    by_byte : cut (xs ++ ys) ≡ joined (cut xs) q qs → (b : Bool)
        → cond b ([] ∷ cut (xs ++ ys)) (onto_first x (cut (xs ++ ys)))
        ≡ joined (cond b ([] ∷ cut xs) (onto_first x (cut xs))) q qs
    by_byte on true = cc (p.2)
    by_byte on false = cc (p.2, onto p.0 p.1)

-- a line of more than 64 bytes says nothing
long_rest : (bad : WorkRule) (rest : List ℕ) → 64 < length rest → unfinished_rule bad rest ≡ bad
long_rest bad rest long = cc (is_below 64 (length rest) long)

short_item : (subject : Subject) (x : Item) → is_item_of subject x ≡ true → length (item_line x)
    ≤ 64
short_item subject (item.Op o) is = short_op subject o is
short_item subject (item.Turns t) is = short_turns subject t is

long_item : (subject : Subject) (line : List ℕ) → 64 < length line → item_in subject line ≡ None
long_item subject line long = by_answer (item_in subject line) refl
  where
    by_answer : (o : Option Item) → item_in subject line ≡ o → o ≡ None
    by_answer None e = refl
    by_answer (Some x) e =
        let is = item_in_sound subject line x e in
        let short = short_item subject x is.1 in
        let same = ap length is.0 in
        absurd (omega (arith, long, short, same))

long_first : (line : List ℕ) → 64 < length line → begun_in line ≡ None
long_first line long = by_answer (begun_in line) refl
  where
    by_answer : (o : Option Workload) → begun_in line ≡ o → o ≡ None
    by_answer None e = refl
    by_answer (Some w) e =
        grind (arith, short_first w.header w.variant, (begun_in_sound line w e).line_is)

long_line : (w : Workload) (n : ℕ) (line : List ℕ) (lines : List (List ℕ)) → 64 < length line
    → lines_read w n (line ∷ lines) ≡ refused n BadLine
long_line w n line lines long = search (refused, long_rest, ended, long_isnt_end, long_item, arith)

-- what is read after the first line
abbrev after_first : List ℕ → List (List ℕ) → Result Workload WorkRule → Result Workload Refusal
after_first next lines r =
    elim r as (λ _. Result Workload Refusal) [
      | Ok w ↦ lines_read w 2 (next ∷ lines)
      | Err rule ↦
          refused 1 rule
    ]

long_text : (line : List ℕ) (lines : List (List ℕ)) → 64 < length line → text_read (line ∷ lines)
    ≡ refused 1 BadHeader
long_text line lines long = grind (arith, long, refused, long_rest, long_first)

-- anything after `end` is too much
too_much : (w : Workload) (n : ℕ) (line : List ℕ) (lines : List (List ℕ))
    → 0 < length (join_with_byte 10 (line ∷ lines))
    → ended w n (line ∷ lines) ≡ refused n AfterEnd
too_much w n line lines some = grind arith

more_too_much : (w : Workload) (n : ℕ) (line : List ℕ) (lines : List (List ℕ)) (q : List ℕ)
    (qs : List (List ℕ))
    → 0 < length (join_with_byte 10 (line ∷ lines))
    → ended w n (joined (line ∷ lines) q qs) ≡ refused n AfterEnd
more_too_much w n [] [] q qs some = absurd (omega (arith, some))
more_too_much w n [] (next ∷ lines) q qs some = refl
more_too_much w n (b ∷ bs) [] q qs some = refl
more_too_much w n (b ∷ bs) (next ∷ lines) q qs some = refl

-- how many lines were taken in
abbrev lines_in : Workload → ℕ
lines_in w = length w.ops + length w.turns

one_line_more : (w : Workload) (x : Item) → lines_in (with_item w x) ≡ lines_in w + 1
one_line_more w (item.Op o) = omega (arith, length-append w.ops (o ∷ []))
one_line_more w (item.Turns t) = omega (arith, length-append w.turns (t ∷ []))

length_lines : (line next : List ℕ) (lines : List (List ℕ))
    → length (join_with_byte 10 (line ∷ next ∷ lines)) ≡ length line + 1
    + length (join_with_byte 10 (next ∷ lines))
length_lines line next lines = search (length-append, arith)

-- how many bytes the lines to come have, with 65 for each line that was taken in
abbrev Enough : Workload → List (List ℕ) → Type 0
Enough w lines = longest_input ≤ 65 * (1 + lines_in w) + length (join_with_byte 10 lines)

lines_settled : (w : Workload) (n : ℕ) (line : List ℕ) (lines : List (List ℕ)) (q : List ℕ)
    (qs : List (List ℕ)) → KeepsLimits w
    → Enough w (line ∷ lines)
    → lines_read w n (joined (line ∷ lines) q qs) ≡ lines_read w n (line ∷ lines)
lines_settled w n line [] q qs keeps enough = search (long_line, longer, arith)
lines_settled w n line (next ∷ lines) q qs keeps enough = by_end
    (λ u k f. lines_settled u (n + 1) next lines q qs k f) (bytes_eq line end_line) refl
  where
    whole : length (join_with_byte 10 (line ∷ next ∷ lines)) ≡ length line + 1
        + length (join_with_byte 10 (next ∷ lines))
    whole = length_lines line next lines

    Rest : Type 0
    Rest = (u : Workload) → KeepsLimits u → Enough u (next ∷ lines)
        → lines_read u (n + 1) (joined (next ∷ lines) q qs) ≡ lines_read u (n + 1) (next ∷ lines)

    by_rule : Rest → (x : Item) → item_in w.header.subject line ≡ Some x → (o : Option WorkRule)
        → broken_by w x ≡ o
        → then_lines n (joined (next ∷ lines) q qs) (unless_broken w x o)
        ≡ then_lines n (next ∷ lines) (unless_broken w x o)
    by_rule rest x is (Some rule) none = refl
    by_rule rest x is None none =
        let spelled = item_in_sound w.header.subject line x is in
        let short = short_item w.header.subject x spelled.1 in
        let same = ap length spelled.0 in
        let one = one_line_more w x in
        rest (with_item w x) (limits_more w x keeps spelled.1 none)
        (omega (arith, enough, whole, short, same, one))

    by_item : Rest → (o : Option Item) → item_in w.header.subject line ≡ o
        → then_lines n (joined (next ∷ lines) q qs) (item_read w o) ≡ then_lines n (next ∷ lines)
        (item_read w o)
    by_item rest None is = refl
    by_item rest (Some x) is = by_rule rest x is (broken_by w x) refl

    by_end : Rest → (b : Bool) → bytes_eq line end_line ≡ b
        → cond b (ended w (n + 1) (joined (next ∷ lines) q qs))
        (then_lines n (joined (next ∷ lines) q qs) (line_read w line))
        ≡ cond b (ended w (n + 1) (next ∷ lines)) (then_lines n (next ∷ lines) (line_read w line))
    by_end rest true is =
        let same = ap length ((bytes_eq-Decides line end_line).0 is) in
        let some : 0 < length (join_with_byte 10 (next ∷ lines)) =
        omega (arith, enough, whole, same, keeps.op_count, keeps.turn_count) in
        more_too_much w (n + 1) next lines q qs some ∙ sym (too_much w (n + 1) next lines some)
    by_end rest false is = by_item rest (item_in w.header.subject line) refl

text_settled : (line : List ℕ) (lines : List (List ℕ)) (q : List ℕ) (qs : List (List ℕ))
    → longest_input ≤ length (join_with_byte 10 (line ∷ lines))
    → text_read (joined (line ∷ lines) q qs) ≡ text_read (line ∷ lines)
text_settled line [] q qs enough = search (long_text, longer, arith)
text_settled line (next ∷ lines) q qs enough = by_begun (begun_in line) refl
  where
    From : Result Workload WorkRule → Type 0
    From r = after_first (joined_first next lines q) (joined_rest lines q qs) r
        ≡ after_first next lines r

    found : (w : Workload) → IsBegun line w → From (Ok w)
    found w is = search (short_first, lines_settled, begun_keeps, length_lines, arith)

    by_begun : (o : Option Workload) → begun_in line ≡ o → From (begun_or_bad o)
    by_begun o e = search (found, begun_in_sound, arith)

pub reading_settled : (bytes more : List ℕ) → longest_input ≤ length bytes
    → work_reading (bytes ++ more) ≡ work_reading bytes
unfolding work_reading
reading_settled bytes more enough =
    let p = parts_of bytes in
    let q = parts_of more in
    let joins = ap length (ap (join_with_byte 10) (sym p.2)
    ∙ join_with_byte-slice_split 10 bytes) in
    ap text_read (cut_joined bytes more q.0 q.1 q.2)
    ∙ ap (λ ls. text_read (joined ls q.0 q.1)) p.2
    ∙ text_settled p.0 p.1 q.0 q.1 (omega (arith, enough, joins))
    ∙ ap text_read (sym p.2)
