-- The text of a workload is read as that workload, and what is read is the text of a workload.
use Rattle.vyrd_work.proofs.Prelude
use Prelude.{◌≡◌, ℕ, ◌+◌, ◌≤◌, Bool, true, false, cond, List, [], ◌∷◌, ◌++◌, map, length, Option}
use Prelude.{Some, None, Result, Ok, Err, refl, ap, subst, sym, ◌∙◌, arith, append_assoc}
use Prelude.{length-append, join_with_byte, AllByRecursion, bytes_eq, append-nil, bytes_eq-Decides}
use Prelude.{join_with_byte-slice_split, Header, end_line, is_built_in, size_in_32_bits}
use Prelude.{callers_in_32_bits, cut, both_true, Turn, Variant, WorkOp, Item, WorkRule, Workload}
use Prelude.{work_header_line, item_line, items_of, lines_of, work_text, most_turn_lines}
use Prelude.{most_turns, are_small, most_ops, begun, begun_in, is_item_of, item_in, Refusal}
use Prelude.{refused, turns_in, broken_by, with_item, unless_broken, item_read, line_read}
use Prelude.{begun_or_bad, ended, lines_read, text_read, work_reading, is_op_of, is_turn_of}
use Prelude.{KeepsLimits}
use Rattle.vyrd_base.specs.Reading.{has_any}
use Rattle.vyrd_base.proofs.SplitLaws.{join_lines, cut_lines, all_lack}
use Rattle.vyrd_work.specs.declared.line.Item.TheVariants as item
use Rattle.vyrd_work.proofs.ItemLaws.{item_in_sound, item_in-item_line, item_line_isnt_end}
use Rattle.vyrd_work.proofs.ItemLaws.{item_line_whole}
use Rattle.vyrd_work.proofs.FirstLaws.{IsBegun, begun_in_sound, begun_in-first_line}
use Rattle.vyrd_work.proofs.FirstLaws.{first_line_whole}
use Rattle.vyrd_work.proofs.BuiltIn.{work_built_in}
use Rattle.vyrd_work.proofs.WalkLaws.{then_lines}
use Rattle.vyrd_work.proofs.LimitLaws.{limits_more, items_more, op_unbroken, turns_unbroken}
use Rattle.vyrd_work.proofs.LimitLaws.{op_is_item, turns_are_item, turns_more, turns_cons}

-- what lines say after the workload so far: more items and then `end`, and with them the workload
-- keeps the limits
record Sound (w : Workload) (lines : List (List ℕ)) (v : Workload) : Type 0 where
  more : List Item
  text : lines ≡ map item_line more ++ end_line ∷ [] ∷ []
  items : items_of v ≡ items_of w ++ more
  header : v.header ≡ w.header
  variant : v.variant ≡ w.variant
  limits : KeepsLimits v

with_header : (w : Workload) (x : Item) → (with_item w x).header ≡ w.header
with_header w x = search arith

with_variant : (w : Workload) (x : Item) → (with_item w x).variant ≡ w.variant
with_variant w x = search arith

-- nothing follows `end`
nothing_after : (w : Workload) (n : ℕ) (lines : List (List ℕ)) (v : Workload) → ended w n lines
    ≡ Ok v → (lines ≡ [] ∷ []) × (w ≡ v)
nothing_after w n lines v e = grind arith

lines_sound : (w : Workload) (n : ℕ) (lines : List (List ℕ)) (v : Workload) → KeepsLimits w
    → lines_read w n lines ≡ Ok v → Sound w lines v
lines_sound w n [] v keeps e = cc
lines_sound w n (rest ∷ []) v keeps e = cc
lines_sound w n (line ∷ next ∷ lines) v keeps e = by_end
    (λ u k f. lines_sound u (n + 1) (next ∷ lines) v k f) (bytes_eq line end_line) refl e
  where
    Rest : Type 0
    Rest = (u : Workload) → KeepsLimits u → lines_read u (n + 1) (next ∷ lines) ≡ Ok v
        → Sound u (next ∷ lines) v

    by_rule : Rest → (x : Item) → item_in w.header.subject line ≡ Some x → (o : Option WorkRule)
        → broken_by w x ≡ o
        → then_lines n (next ∷ lines) (unless_broken w x o) ≡ Ok v → Sound w (line ∷ next ∷ lines) v
    by_rule rest x is (Some rule) none f = cc
    by_rule rest x is None none f =
        let spelled = item_in_sound w.header.subject line x is in
        let s = rest (with_item w x) (limits_more w x keeps spelled.1 none) f in
        record {
          more = x ∷ s.more;
          text = λ i. spelled.0 i ∷ s.text i;
          items = cc (s.items, items_more w x none, append_assoc (items_of w) (x ∷ []) s.more);
          header = s.header ∙ with_header w x;
          variant = s.variant ∙ with_variant w x;
          limits = s.limits;
        }

    by_item : Rest → (o : Option Item) → item_in w.header.subject line ≡ o
        → then_lines n (next ∷ lines) (item_read w o) ≡ Ok v
        → Sound w (line ∷ next ∷ lines) v
    by_item rest None is f = cc
    by_item rest (Some x) is f = by_rule rest x is (broken_by w x) refl f

    by_end : Rest → (b : Bool) → bytes_eq line end_line ≡ b
        → cond b (ended w (n + 1) (next ∷ lines)) (then_lines n (next ∷ lines) (line_read w line))
        ≡ Ok v
        → Sound w (line ∷ next ∷ lines) v
    by_end rest true is f =
        let last = nothing_after w (n + 1) (next ∷ lines) v f in
        let end = (bytes_eq-Decides line end_line).0 is in
        record {
          more = [];
          text = λ i. end i ∷ last.0 i;
          items = ap items_of (sym last.1) ∙ sym (append-nil (items_of w));
          header = cc last.1;
          variant = cc last.1;
          limits = subst KeepsLimits last.1 keeps;
        }
    by_end rest false is f = by_item rest (item_in w.header.subject line) refl f

-- all lines, and what stands after the last line feed
abbrev all_lines : Workload → List (List ℕ)
all_lines w = work_header_line w.header.subject w.header.size w.header.callers w.variant
    ∷ map item_line (items_of w) ++ end_line ∷ [] ∷ []

all_lines_are : (w : Workload) → lines_of w ++ [] ∷ [] ≡ all_lines w
all_lines_are w = grind (arith, append_assoc)

-- a workload of nothing keeps the limits
pub begun_keeps : (h : Header) (variant : Variant) → h.version ≡ 1 → KeepsLimits (begun variant h)
begun_keeps h variant one = grind arith

-- what is read: a workload's text, which keeps the limits
pub record IsWorkText (bytes : List ℕ) (w : Workload) : Type 0 where
  pub text : bytes ≡ work_text w
  pub limits : KeepsLimits w

text_sound : (parts : List (List ℕ)) (v : Workload) → text_read parts ≡ Ok v
    → IsWorkText (join_with_byte 10 parts) v
unfolding work_text
text_sound [] v e = cc
text_sound (rest ∷ []) v e = cc
text_sound (line ∷ next ∷ lines) v e = by_begun (begun_in line) refl e
  where
    after_first : Result Workload WorkRule → Result Workload Refusal
    after_first r =
        elim r as (λ _. Result Workload Refusal) [
          | Ok w ↦ lines_read w 2 (next ∷ lines)
          | Err rule ↦
              refused 1 rule
        ]

    found : (w : Workload) → IsBegun line w → lines_read w 2 (next ∷ lines) ≡ Ok v
        → IsWorkText (join_with_byte 10 (line ∷ next ∷ lines)) v
    found w is f =
        let s = lines_sound w 2 (next ∷ lines) v
        (subst KeepsLimits (sym is.empty) (begun_keeps w.header w.variant is.version)) f in
        let items : items_of v ≡ s.more = s.items ∙ ap (λ u. items_of u ++ s.more) is.empty in
        let first : line ≡ work_header_line v.header.subject v.header.size v.header.callers
        v.variant =
        is.line_is ∙ (λ i. work_header_line (sym s.header i).subject (sym s.header i).size
        (sym s.header i).callers (sym s.variant i)) in
        let all : ◌≡◌ {A = List (List ℕ)} (line ∷ next ∷ lines) (all_lines v) =
        λ i. first i ∷ (s.text ∙ ap (λ xs. map item_line xs ++ end_line ∷ [] ∷ []) (sym items)) i in
        record {
          text = ap (join_with_byte 10) (all ∙ sym (all_lines_are v)) ∙ join_lines (lines_of v);
          limits = s.limits;
        }

    by_begun : (o : Option Workload) → begun_in line ≡ o → after_first (begun_or_bad o) ≡ Ok v
        → IsWorkText (join_with_byte 10 (line ∷ next ∷ lines)) v
    by_begun None is f = cc
    by_begun (Some w) is f = found w (begun_in_sound line w is) f

pub reading_sound : (bytes : List ℕ) (w : Workload) → work_reading bytes ≡ Ok w → IsWorkText bytes w
unfolding work_reading
reading_sound bytes w e = subst (λ xs. IsWorkText xs w) (join_with_byte-slice_split 10 bytes)
    (text_sound (cut bytes) w e)

-- one item's line is read
item_step : (w : Workload) (n : ℕ) (x : Item) (rest : List (List ℕ)) → has_any rest ≡ true
    → is_item_of w.header.subject x ≡ true
    → broken_by w x ≡ None
    → lines_read w n (item_line x ∷ rest) ≡ lines_read (with_item w x) (n + 1) rest
item_step w n x rest some is none = grind (arith, ended, item_line_isnt_end, item_in-item_line)

some_lines : (xs : List Item) (next : List ℕ) (lines : List (List ℕ))
    → has_any (map item_line xs ++ next ∷ lines) ≡ true
some_lines [] next lines = refl
some_lines (x ∷ xs) next lines = refl

abbrev of_parts : Header → Variant → List WorkOp → List Turn → Workload
of_parts h variant ops turns = record { header = h; variant = variant; ops = ops; turns = turns }

-- the lines of turns, and `end`
turns_read : (h : Header) (variant : Variant) (ops : List WorkOp) (past todo : List Turn) (n : ℕ)
    → AllByRecursion (λ t. is_turn_of h t ≡ true) todo
    → length past + length todo ≤ most_turn_lines → turns_in past + turns_in todo ≤ most_turns
    → lines_read (of_parts h variant ops past) n (map item_line (map item.Turns todo) ++ end_line
    ∷ [] ∷ [])
    ≡ Ok (of_parts h variant ops (past ++ todo))
turns_read h variant ops past [] n all count total = cc (append-nil past)
turns_read h variant ops past (t ∷ todo) n all count total =
    let w = of_parts h variant ops past in
    let split = turns_cons t todo in
    item_step w n (item.Turns t) (map item_line (map item.Turns todo) ++ end_line ∷ [] ∷ [])
    (some_lines (map item.Turns todo) end_line ([] ∷ []))
    (turns_are_item h t all.0)
    (turns_unbroken w t all.0 (omega arith) (omega (arith, split, total)))
    ∙ turns_read h variant ops (past ++ t ∷ []) todo (n + 1) all.1
    (omega (arith, length-append past (t ∷ [])))
    (let more = turns_more past t in omega (arith, more, split, total))
    ∙ ap (λ ts. Ok (of_parts h variant ops ts)) (append_assoc past (t ∷ []) todo)

-- the lines of operations, and what follows them
ops_read : (h : Header) (variant : Variant) → is_built_in h.subject ≡ true
    → (past todo : List WorkOp) (next : List ℕ) (lines : List (List ℕ))
    (r : Result Workload Refusal) (n : ℕ)
    → AllByRecursion (λ o. is_op_of h o ≡ true) todo
    → AllByRecursion (λ o. are_small o.op.args ≡ true) todo → length past + length todo ≤ most_ops
    → ((m : ℕ) → lines_read (of_parts h variant (past ++ todo) []) m (next ∷ lines) ≡ r)
    → lines_read (of_parts h variant past []) n (map item_line (map item.Op todo) ++ next ∷ lines)
    ≡ r
ops_read h variant built past [] next lines r n all small count on = cc (append-nil past, on n)
ops_read h variant built past (o ∷ todo) next lines r n all small count on =
    let w = of_parts h variant past [] in
    item_step w n (item.Op o) _ (some_lines _ _ _) (op_is_item h o built all.0 small.0)
    (op_unbroken w o all.0 refl (omega arith)) ∙ ops_read h variant built (past ++ o ∷ []) todo next
    lines r (n + 1) all.1 small.1 (omega (arith, length-append past (o ∷ [])))
    (λ m. cc (append_assoc past (o ∷ []) todo, on m))

-- the lines after a workload's first
items_read : (w : Workload) (n : ℕ) → KeepsLimits w
    → lines_read (begun w.variant w.header) n (map item_line (items_of w) ++ end_line ∷ [] ∷ [])
    ≡ Ok w
items_read w n keeps = by_turns w.turns keeps.turns keeps.turn_count keeps.turn_sum
  where
    lines : (turns : List Turn) → map item_line (map item.Op w.ops ++ map item.Turns turns)
        ++ end_line ∷ [] ∷ []
        ≡ map item_line (map item.Op w.ops)
        ++ (map item_line (map item.Turns turns) ++ end_line ∷ [] ∷ [])
    lines turns = regroup w.ops
      where
        regroup : (ops : List WorkOp) → map item_line (map item.Op ops ++ map item.Turns turns)
            ++ end_line ∷ [] ∷ []
            ≡ map item_line (map item.Op ops)
            ++ (map item_line (map item.Turns turns) ++ end_line ∷ [] ∷ [])
        regroup [] = refl
        regroup (o ∷ ops) = cc (regroup ops)

    by_turns : (turns : List Turn) → AllByRecursion (λ t. is_turn_of w.header t ≡ true) turns
        → length turns ≤ most_turn_lines → turns_in turns ≤ most_turns
        → lines_read (begun w.variant w.header) n
        (map item_line (map item.Op w.ops ++ map item.Turns turns) ++ end_line ∷ [] ∷ [])
        ≡ Ok (of_parts w.header w.variant w.ops turns)
    by_turns [] all count total = ap (lines_read (begun w.variant w.header) n) (lines [])
        ∙ ops_read w.header w.variant (work_built_in w keeps) [] w.ops end_line ([] ∷ [])
        (Ok (of_parts w.header w.variant w.ops [])) n keeps.ops keeps.args
        (let l = keeps.op_count in omega (arith, l))
        (λ m. turns_read w.header w.variant w.ops [] [] m all (omega arith) (omega arith))
    by_turns (t ∷ turns) all count total = ap (lines_read (begun w.variant w.header) n)
        (lines (t ∷ turns)) ∙ ops_read w.header w.variant (work_built_in w keeps) [] w.ops
        (item_line (item.Turns t)) (map item_line (map item.Turns turns) ++ end_line ∷ [] ∷ [])
        (Ok (of_parts w.header w.variant w.ops (t ∷ turns))) n keeps.ops keeps.args
        (let l = keeps.op_count in omega (arith, l))
        (λ m. turns_read w.header w.variant w.ops [] (t ∷ turns) m all (omega arith) (omega arith))

turns_lack : (h : Header) (turns : List Turn) → AllByRecursion (λ t. is_turn_of h t ≡ true) turns
    → all_lack 10 (map item_line (map item.Turns turns) ++ end_line ∷ []) ≡ true
turns_lack h [] all = refl
turns_lack h (t ∷ turns) all = both_true _ _
    (item_line_whole h.subject (item.Turns t) (turns_are_item h t all.0)) (turns_lack h turns all.1)

items_lack : (h : Header) → is_built_in h.subject ≡ true → (ops : List WorkOp) (turns : List Turn)
    → AllByRecursion (λ o. is_op_of h o ≡ true) ops
    → AllByRecursion (λ o. are_small o.op.args ≡ true) ops
    → AllByRecursion (λ t. is_turn_of h t ≡ true) turns
    → all_lack 10 (map item_line (map item.Op ops ++ map item.Turns turns) ++ end_line ∷ []) ≡ true
items_lack h built [] turns all small rest = turns_lack h turns rest
items_lack h built (o ∷ ops) turns all small rest =
    both_true _ _ (item_line_whole h.subject (item.Op o) (op_is_item h o built all.0 small.0))
    (items_lack h built ops turns all.1 small.1 rest)

all_lack_feeds : (w : Workload) → KeepsLimits w → all_lack 10 (lines_of w) ≡ true
all_lack_feeds w keeps =
    both_true _ _ (first_line_whole _ _ _ _ (let l = size_in_32_bits w.header in omega (arith, l))
    (let l = callers_in_32_bits w.header in omega (arith, l)))
    (items_lack w.header (work_built_in w keeps) _ _ keeps.ops keeps.args keeps.turns)

-- all lines are read as the workload
all_read : (w : Workload) → KeepsLimits w → text_read (all_lines w) ≡ Ok w
all_read w keeps = by_rest (map _ _ ++ end_line ∷ [] ∷ []) (some_lines _ _ _) (items_read w 2 keeps)
  where
    first : List ℕ
    first = work_header_line w.header.subject w.header.size w.header.callers w.variant

    by_rest : (rest : List (List ℕ)) → has_any rest ≡ true
        → lines_read (begun w.variant w.header) 2 rest ≡ Ok w → text_read (first ∷ rest) ≡ Ok w
    by_rest rest some on = search (refused, begun_in-first_line, arith)

-- the text of a workload is read as that workload
pub work_reading-work_text : (w : Workload) → KeepsLimits w → work_reading (work_text w) ≡ Ok w
unfolding work_reading work_text
work_reading-work_text w keeps = search (cut_lines, all_lack_feeds, all_lines_are, all_read, arith)
