-- No line of a workload has more than 64 bytes.
use Rattle.vyrd_work.proofs.Prelude
use Prelude.{◌≡◌, ◌≤◌, ◌^◌, true, List, [], ◌∷◌, ◌++◌, map, length, arith, length-append, codes}
use Prelude.{decimal, nat_lt, nat_le, AllByRecursion, Header, Subject, end_line, is_built_in}
use Prelude.{size_in_32_bits, callers_in_32_bits, both_true, first_true, second_true, below_of}
use Prelude.{Turn, Variant, call_text, WorkOp, Workload, variant_name, work_header_line, item_line}
use Prelude.{lines_of, are_small, is_item_of, is_op_of, is_turn_of, KeepsLimits}
use Rattle.vyrd_base.proofs.LongLines.{short_entry, short_number}
use Rattle.vyrd_base.proofs.StructureLaws.{short_subject}
use Rattle.vyrd_work.specs.declared.line.Item.TheVariants as item
use Rattle.vyrd_work.proofs.ItemLaws.{call_of, op_caller, op_call, turn_count_fits}
use Rattle.vyrd_work.proofs.BuiltIn.{work_built_in}
use Rattle.vyrd_work.proofs.LimitLaws.{op_is_item, turns_are_item}

-- an operation's line is shorter than that of the call in a log
pub short_op : (subject : Subject) (o : WorkOp) → is_item_of subject (item.Op o) ≡ true
    → length (item_line (item.Op o)) ≤ 64
short_op subject o is =
    let entry = short_entry subject (call_of o)
    (both_true _ _ (op_caller subject o is) (op_call subject o is)) in
    omega (
      arith,
      entry,
      length-append (decimal o.caller) (32 ∷ call_text o.op.method o.op.args),
      length-append (decimal o.caller)
          (32 ∷ (codes "call " ++ call_text o.op.method o.op.args)),
    )

pub short_turns : (subject : Subject) (t : Turn) → is_item_of subject (item.Turns t) ≡ true
    → length (item_line (item.Turns t)) ≤ 64
short_turns subject t is =
    let caller = short_number t.caller (below_of _ _ (first_true _ _ is)) in
    let count = short_number t.count
    (turn_count_fits t.count
    (second_true (nat_le 1 t.count) _ (second_true (nat_lt t.caller (2 ^ 32)) _ is))) in
    omega (arith, caller, count, length-append (decimal t.caller) (32 ∷ decimal t.count))

short_variant : (variant : Variant) → length (variant_name variant) ≤ 7
short_variant variant = search arith

pub short_first : (h : Header) (variant : Variant)
    → length (work_header_line h.subject h.size h.callers variant) ≤ 64
short_first h variant =
    search (
      short_number,
      size_in_32_bits,
      callers_in_32_bits,
      short_subject,
      short_variant,
      length-append,
      arith,
    )

short_later : (h : Header) → is_built_in h.subject ≡ true → (ops : List WorkOp) (turns : List Turn)
    → AllByRecursion (λ o. is_op_of h o ≡ true) ops
    → AllByRecursion (λ o. are_small o.op.args ≡ true) ops
    → AllByRecursion (λ t. is_turn_of h t ≡ true) turns
    → AllByRecursion (λ line. length line ≤ 64)
    (map item_line (map item.Op ops ++ map item.Turns turns) ++ end_line ∷ [])
short_later h built [] [] all small rest = (omega arith, tt)
short_later h built [] (t ∷ turns) all small rest = (
  short_turns h.subject t (turns_are_item h t rest.0),
  short_later h built
      [] turns all small rest.1,
)
short_later h built (o ∷ ops) turns all small rest = (
  short_op h.subject o (op_is_item h o built all.0 small.0),
  short_later h built ops turns all.1
      small.1 rest,
)

pub short_lines : (w : Workload) → KeepsLimits w → AllByRecursion (λ line. length line ≤ 64)
    (lines_of w)
short_lines w keeps = search (short_first, short_later, work_built_in, arith)
