-- What a broken rule says, and the limits of one more operation or of more turns.
use Rattle.vyrd_work.proofs.Prelude
use Prelude.{◌≡◌, ℕ, ◌+◌, ◌<◌, ◌≤◌, ◌^◌, Bool, true, false, cond, ◌&&◌, List, [], ◌∷◌, ◌++◌, map}
use Prelude.{length, Option, Some, None, refl, ap, sym, ◌∙◌, arith, append_assoc, length-append}
use Prelude.{nat_lt, nat_le, nat_tests, Header, subject_of, same_subject, are_args, is_built_in}
use Prelude.{callers_in_32_bits, both_true, first_true, second_true, Turn, WorkOp, Item, WorkRule}
use Prelude.{Workload, items_of, most_turn_lines, most_turns, are_small, most_ops, is_item_of}
use Prelude.{turns_in, broken_by, with_item, is_op_of, is_turn_of, KeepsLimits}
use Rattle.std.proofs.Common.{not, ◌||◌}
use Rattle.std.proofs.lemmas.List.Sums.{sum-map, sum_by-cons}
use Rattle.std.proofs.lemmas.List.{map-append}
use Rattle.vyrd_base.proofs.TestLaws.{above_then, above_of, not_below_of, isnt_at_most}
use Rattle.vyrd_base.proofs.TestLaws.{neither_true}
use Rattle.vyrd_base.proofs.ListLaws.{all_push}
use Rattle.vyrd_base.proofs.SubjectLaws.{named_same}
use Rattle.vyrd_work.specs.declared.line.Item.TheVariants as item
use Rattle.vyrd_work.specs.declared.fault.WorkRule.TheVariants.{CallerRange, ArgumentRange}
use Rattle.vyrd_work.specs.declared.fault.WorkRule.TheVariants.{OpAfterTurn, TooManyOps}
use Rattle.vyrd_work.specs.declared.fault.WorkRule.TheVariants.{TooManyTurns}
use Rattle.vyrd_work.proofs.ItemLaws.{op_named, op_small}

not_broken : (b : Bool) (rule : WorkRule) (rest : Option WorkRule) → cond b (Some rule) rest ≡ None
    → (b ≡ false) × (rest ≡ None)
not_broken b rule rest e = search arith

below_callers : (callers caller : ℕ) → nat_le callers caller ≡ false → nat_lt caller callers ≡ true
below_callers callers caller e = grind (arith, nat_tests)

none_of_them : (turns : List Turn) → nat_lt 0 (length turns) ≡ false → turns ≡ []
none_of_them [] e = refl
none_of_them (t ∷ turns) e = search arith

-- an operation that breaks no rule
module _ (w : Workload) (o : WorkOp) (is : broken_by w (item.Op o) ≡ None) where
  first : (nat_le w.header.callers o.caller ≡ false)
      × (cond (not (are_args w.header.size o.op.method o.op.args)) (Some ArgumentRange)
      (cond (nat_lt 0 (length w.turns)) (Some OpAfterTurn)
      (cond (nat_le most_ops (length w.ops)) (Some TooManyOps) None)) ≡ None)
  first = not_broken _ CallerRange _ is

  second : (not (are_args w.header.size o.op.method o.op.args) ≡ false)
      × (cond (nat_lt 0 (length w.turns)) (Some OpAfterTurn)
      (cond (nat_le most_ops (length w.ops)) (Some TooManyOps) None) ≡ None)
  second = not_broken _ ArgumentRange _ first.1

  third : (nat_lt 0 (length w.turns) ≡ false)
      × (cond (nat_le most_ops (length w.ops)) (Some TooManyOps) None ≡ None)
  third = not_broken _ OpAfterTurn _ second.1

  pub op_fits : same_subject (subject_of o.op.method) w.header.subject ≡ true → is_op_of w.header o
      ≡ true
  op_fits same = search (both_true, below_callers, arith)

  pub before_turns : w.turns ≡ []
  before_turns = none_of_them w.turns third.0

  pub not_many_ops : length w.ops < most_ops
  not_many_ops = above_of most_ops (length w.ops) (not_broken _ TooManyOps _ third.1).0

-- turns that break no rule
module _ (w : Workload) (t : Turn) (is : broken_by w (item.Turns t) ≡ None) where
  turn_first : (nat_le w.header.callers t.caller ≡ false)
      × (cond (nat_le most_turn_lines (length w.turns) || nat_lt most_turns
      (turns_in w.turns + t.count)) (Some TooManyTurns) None ≡ None)
  turn_first = not_broken _ CallerRange _ is

  turn_second : (nat_le most_turn_lines (length w.turns) ≡ false)
      × (nat_lt most_turns (turns_in w.turns + t.count) ≡ false)
  turn_second = neither_true _ _ (not_broken _ TooManyTurns _ turn_first.1).0

  pub turn_fits : (nat_le 1 t.count && nat_le t.count most_turns) ≡ true → is_turn_of w.header t
      ≡ true
  turn_fits counted = both_true _ _ (below_callers w.header.callers t.caller turn_first.0) counted

  pub not_many_turns : length w.turns < most_turn_lines
  not_many_turns = above_of most_turn_lines (length w.turns) turn_second.0

  pub sum_fits : turns_in w.turns + t.count ≤ most_turns
  sum_fits = not_below_of most_turns (turns_in w.turns + t.count) turn_second.1

-- the first turns of a list, and the others
pub turns_cons : (t : Turn) (turns : List Turn) → turns_in (t ∷ turns) ≡ t.count + turns_in turns
turns_cons t turns = sum-map (λ u. u.count) (t ∷ turns) ∙ sum_by-cons (λ u. u.count) t turns
    ∙ ap (λ n. t.count + n) (sym (sum-map (λ u. u.count) turns))

pub turns_more : (turns : List Turn) (t : Turn) → turns_in (turns ++ t ∷ []) ≡ turns_in turns
    + t.count
turns_more [] t = omega (arith, turns_cons t [])
turns_more (u ∷ turns) t =
    grind (arith, turns_more turns t, turns_cons u (turns ++ t ∷ []), turns_cons u turns)

-- one more that breaks no rule keeps the limits
pub limits_more : (w : Workload) (x : Item) → KeepsLimits w → is_item_of w.header.subject x ≡ true
    → broken_by w x ≡ None
    → KeepsLimits (with_item w x)
limits_more w (item.Op o) keeps is none = record {
  version = keeps.version;
  ops = all_push (λ p. is_op_of w.header p ≡ true) w.ops o keeps.ops (op_fits w o none
      (named_same o.op.method w.header.subject (op_named w.header.subject o is)));
  args = all_push (λ p. are_small p.op.args ≡ true) w.ops o keeps.args
      (op_small w.header.subject o is);
  turns = keeps.turns;
  op_count = let few = not_many_ops w o none in omega (arith, few, length-append w.ops (o ∷ []));
  turn_count = keeps.turn_count;
  turn_sum = keeps.turn_sum;
}
limits_more w (item.Turns t) keeps is none = record {
  version = keeps.version;
  ops = keeps.ops;
  args = keeps.args;
  turns = all_push (λ u. is_turn_of w.header u ≡ true) w.turns t keeps.turns
      (turn_fits w t none (second_true (nat_lt t.caller (2 ^ 32)) _ is));
  op_count = keeps.op_count;
  turn_count = let few = not_many_turns w t none in
      omega (arith, few, length-append w.turns (t ∷ []));
  turn_sum = let fits = sum_fits w t none in let more = turns_more w.turns t in
      omega (arith, fits, more);
}

ops_items : (ops : List WorkOp) (o : WorkOp) (turns : List Turn) → turns ≡ []
    → map item.Op (ops ++ o ∷ []) ++ map item.Turns turns
    ≡ (map item.Op ops ++ map item.Turns turns) ++ item.Op o ∷ []
ops_items [] o [] e = refl
ops_items (p ∷ ops) o [] e = ap (λ rest. item.Op p ∷ rest) (ops_items ops o [] e)
ops_items [] o (t ∷ turns) e = cc
ops_items (p ∷ ops) o (t ∷ turns) e = cc

-- and comes after the others
pub items_more : (w : Workload) (x : Item) → broken_by w x ≡ None → items_of (with_item w x)
    ≡ items_of w ++ x ∷ []
items_more w (item.Op o) none = ops_items w.ops o w.turns (before_turns w o none)
items_more w (item.Turns t) none = search (map-append, append_assoc, arith)

-- an operation that fits breaks no rule if there is room for it
pub op_unbroken : (w : Workload) (o : WorkOp) → is_op_of w.header o ≡ true → w.turns ≡ []
    → length w.ops < most_ops → broken_by w (item.Op o) ≡ None
op_unbroken w o fits before room = grind (arith, above_then, first_true, second_true, isnt_at_most)

-- and so do turns
pub turns_unbroken : (w : Workload) (t : Turn) → is_turn_of w.header t ≡ true
    → length w.turns < most_turn_lines → turns_in w.turns + t.count ≤ most_turns
    → broken_by w (item.Turns t) ≡ None
turns_unbroken w t fits room sum = grind arith

small_caller : (callers caller : ℕ) → callers < 2 ^ 32 → nat_lt caller callers ≡ true
    → nat_lt caller (2 ^ 32) ≡ true
small_caller callers caller h e = grind (arith, nat_tests)

-- what fits the header can stand in the text
pub op_is_item : (h : Header) (o : WorkOp) → is_built_in h.subject ≡ true → is_op_of h o ≡ true
    → are_small o.op.args ≡ true → is_item_of h.subject (item.Op o) ≡ true
op_is_item h o built fits small =
    search (second_true, first_true, both_true, small_caller, callers_in_32_bits, arith)

pub turns_are_item : (h : Header) (t : Turn) → is_turn_of h t ≡ true
    → is_item_of h.subject (item.Turns t) ≡ true
turns_are_item h t fits =
    grind (arith, fits, both_true, small_caller, callers_in_32_bits, first_true, second_true)
