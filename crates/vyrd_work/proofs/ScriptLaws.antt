-- The operations of a caller: one more of the list, and that they may be called.
use Rattle.vyrd_work.proofs.Prelude
use Prelude.{◌≡◌, ℕ, suc, ◌+◌, ◌<◌, ◌≤◌, Bool, true, cond, List, [], ◌∷◌, ◌++◌, length, take}
use Prelude.{Option, Some, None, refl, arith, ◌==◌, ◌≢◌, get_or, AllByRecursion, cons_option}
use Prelude.{Header, filter_map_more, both_true, second_true, Op, are_small, is_callable}
use Prelude.{are_callable, most_ops, WorkOp, Workload, KeepsLimits, is_op_of, op_by, ops_of}

pub ops_more : (c : ℕ) (ops : List WorkOp) (i : ℕ) (d : WorkOp) → i < length ops
    → ops_of c (take (i + 1) ops) ≡ ops_of c (take i ops) ++ cons_option (op_by c (get_or ops i d))
    []
ops_more c ops i d low = filter_map_more (op_by c) ops i d low

few : (c : ℕ) (ops : List WorkOp) → length (ops_of c ops) ≤ length ops
few c [] = omega arith
few c (o ∷ ops) = by_owner (op_by c o) (few c ops)
  where
    by_owner : (x : Option Op) → length (ops_of c ops) ≤ length ops
        → length (cons_option x (ops_of c ops)) ≤ suc (length ops)
    by_owner x rest = search arith

callable : (h : Header) (o : WorkOp) → is_op_of h o ≡ true → are_small o.op.args ≡ true
    → is_callable h o.op ≡ true
callable h o fits small = grind (arith, fits, small, both_true, second_true)

all_callable : (h : Header) (c : ℕ) (ops : List WorkOp)
    → AllByRecursion (λ o. is_op_of h o ≡ true) ops
    → AllByRecursion (λ o. are_small o.op.args ≡ true) ops → are_callable h (ops_of c ops) ≡ true
all_callable h c [] fit small = refl
all_callable h c (o ∷ ops) fit small = by_owner (o.caller == c) (all_callable h c ops fit.1 small.1)
  where
    by_owner : (b : Bool) → are_callable h (ops_of c ops) ≡ true
        → are_callable h (cons_option (cond b (Some o.op) None) (ops_of c ops)) ≡ true
    by_owner b rest = search (both_true, callable, arith)

-- a caller's operations are no more than all, and may be called
pub ops_are_few : (w : Workload) (c : ℕ) → KeepsLimits w → length (ops_of c w.ops) ≤ most_ops
ops_are_few w c limits = omega (arith, few c w.ops, limits.op_count)

pub ops_are_callable : (w : Workload) (c : ℕ) → KeepsLimits w
    → are_callable w.header (ops_of c w.ops) ≡ true
ops_are_callable w c limits = all_callable w.header c w.ops limits.ops limits.args

-- an operation of the caller, and one of another
pub own_op : (c : ℕ) (o : WorkOp) → o.caller ≡ c → op_by c o ≡ Some o.op
own_op c o same = grind arith

pub other_op : (c : ℕ) (o : WorkOp) → o.caller ≢ c → op_by c o ≡ None
other_op c o apart = grind arith
