-- Generated workloads, one operation at a time, and that they keep the limits.
use Rattle.vyrd_work.proofs.Prelude.{◌≡◌, ℕ, suc, zero, ◌+◌, ◌-◌, ◌<◌, ◌≤◌, ◌^◌, Bool, true, cond}
use Rattle.vyrd_work.proofs.Prelude.{◌&&◌, List, ◌∷◌, length, refl, ap, sym, ◌∙◌, arith, nat_lt}
use Rattle.vyrd_work.proofs.Prelude.{AllByRecursion, Insert, subject_of, same_subject, are_args}
use Rattle.vyrd_work.proofs.Prelude.{both_true, is_below, Op, WorkOp, are_small, most_ops, is_op_of}
use Rattle.vyrd_work.proofs.Prelude.{KeepsLimits, ops_from, generated}
use Rattle.vyrd_base.specs.declared.subject.Subject.TheVariants.{Multiset}
use Rattle.vyrd_base.specs.declared.subject.Method.TheVariants.{Multiset as OfMultiset}
use Rattle.vyrd_base.specs.declared.multiset.MultisetMethod.TheVariants.{InsertPair, Delete, Lookup}
use Rattle.vyrd_work.specs.Generated.{next_draw, work_op_from, generated_header}

-- one more operation is drawn
pub ops_step : (n i x y : ℕ) (o : WorkOp) → i < n → y ≡ next_draw x → o ≡ work_op_from i y
    → ◌≡◌ {A = List WorkOp} (o ∷ ops_from (n - (i + 1)) (i + 1) y) (ops_from (n - i) i x)
ops_step n i x y o h e f =
    let left : n - i ≡ suc (n - (i + 1)) = omega arith in
    let op : o ≡ work_op_from i (next_draw x) = f ∙ ap (work_op_from i) e in
    (λ k. op k ∷ ops_from (n - (i + 1)) (i + 1) (e k)) ∙ sym (ap (λ m. ops_from m i x) left)

-- the operation by the tests of its kind
abbrev op_by : Bool → Bool → Bool → ℕ → ℕ → Op
op_by a b c v w =
    cond a (record { method = OfMultiset Insert; args = record { a = v; b = 0; c = 0 } })
    (cond b (record { method = OfMultiset InsertPair; args = record { a = v; b = w; c = 0 } })
    (cond c (record { method = OfMultiset Delete; args = record { a = v; b = 0; c = 0 } })
    (record { method = OfMultiset Lookup; args = record { a = v; b = 0; c = 0 } })))

by_fits : (a b c : Bool) (v w : ℕ)
    → (same_subject (subject_of (op_by a b c v w).method) Multiset
    && are_args 64 (op_by a b c v w).method (op_by a b c v w).args) ≡ true
by_fits a b c v w = grind arith

by_small : (a b c : Bool) (v w : ℕ) → nat_lt v (2 ^ 32) ≡ true → nat_lt w (2 ^ 32) ≡ true
    → are_small (op_by a b c v w).args ≡ true
by_small a b c v w e f = grind (arith, both_true)

op_fits : (i x : ℕ) → is_op_of generated_header (work_op_from i x) ≡ true
op_fits i x = grind (arith, both_true, is_below, by_fits)

op_small : (i x : ℕ) → x < 2147483648 → are_small (work_op_from i x).op.args ≡ true
op_small i x h = grind (arith, by_small, is_below)

next_small : (x : ℕ) → next_draw x < 2147483648
next_small x = omega arith

all_fit : (left i x : ℕ) → AllByRecursion (λ o. is_op_of generated_header o ≡ true)
    (ops_from left i x)
all_fit zero i x = tt
all_fit (suc left) i x = (op_fits i (next_draw x), all_fit left (i + 1) (next_draw x))

all_small : (left i x : ℕ) → AllByRecursion (λ o. are_small o.op.args ≡ true) (ops_from left i x)
all_small zero i x = tt
all_small (suc left) i x =
    (op_small i (next_draw x) (next_small x), all_small left (i + 1) (next_draw x))

count : (left i x : ℕ) → length (ops_from left i x) ≡ left
count zero i x = refl
count (suc left) i x = ap suc (count left (i + 1) (next_draw x))

-- a generated workload keeps the limits
pub generated_keeps : (n : ℕ) → n ≤ most_ops → KeepsLimits (generated n)
unfolding generated
generated_keeps n h = search (all_fit, all_small, count, arith)
