-- Proofs of laws that an impl in src/ names: no contract says what is defined here.
-- Each procedure ends in time.
use Rattle.std.proofs.Common.{◌≡◌, ℕ, zero, suc, ◌+◌, ◌-◌, true, false, cond, Option, Some, None}
use Rattle.std.proofs.Common.{refl, sym, subst, arith}
use Rattle.std.specs.Prelude.{◌==◌, is_some}
use Rattle.vyrd_base.specs.declared.header.Header.{Header}
use Rattle.vyrd_base.specs.declared.subject.Subject.TheVariants.{Multiset}
use Rattle.vyrd_base.specs.declared.subject.Method.{Method}
use Rattle.vyrd_base.specs.declared.subject.Method.TheVariants.{Multiset as OfMultiset}
use Rattle.vyrd_base.specs.declared.subject.Method.TheVariants.{Cache as OfCache, Tree as OfTree}
use Rattle.vyrd_base.specs.declared.subject.Method.TheVariants.{Buffers as OfBuffers}
use Rattle.vyrd_base.specs.declared.subject.Method.TheVariants.{OwnNever, OwnAtMostOnce, OwnOnce}
use Rattle.vyrd_base.specs.declared.multiset.MultisetMethod.TheVariants.{Insert, InsertPair, Delete}
use Rattle.vyrd_base.specs.declared.multiset.MultisetMethod.TheVariants.{Lookup}
use Rattle.vyrd_base.specs.declared.subject.Args.{Args}
use Rattle.vyrd_base.specs.declared.log.Kind.TheVariants.{Commit, BlockOpen, BlockCommit}
use Rattle.vyrd_base.specs.Subjects.{subject_of}
use Rattle.vyrd_memory.specs.declared.act.Act.TheVariants.{Store, Take, Give, Mark}
use Rattle.vyrd_memory.specs.declared.op.Variant.{Variant}
use Rattle.vyrd_memory.specs.declared.op.Variant.TheVariants.{Correct, Broken}
use Rattle.vyrd_memory.specs.Scripts.{Script, perform, returns, gives_up}
use Rattle.vyrd_memory.specs.Bounds.{bound_in, bound_of, EndsByReturn}
use Rattle.vyrd_memory.proofs.TimedActs.{in_more, loads_in, acts_in, returns_in, gives_up_in}
use Rattle.vyrd_multiset.specs.Cells.{bucket_of, first_slot, state_cell, value_cell, lock_of, lock}
use Rattle.vyrd_multiset.specs.Cells.{lock_other}
use Rattle.vyrd_multiset.specs.Cells.{unlock}
use Rattle.vyrd_multiset.specs.Procedures.{reserve, find_from, find, commit_state, inserted, insert}
use Rattle.vyrd_multiset.specs.Procedures.{first_bucket, second_bucket, unlock_both}
use Rattle.vyrd_multiset.specs.Procedures.{validate_both, commit_both, undo, second_found}
use Rattle.vyrd_multiset.specs.Procedures.{first_found, insert_pair, compare, search_from}
use Rattle.vyrd_multiset.specs.Procedures.{search_in, deleted, delete, looked_up, lookup}
use Rattle.vyrd_multiset.specs.Procedures.{procedure_of}

-- finding a slot takes a load for each slot and two stores
find_from_ends : (n left slot value : ℕ) (found : Option ℕ → Script)
    → ((slot : Option ℕ) → EndsByReturn n (found slot))
    → EndsByReturn (n + 2 + left) (find_from left slot value found)
find_from_ends n zero slot value found ends =
    in_more n (n + 2 + 0) (found None) (omega arith) (ends None)
find_from_ends n (suc left) slot value found ends =
    in_more (n + 2 + left + 1) (n + 2 + suc left) (find_from (suc left) slot value found)
    (omega arith)
    (loads_in (n + 2 + left) (state_cell slot)
    (λ state. cond (state == 0) (reserve slot value (found (Some slot)))
    (find_from left (slot + 1) value found))
    (λ state. elim (state == 0) as (λ b. EndsByReturn (n + 2 + left)
    (cond b (reserve slot value (found (Some slot))) (find_from left (slot + 1) value found))) [
      | true ↦
          in_more (n + 1 + 1) (n + 2 + left) (reserve slot value (found (Some slot))) (omega arith)
          (acts_in (n + 1) (Store (value_cell slot) value)
          (perform (Store (state_cell slot) 1) (found (Some slot))) refl
          (acts_in n (Store (state_cell slot) 1) (found (Some slot)) refl (ends (Some slot))))
      | false ↦ find_from_ends n left (slot + 1) value found ends
    ]))

-- a search takes two loads for each slot
search_from_ends : (n left slot value : ℕ) (ended : Option ℕ → Script)
    → ((slot : Option ℕ) → EndsByReturn n (ended slot))
    → EndsByReturn (n + (left + left)) (search_from left slot value ended)
search_from_ends n zero slot value ended ends =
    in_more n (n + (0 + 0)) (ended None) (omega arith) (ends None)
search_from_ends n (suc left) slot value ended ends =
    let on : EndsByReturn (n + (left + left)) (search_from left (slot + 1) value ended) =
    search_from_ends n left (slot + 1) value ended ends in
    in_more (n + (left + left) + 1 + 1) (n + (suc left + suc left))
    (search_from (suc left) slot value ended) (omega arith)
    (loads_in (n + (left + left) + 1) (state_cell slot)
    (λ state. cond (state == 2)
    (compare slot value (ended (Some slot)) (search_from left (slot + 1) value ended))
    (search_from left (slot + 1) value ended))
    (λ state. elim (state == 2) as (λ b. EndsByReturn (n + (left + left) + 1)
    (cond b (compare slot value (ended (Some slot)) (search_from left (slot + 1) value ended))
    (search_from left (slot + 1) value ended))) [
      | true ↦ loads_in (n + (left + left)) (value_cell slot)
          (λ loaded. cond (loaded == value) (ended (Some slot))
          (search_from left (slot + 1) value ended))
          (λ loaded. elim (loaded == value) as
          (λ b. EndsByReturn (n + (left + left))
          (cond b (ended (Some slot)) (search_from left (slot + 1) value ended))) [
            | true ↦
                in_more n (n + (left + left)) (ended (Some slot)) (omega arith) (ends (Some slot))
            | false ↦ on
          ])
      | false ↦ in_more (n + (left + left)) (n + (left + left) + 1)
          (search_from left (slot + 1) value ended) (omega arith) on
    ]))

find_ends : (n : ℕ) (h : Header) (variant : Variant) (value : ℕ) (found : Option ℕ → Script)
    → ((slot : Option ℕ) → EndsByReturn n (found slot)) → EndsByReturn
    (n + 8) (find h variant value found)
find_ends n h Correct value found ends =
    let b : ℕ = bucket_of h value in
    let script : Script = find_from 4 (first_slot b) value (λ slot. unlock h b (found slot)) in
    in_more (n + 1 + 2 + 4 + 1) (n + 8) (lock h b script) (omega arith)
    (acts_in (n + 1 + 2 + 4) (Take (lock_of h b)) script refl
    (find_from_ends (n + 1) 4 (first_slot b) value (λ slot. unlock h b (found slot))
    (λ slot. acts_in n (Give (lock_of h b)) (found slot) refl (ends slot))))
find_ends n h Broken value found ends =
    in_more (n + 2 + 4) (n + 8) (find_from 4 (first_slot (bucket_of h value)) value found)
    (omega arith)
    (find_from_ends n 4 (first_slot (bucket_of h value)) value found ends)

search_in_ends : (n : ℕ) (h : Header) (x : ℕ) (ended : Option ℕ → Script)
    → ((slot : Option ℕ) → EndsByReturn n (ended slot))
    → EndsByReturn (n + 9) (search_in h x ended)
search_in_ends n h x ended ends =
    let b : ℕ = bucket_of h x in
    in_more (n + (4 + 4) + 1) (n + 9) (search_in h x ended) (omega arith)
    (acts_in (n + (4 + 4)) (Take (lock_of h b)) (search_from 4 (first_slot b) x ended) refl
    (search_from_ends n 4 (first_slot b) x ended ends))

commit_state_ends : (h : Header) (bucket slot state : ℕ)
    → EndsByReturn 5 (commit_state h bucket slot state)
commit_state_ends h bucket slot state =
    acts_in 4 (Mark BlockOpen)
    (perform (Store (state_cell slot) state)
    (perform (Mark BlockCommit) (unlock h bucket (returns 1)))) refl
    (acts_in 3 (Store (state_cell slot) state)
    (perform (Mark BlockCommit) (unlock h bucket (returns 1))) refl
    (acts_in 2 (Mark BlockCommit) (unlock h bucket (returns 1)) refl
    (acts_in 1 (Give (lock_of h bucket)) (returns 1) refl (returns_in 1))))

inserted_ends : (h : Header) (x : ℕ) (slot : Option ℕ) → EndsByReturn 6 (inserted h x slot)
inserted_ends h x None = in_more 2 6 gives_up (omega arith) gives_up_in
inserted_ends h x (Some slot) =
    acts_in 5 (Take (lock_of h (bucket_of h x))) (commit_state h (bucket_of h x) slot 2) refl
    (commit_state_ends h (bucket_of h x) slot 2)

unlock_both_ends : (h : Header) (first second : ℕ) → EndsByReturn 3 (unlock_both h first second)
unlock_both_ends h first second =
    elim (first == second) as (λ b. EndsByReturn 3
    (cond b (unlock h first (returns 1)) (unlock h second (unlock h first (returns 1))))) [
      | true ↦ in_more 2 3 (unlock h first (returns 1)) (omega arith) one
      | false ↦ acts_in 2 (Give (lock_of h second)) (unlock h first (returns 1)) refl one
    ]
  where
    one : EndsByReturn 2 (unlock h first (returns 1))
    one = acts_in 1 (Give (lock_of h first)) (returns 1) refl (returns_in 1)

validate_both_ends : (h : Header) (first second slot_x slot_y : ℕ)
    → EndsByReturn 7 (validate_both h first second slot_x slot_y)
validate_both_ends h first second slot_x slot_y =
    acts_in 6 (Mark BlockOpen)
    (perform (Store (state_cell slot_x) 2) (perform (Store (state_cell slot_y) 2)
    (perform (Mark BlockCommit) (unlock_both h first second)))) refl
    (acts_in 5 (Store (state_cell slot_x) 2)
    (perform (Store (state_cell slot_y) 2)
    (perform (Mark BlockCommit) (unlock_both h first second))) refl
    (acts_in 4 (Store (state_cell slot_y) 2)
    (perform (Mark BlockCommit) (unlock_both h first second)) refl
    (acts_in 3 (Mark BlockCommit) (unlock_both h first second) refl
    (unlock_both_ends h first second))))

commit_both_ends : (h : Header) (first second slot_x slot_y : ℕ)
    → EndsByReturn 9 (commit_both h first second slot_x slot_y)
commit_both_ends h first second slot_x slot_y =
    acts_in 8 (Take (lock_of h first))
    (lock_other h first second (validate_both h first second slot_x slot_y)) refl other
  where
    inner : EndsByReturn 7 (validate_both h first second slot_x slot_y)
    inner = validate_both_ends h first second slot_x slot_y

    other : EndsByReturn 8 (lock_other h first second (validate_both h first second slot_x slot_y))
    other = elim (first == second) as (λ b. EndsByReturn 8 (cond b (validate_both h first second
        slot_x slot_y) (lock h second (validate_both h first second slot_x slot_y)))) [
          | true ↦ in_more 7 8 (validate_both h first second slot_x slot_y) (omega arith) inner
          | false ↦ acts_in 7 (Take (lock_of h second)) (validate_both h first second slot_x slot_y)
              refl inner
        ]

undo_ends : (h : Header) (x slot : ℕ) → EndsByReturn 5 (undo h x slot)
undo_ends h x slot =
    acts_in 4 (Take (lock_of h (bucket_of h x)))
    (perform (Store (state_cell slot) 0) (unlock h (bucket_of h x) gives_up)) refl
    (acts_in 3 (Store (state_cell slot) 0) (unlock h (bucket_of h x) gives_up) refl
    (acts_in 2 (Give (lock_of h (bucket_of h x))) gives_up refl gives_up_in))

second_found_ends : (h : Header) (variant : Variant) (x y slot_x : ℕ) (slot : Option ℕ)
    → EndsByReturn 9 (second_found h variant x y slot_x slot)
second_found_ends h variant x y slot_x None =
    in_more 5 9 (undo h x slot_x) (omega arith) (undo_ends h x slot_x)
second_found_ends h variant x y slot_x (Some slot_y) =
    commit_both_ends h (first_bucket variant (bucket_of h x) (bucket_of h y))
    (second_bucket variant (bucket_of h x) (bucket_of h y)) slot_x slot_y

first_found_ends : (h : Header) (variant : Variant) (x y : ℕ) (slot : Option ℕ)
    → EndsByReturn 17 (first_found h variant x y slot)
first_found_ends h variant x y None = in_more 2 17 gives_up (omega arith) gives_up_in
first_found_ends h variant x y (Some slot_x) = find_ends 9 h variant y
    (second_found h variant x y slot_x) (second_found_ends h variant x y slot_x)

deleted_ends : (h : Header) (x : ℕ) (slot : Option ℕ) → EndsByReturn 5 (deleted h x slot)
deleted_ends h x None = in_more 3 5 (deleted h x None) (omega arith)
    (acts_in 2 (Mark Commit) (unlock h (bucket_of h x) (returns 0)) refl
    (acts_in 1 (Give (lock_of h (bucket_of h x))) (returns 0) refl (returns_in 0)))
deleted_ends h x (Some slot) = commit_state_ends h (bucket_of h x) slot 0

looked_up_ends : (h : Header) (x : ℕ) (slot : Option ℕ) → EndsByReturn 2 (looked_up h x slot)
looked_up_ends h x slot =
    let reply : ℕ = cond (is_some slot) 1 0 in
    acts_in 1 (Give (lock_of h (bucket_of h x))) (returns reply) refl (returns_in reply)

by_method_ends : (h : Header) (variant : Variant) (method : Method) (args : Args)
    → subject_of method ≡ Multiset → EndsByReturn 31 (procedure_of h variant method args)
by_method_ends h variant (OfMultiset Insert) args of =
    in_more (6 + 8) 31 (insert h variant args.a) (omega arith)
    (find_ends 6 h variant args.a (inserted h args.a) (inserted_ends h args.a))
by_method_ends h variant (OfMultiset InsertPair) args of =
    in_more (17 + 8) 31 (insert_pair h variant args.a args.b) (omega arith)
    (find_ends 17 h variant args.a (first_found h variant args.a args.b)
    (first_found_ends h variant args.a args.b))
by_method_ends h variant (OfMultiset Delete) args of =
    in_more (5 + 9) 31 (delete h args.a) (omega arith)
    (search_in_ends 5 h args.a (deleted h args.a) (deleted_ends h args.a))
by_method_ends h variant (OfMultiset Lookup) args of =
    in_more (2 + 9) 31 (lookup h args.a) (omega arith)
    (search_in_ends 2 h args.a (looked_up h args.a) (looked_up_ends h args.a))
by_method_ends h variant (OfCache other) args of = cc
by_method_ends h variant (OfTree other) args of = cc
by_method_ends h variant (OfBuffers other) args of = cc
by_method_ends h variant (OwnNever i) args of = cc
by_method_ends h variant (OwnAtMostOnce i) args of = cc
by_method_ends h variant (OwnOnce i) args of = cc

pub procedure_ends : (h : Header) (variant : Variant) (method : Method) (args : Args)
    → h.subject ≡ Multiset → subject_of method ≡ Multiset
    → EndsByReturn (bound_of h method - 1) (procedure_of h variant method args)
procedure_ends h variant method args is of =
    subst (λ s. EndsByReturn (bound_in s h.size method - 1) (procedure_of h variant method args))
    (sym is) (by_method_ends h variant method args of)
