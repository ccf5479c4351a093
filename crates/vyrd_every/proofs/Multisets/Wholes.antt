-- Each procedure of the correct multiset does right.
use Rattle.vyrd_every.proofs.Prelude
use Prelude.{◌≡◌, ℕ, ◌+◌, ◌-◌, ◌*◌, ◌/◌, ◌<◌, ◌≤◌, ◌⊎◌, Bool, true, false, cond, not, List, [], ◌∷◌}
use Prelude.{Option, Some, None, min, max, refl, ap, ◌∙◌, sym, subst, arith, ◌==◌, ◌||◌, nat_tests}
use Prelude.{Header, Multiset, Method, OwnNever, OwnAtMostOnce, OwnOnce, InsertPair, Args, Called}
use Prelude.{is_observer, subject_of, amount_of, with_amount, plus_amount, at_most_of, above_of}
use Prelude.{same_of, isnt_same, apart_of, Op, Correct, is_callable, callable_method, Memory}
use Prelude.{with_cell, changed_cell, other_cell, Script, returns, just_called, gone, find}
use Prelude.{validate_both, multiset_procedure, made_valid, Locals, Access, WillReturn, DoesRight}
use Prelude.{IsRight, multiset, at, holds_first, without_slots, returns_right, mutates}
use Prelude.{answer_right, lone_commit_right}
use Rattle.vyrd_base.specs.declared.subject.Method.TheVariants.{Multiset as OfMultiset}
use Rattle.vyrd_base.specs.declared.subject.Method.TheVariants.{Cache as OfCache, Tree as OfTree}
use Rattle.vyrd_base.specs.declared.subject.Method.TheVariants.{Buffers as OfBuffers}
use Rattle.vyrd_base.specs.declared.multiset.MultisetMethod.TheVariants.{Insert, Delete, Lookup}
use Rattle.vyrd_multiset.specs.Cells.{bucket_of, lock_of, lock, unlock, lock_other}
use Rattle.vyrd_multiset.specs.Procedures.{search_in, commit_both, inserted, second_found}
use Rattle.vyrd_multiset.specs.Procedures.{first_found, deleted, looked_up, procedure_of}
use Rattle.vyrd_multiset.specs.Laws.Alone.Changes.{made_free, is_there, isnt_there}
use Rattle.vyrd_multiset.specs.Laws.Sound.{bucket_low}
use Rattle.vyrd_every.proofs.Multisets.Parts.{one_two, state_access, take_right, give_right}
use Rattle.vyrd_every.proofs.Multisets.Parts.{give_last, keeps_rely, with_slot, has_slot, had_slot}
use Rattle.vyrd_every.proofs.Multisets.Parts.{bucket_slots, find_right, search_from_right}
use Rattle.vyrd_every.proofs.Multisets.Endings.{gives_up_right, commit_state_right, undo_right}
use Rattle.vyrd_every.proofs.Multisets.Endings.{AreReserved, still_reserved, pair_of}
use Rattle.vyrd_every.proofs.Multisets.Endings.{validate_both_right}

-- the locks of two buckets are given back
unlock_one : (h : Header) (k : Locals) (shown : Memory) (called : Called) (bucket : ℕ)
    → ((i : ℕ) → k.owned i ≡ false) → k.called ≡ Some called
    → is_observer called.method ≡ false
    → DoesRight (multiset h) (at (lock_of h bucket ∷ []) true false called) k shown
    (unlock h bucket (returns 1))
unlock_one h k shown called bucket none is mutator =
    search (shown, give_last, returns_right, mutates, arith)

unlock_two : (h : Header) (k : Locals) (shown : Memory) (called : Called) (first second : ℕ)
    → (lock_of h first == lock_of h second) ≡ false
    → ((i : ℕ) → k.owned i ≡ false) → k.called ≡ Some called → is_observer called.method ≡ false
    → DoesRight (multiset h) (at (lock_of h second ∷ lock_of h first ∷ []) true false called) k
    shown (unlock h second (unlock h first (returns 1)))
unlock_two h k shown called first second apart none is mutator = give_right h _ k _ _ _ refl
    (λ now rely. rw (gone (lock_of h second) (lock_of h first ∷ [])
    ∙ ap (λ b. cond (not b) (lock_of h first ∷ []) []) apart)
    (unlock_one h k now called first none is mutator))

-- both slots become valid under the locks of their buckets, of which the lower one is locked first
commit_both_right : (h : Header) (k : Locals) (shown : Memory) (args : Args)
    (first second slot_x slot_y : ℕ) → AreReserved h k shown args slot_x slot_y
    → k.called ≡ Some (pair_of args) → first ≤ second
    → (slot_x / 4 ≡ first) ⊎ (slot_x / 4 ≡ second) → (slot_y / 4 ≡ first) ⊎ (slot_y / 4 ≡ second)
    → DoesRight (multiset h) (at [] false false (pair_of args)) k shown
    (commit_both h first second slot_x slot_y)
commit_both_right h k shown args first second slot_x slot_y r is order of_x of_y =
    take_right h (at [] false false (pair_of args)) k shown first
    (lock_other h first second (validate_both h first second slot_x slot_y)) (λ held e. cc)
    (λ now rely. by_test now
    (still_reserved h k k shown now args slot_x slot_y r refl
    (keeps_rely h (at (lock_of h first ∷ []) false false (pair_of args)) k shown now rely))
    (first == second) refl)
  where
    pending : List (ℕ × ℕ)
    pending = (2 * slot_y, 2) ∷ (2 * slot_x, 2) ∷ []

    held_one : (slot : ℕ) → (first == second) ≡ true → (slot / 4 ≡ first) ⊎ (slot / 4 ≡ second)
        → slot / 4 ≡ first
    held_one slot e e2 = search (same_of, arith)

    in_one : (slot : ℕ) → slot < 4 * h.size → slot / 4 ≡ first
        → Access (multiset h) (at (lock_of h first ∷ []) false true (pair_of args)) (2 * slot)
    in_one slot low of = search (state_access, lock_of, holds_first, arith)

    in_two : (slot : ℕ) → slot < 4 * h.size → (slot / 4 ≡ first) ⊎ (slot / 4 ≡ second)
        → Access (multiset h)
        (at (lock_of h second ∷ lock_of h first ∷ []) false true (pair_of args)) (2 * slot)
    in_two slot low of = search (state_access, lock_of, arith)

    returns_one : (b : Bool) → (first == second) ≡ b
        → WillReturn 1
        (cond b (unlock h first (returns 1)) (unlock h second (unlock h first (returns 1))))
    returns_one b e = search arith

    above_first : (first == second) ≡ false → (held : ℕ) → (b : Bool) → (lock_of h first == held)
        ≡ b → (b || false) ≡ true → held < lock_of h second
    above_first e held b f g = search (held, lock_of, same_of, arith)

    by_test : (now : Memory) → AreReserved h k now args slot_x slot_y → (b : Bool)
        → (first == second) ≡ b
        → DoesRight (multiset h) (at (lock_of h first ∷ []) false false (pair_of args)) k now
        (cond b (validate_both h first second slot_x slot_y)
        (lock h second (validate_both h first second slot_x slot_y)))
    by_test now at_now true e =
        validate_both_right h (lock_of h first ∷ []) k now args first second slot_x slot_y at_now is
        (in_one slot_x r.low_x (held_one slot_x e of_x))
        (in_one slot_y r.low_y (held_one slot_y e of_y))
        (returns_one (first == second) refl)
        (λ end. subst
        (λ b. DoesRight (multiset h) (at (lock_of h first ∷ []) true false (pair_of args))
        (without_slots k pending) end
        (cond b (unlock h first (returns 1)) (unlock h second (unlock h first (returns 1)))))
        (sym e)
        (unlock_one h (without_slots k pending) end (pair_of args) first (λ i. refl) is refl))
    by_test now at_now false e =
        take_right h (at (lock_of h first ∷ []) false false (pair_of args)) k now second
        (validate_both h first second slot_x slot_y)
        (λ held f. above_first e held (lock_of h first == held) refl f)
        (λ then_ rely.
        validate_both_right h (lock_of h second ∷ lock_of h first ∷ []) k then_ args first second
        slot_x slot_y
        (still_reserved h k k now then_ args slot_x slot_y at_now refl
        (keeps_rely h (at (lock_of h second ∷ lock_of h first ∷ []) false false (pair_of args)) k
        now then_ rely)) is
        (in_two slot_x r.low_x of_x) (in_two slot_y r.low_y of_y)
        (returns_one (first == second) refl)
        (λ end. subst
        (λ b. DoesRight (multiset h)
        (at (lock_of h second ∷ lock_of h first ∷ []) true false (pair_of args))
        (without_slots k pending) end
        (cond b (unlock h first (returns 1)) (unlock h second (unlock h first (returns 1)))))
        (sym e)
        (unlock_two h (without_slots k pending) end (pair_of args) first second
        (isnt_same (lock_of h first) (lock_of h second)
        (λ same. apart_of first second e (omega (arith, same)))) (λ i. refl) is refl)))

-- an insert makes the slot that it found valid
insert_right : (h : Header) → h.subject ≡ Multiset → (k : Locals) (shown : Memory) (args : Args)
    → ((i : ℕ) → k.owned i ≡ false)
    → k.called ≡ Some (record { method = OfMultiset Insert; args = args })
    → DoesRight (multiset h)
    (at [] false false (record { method = OfMultiset Insert; args = args })) k shown
    (find h Correct args.a (inserted h args.a))
insert_right h ours k shown args none is = find_right h k _ _ called (inserted h _)
    (bucket_low h ours _) (λ j low of now one has keeps apart pending. take_right h _ _ _ _ _
    (λ held e. cc) (λ then_ rely.
    let state_is : then_ (2 * j) ≡ 1 = (rely.owned j (has_slot k j pending)).0 ∙ one in
    let value_is : then_ (2 * j + 1) ≡ args.a = (rely.owned j (has_slot k j pending)).1 ∙ has in
    commit_state_right h _ _ called _ j 2 low of is refl (λ same. has_slot k j pending)
    (λ last same_state same_value before m. (
      plus_amount before args.a 1,
      refl,
      made_valid h last (with_cell last (2 * j) 2) before j args.a
          m low (λ cell not_state not_value. other_cell last (2 * j) 2 cell not_state)
          (λ two. one_two (last (2 * j)) (same_state ∙ state_is) two) (changed_cell last (2 * j) 2)
          (other_cell last (2 * j) 2 (2 * j + 1) (λ e. omega (arith, e)) ∙ same_value ∙ value_is)
          of,
    )))) (λ now keeps. gives_up_right h k _ called none is refl (λ state. refl))
  where
    called : Called
    called = record { method = OfMultiset Insert; args = args }

-- if both slots for a pair were found, they are made valid
pair_found_right : (h : Header) (k : Locals) (shown : Memory) (args : Args) (slot_x slot_y : ℕ)
    → AreReserved h k shown args slot_x slot_y
    → k.called ≡ Some (pair_of args)
    → DoesRight (multiset h) (at [] false false (pair_of args)) k shown
    (second_found h Correct args.a args.b slot_x (Some slot_y))
pair_found_right h k shown args slot_x slot_y r is = commit_both_right h k _ _ _ _ _ _ r is
    (ordered p q) (either_x (slot_x / 4) p q r.of_x) (either_y (slot_y / 4) p q r.of_y)
  where
    p : ℕ
    p = bucket_of h args.a

    q : ℕ
    q = bucket_of h args.b

    ordered : (p q : ℕ) → min p q ≤ max p q
    ordered p q = omega arith

    lesser : (n p q : ℕ) → n ≡ p → p ≤ q → n ≡ min p q
    lesser n p q e f = omega (arith, e, f)

    either_x : (n p q : ℕ) → n ≡ p → (n ≡ min p q) ⊎ (n ≡ max p q)
    either_x n p q e = search (lesser, at_most_of, above_of, arith)

    either_y : (n p q : ℕ) → n ≡ q → (n ≡ min p q) ⊎ (n ≡ max p q)
    either_y n p q e = search (at_most_of, above_of, arith)

insert_pair_right : (h : Header) → h.subject ≡ Multiset → (k : Locals) (shown : Memory)
    (args : Args) → ((i : ℕ) → k.owned i ≡ false) → k.called ≡ Some (pair_of args)
    → DoesRight (multiset h) (at [] false false (pair_of args)) k shown
    (find h Correct args.a (first_found h Correct args.a args.b))
insert_pair_right h ours k shown args none is =
    find_right h k _ _ (pair_of args) (first_found h Correct args.a args.b) (bucket_low h ours _)
    (λ x low_x of_x now one_x has_x keeps_x apart_x pending_x. find_right h (with_slot k x _) now
    args.b (pair_of args) (second_found h Correct args.a args.b x) (bucket_low h ours _)
    (λ y low_y of_y then_ one_y has_y keeps_y apart_y pending_y.
    let there = keeps_y.slots x (has_slot k x pending_x) one_x in
    pair_found_right h _ _ args x y
    (record {
      low_x = low_x;
      low_y = low_y;
      of_x = of_x;
      of_y = of_y;
      mine_x = had_slot
          (with_slot k x pending_x) y x pending_y (has_slot k x pending_x);
      mine_y = has_slot (with_slot k x pending_x) y pending_y;
      one_x = there.0;
      one_y = one_y;
      has_x = there.1 ∙ has_x;
      has_y = has_y;
      apart = apart_y x (has_slot k x pending_x) one_x;
    }) is) (λ then_ keeps.
    let there = keeps.slots x (has_slot k x pending_x) one_x in
    undo_right h _ _ (pair_of _) _ x low_x of_x (has_slot k x pending_x) there.0 is refl
    (λ state. refl))) (λ now keeps. gives_up_right h k _ (pair_of _) none is refl (λ state. refl))

-- what is there and what isn't
is_there_test : (n : ℕ) → 1 ≤ n → not (n == 0) ≡ true
is_there_test n some = grind (arith, nat_tests)

isnt_there_test : (n : ℕ) → n ≡ 0 → not (n == 0) ≡ false
isnt_there_test n none = grind (arith, nat_tests)

-- a search under the lock of the bucket
search_right : (h : Header) → h.subject ≡ Multiset → (k : Locals) (shown : Memory) (called : Called)
    (x : ℕ) (ended : Option ℕ → Script)
    → ((j : ℕ) → j < 4 * h.size → j / 4 ≡ bucket_of h x → (now : Memory) → now (2 * j) ≡ 2
    → now (2 * j + 1) ≡ x
    → DoesRight (multiset h) (at (lock_of h (bucket_of h x) ∷ []) false false called) k now
    (ended (Some j)))
    → ((now : Memory) → ((j : ℕ) → 4 * bucket_of h x ≤ j → j < 4 * bucket_of h x + 4 → now (2 * j)
    ≡ 2 → now (2 * j + 1) ≡ x → ⊥)
    → DoesRight (multiset h) (at (lock_of h (bucket_of h x) ∷ []) false false called) k now
    (ended None))
    → DoesRight (multiset h) (at [] false false called) k shown (search_in h x ended)
search_right h ours k shown called x ended some none =
    let b : ℕ = bucket_of h x in
    take_right h _ k _ b _ (λ held e. cc)
    (λ now rely. search_from_right h _ k _ 4 _ x ended refl
    (bucket_slots h b _ _ called [] (bucket_low h ours x))
    (λ j from to last rely' valid has. some j (omega (arith, from, to, bucket_low h ours x))
    (omega (arith, from, to)) _ valid has) (λ last rely' nowhere. none _ nowhere))

delete_right : (h : Header) → h.subject ≡ Multiset → (k : Locals) (shown : Memory) (args : Args)
    → ((i : ℕ) → k.owned i ≡ false)
    → k.called ≡ Some (record { method = OfMultiset Delete; args = args })
    → DoesRight (multiset h)
    (at [] false false (record { method = OfMultiset Delete; args = args })) k shown
    (search_in h args.a (deleted h args.a))
delete_right h ours k shown args none is =
    search_right h ours k shown called args.a (deleted h args.a)
    (λ j low of now valid has.
    commit_state_right h k now called (bucket_of h args.a) j 0 low of is refl
    (λ one. absurd (one_two (now (2 * j)) one valid))
    (λ last same_state same_value before m.
    let some : 1 ≤ amount_of before args.a =
    is_there h last before j args.a m low (same_state ∙ valid) (same_value ∙ has) in (
      with_amount before args.a (amount_of before args.a - 1),
      cc (is_there_test (amount_of before args.a) some),
      made_free h last (with_cell last (2 * j) 0) before j args.a m low
          (λ cell not_state not_value. other_cell last (2 * j) 0 cell not_state)
          (same_state ∙ valid) (same_value ∙ has)
          (λ two. zero_two (with_cell last (2 * j) 0 (2 * j)) (changed_cell last (2 * j) 0) two),
    )))
    (λ now nowhere. absent now nowhere)
  where
    called : Called
    called = record { method = OfMultiset Delete; args = args }

    zero_two : (n : ℕ) → n ≡ 0 → n ≡ 2 → ⊥
    zero_two n e f = omega (arith, e, f)

    absent : (now : Memory)
        → ((j : ℕ) → 4 * bucket_of h args.a ≤ j → j < 4 * bucket_of h args.a + 4 → now (2 * j) ≡ 2
        → now (2 * j + 1) ≡ args.a → ⊥)
        → DoesRight (multiset h) (at (lock_of h (bucket_of h args.a) ∷ []) false false called) k now
        (deleted h args.a None)
    absent now nowhere =
        lone_commit_right (multiset h) (lock_of h (bucket_of h args.a) ∷ []) k now called
        (unlock h (bucket_of h args.a) (returns 0))
        (λ before m. record {
          called = called;
          is_called = is;
          reply = 0;
          returns = λ answer is'. refl;
          next = before;
          allowed = cc (isnt_there_test (amount_of before args.a) (isnt_there h now before args.a m
              nowhere));
          means = m;
        })
        (λ then_ rely. give_last h k then_ (bucket_of h args.a) true called (returns 0)
        (λ last keeps. returns_right (multiset h) k last true called 0 none
        (mutates k called 0 is refl)))

-- a lookup has its answer when it gives the lock back
lookup_right : (h : Header) → h.subject ≡ Multiset → (k : Locals) (shown : Memory) (args : Args)
    → ((i : ℕ) → k.owned i ≡ false)
    → k.called ≡ Some (record { method = OfMultiset Lookup; args = args })
    → DoesRight (multiset h)
    (at [] false false (record { method = OfMultiset Lookup; args = args })) k shown
    (search_in h args.a (looked_up h args.a))
lookup_right h ours k shown args none is = search (
  search_right,
  is_there_test,
  is_there,
  isnt_there_test,
  isnt_there,
  lock_of,
  answer_right,
  arith,
)

-- the procedure of each operation
procedure_right : (h : Header) → h.subject ≡ Multiset → (k : Locals) (shown : Memory)
    (method : Method) (args : Args) → subject_of method ≡ Multiset → ((i : ℕ) → k.owned i ≡ false)
    → k.called ≡ Some (record { method = method; args = args })
    → DoesRight (multiset h) (just_called method) k shown (procedure_of h Correct method args)
procedure_right h ours k shown (OfMultiset Insert) args of none is = search (insert_right, arith)
procedure_right h ours k shown (OfMultiset InsertPair) args of none is = search
    (insert_pair_right, arith)
procedure_right h ours k shown (OfMultiset Delete) args of none is = search (delete_right, arith)
procedure_right h ours k shown (OfMultiset Lookup) args of none is = search (lookup_right, arith)
procedure_right h ours k shown (OfCache other) args of none is = cc
procedure_right h ours k shown (OfTree other) args of none is = cc
procedure_right h ours k shown (OfBuffers other) args of none is = cc
procedure_right h ours k shown (OwnNever i) args of none is = cc
procedure_right h ours k shown (OwnAtMostOnce i) args of none is = cc
procedure_right h ours k shown (OwnOnce i) args of none is = cc

-- so each operation that may be called does right
pub multiset_right : (h : Header) (op : Op) → h.subject ≡ Multiset → is_callable h op ≡ true
    → IsRight (multiset h) (multiset_procedure h Correct) op
multiset_right h op is callable = search (procedure_right, callable_method, arith)
