-- Proofs of laws that an impl in src/ names: no contract says what is defined here.
-- Each procedure is sound.
use Rattle.std.proofs.Common.{◌≡◌, ℕ, zero, suc, ◌+◌, ◌*◌, ◌^◌, ◌<◌, ◌≤◌, min, max, Bool, true}
use Rattle.std.proofs.Common.{false, cond, not, List, [], ◌∷◌, Option, Some, None, refl, ap, ◌∙◌}
use Rattle.std.proofs.Common.{sym, subst, arith}
use Rattle.std.specs.Prelude.{◌==◌, ◌&&◌, ◌||◌, nat_lt, nat_le, is_some}
use Rattle.std.proofs.lemmas.Bool.Decides.{nat_tests}
use Rattle.vyrd_base.specs.declared.header.Header.{Header}
use Rattle.vyrd_base.specs.declared.subject.Subject.TheVariants.{Multiset}
use Rattle.vyrd_base.specs.declared.subject.Method.{Method}
use Rattle.vyrd_base.specs.declared.subject.Method.TheVariants.{Multiset as OfMultiset}
use Rattle.vyrd_base.specs.declared.subject.Method.TheVariants.{Cache as OfCache, Tree as OfTree}
use Rattle.vyrd_base.specs.declared.subject.Method.TheVariants.{Buffers as OfBuffers}
use Rattle.vyrd_base.specs.declared.subject.Method.TheVariants.{OwnNever, OwnAtMostOnce, OwnOnce}
use Rattle.vyrd_base.specs.declared.multiset.MultisetMethod.TheVariants.{Insert, InsertPair, Delete}
use Rattle.vyrd_base.specs.declared.multiset.MultisetMethod.TheVariants.{Lookup}
use Rattle.vyrd_base.specs.declared.subject.Args.{Args}
use Rattle.vyrd_base.specs.declared.log.Kind.TheVariants.{BlockCommit}
use Rattle.vyrd_base.specs.Subjects.{subject_of, is_observer, is_built_in}
use Rattle.vyrd_base.specs.Layout.{plain_words_of, lock_words_of}
use Rattle.vyrd_base.specs.Histories.{cells_of, is_plain, is_lock}
use Rattle.vyrd_base.proofs.HeaderLaws.{some_size}
use Rattle.vyrd_base.proofs.TestLaws.{both_true, is_below}
use Rattle.vyrd_memory.specs.declared.act.Act.TheVariants.{Load, Store, Mark}
use Rattle.vyrd_memory.specs.declared.op.Variant.{Variant}
use Rattle.vyrd_memory.specs.declared.op.Variant.TheVariants.{Correct, Broken}
use Rattle.vyrd_memory.specs.Scripts.{Script, step, perform, returns, gives_up}
use Rattle.vyrd_memory.specs.Arguments.{are_small}
use Rattle.vyrd_memory.specs.Soundness.{Situation, IsSound, just_called}
use Rattle.vyrd_memory.proofs.SoundActs.{holding, in_block, store_sound, gone, held_first}
use Rattle.vyrd_memory.proofs.SoundActs.{other_lock}
use Rattle.vyrd_multiset.specs.Cells.{bucket_of, first_slot, state_cell, value_cell, lock_of, lock}
use Rattle.vyrd_multiset.specs.Cells.{lock_other}
use Rattle.vyrd_multiset.specs.Cells.{unlock}
use Rattle.vyrd_multiset.specs.Procedures.{reserve, find_from, find, commit_state, inserted}
use Rattle.vyrd_multiset.specs.Procedures.{unlock_both, validate_both, commit_both}
use Rattle.vyrd_multiset.specs.Procedures.{undo, second_found, first_found, compare, search_from}
use Rattle.vyrd_multiset.specs.Procedures.{search_in, deleted, looked_up, procedure_of}

-- a bucket is below the size, and its slots are below 4 times the size
pub bucket_low : (h : Header) → h.subject ≡ Multiset → (value : ℕ) → bucket_of h value < h.size
bucket_low h is value = omega (arith, some_size h (ap is_built_in is))

between : (a n b : ℕ) → a ≤ b → b < a + n → (nat_le a b && nat_lt b (a + n)) ≡ true
between a n b l m = grind (arith, nat_tests)

state_is_plain : (h : Header) → h.subject ≡ Multiset → (slot : ℕ) → slot < 4 * h.size
    → is_plain (cells_of h) (state_cell slot) ≡ true
state_is_plain h is slot low = ap (λ s. nat_lt (2 * slot) (plain_words_of s h.size)) is
    ∙ is_below (2 * slot) (8 * h.size) (omega arith)

value_is_plain : (h : Header) → h.subject ≡ Multiset → (slot : ℕ) → slot < 4 * h.size
    → is_plain (cells_of h) (value_cell slot) ≡ true
value_is_plain h is slot low = ap (λ s. nat_lt (2 * slot + 1) (plain_words_of s h.size)) is
    ∙ is_below (2 * slot + 1) (8 * h.size) (omega arith)

pub is_its_lock : (h : Header) → h.subject ≡ Multiset → (bucket : ℕ) → bucket < h.size
    → is_lock (cells_of h) (lock_of h bucket) ≡ true
is_its_lock h is bucket low =
    ap (λ s. nat_le (plain_words_of s h.size) (8 * h.size + bucket)
    && nat_lt (8 * h.size + bucket) (plain_words_of s h.size + lock_words_of s h.size)) is
    ∙ between (8 * h.size) h.size (8 * h.size + bucket) (omega arith) (omega arith)

load_sound : (h : Header) (s : Situation) (cell : ℕ) (rest : ℕ → Script)
    → is_plain (cells_of h) cell ≡ true
    → ((answer : ℕ) → IsSound h s (rest answer))
    → IsSound h s (step (Load cell) rest)
load_sound h s cell rest plain later = (plain, λ answer is. later answer)

take_first : (h : Header) (bucket : ℕ) (method : Method) (committed : Bool) (later : Script)
    → h.subject ≡ Multiset → bucket < h.size
    → IsSound h (holding (lock_of h bucket ∷ []) method committed) later
    → IsSound h (holding [] method committed) (lock h bucket later)
take_first h bucket method committed later is low sound =
    (both_true _ _ (is_its_lock h is bucket low) refl, λ answer is. sound)

give_last : (h : Header) (bucket : ℕ) (method : Method) (committed : Bool) (later : Script)
    → h.subject ≡ Multiset → bucket < h.size → IsSound h (holding [] method committed) later
    → IsSound h (holding (lock_of h bucket ∷ []) method committed) (unlock h bucket later)
give_last h bucket method committed later is low sound = (
  both_true _ _ (is_its_lock h is bucket low) (held_first (lock_of h bucket) [] method committed),
  λ answer is. subst (λ locks. IsSound h (holding locks method committed) later)
      (sym (gone (lock_of h bucket) [])) sound,
)

-- the end of a mutator that has committed, and of any operation that only observes
returns_sound : (h : Header) (method : Method) (reply : ℕ)
    → IsSound h (holding [] method true) (returns reply)
returns_sound h method reply = (
  elim (is_observer method) as (λ b. ((b || true) && true) ≡ true) [ true ↦ refl | false ↦ refl ],
  λ answer is. refl,
)

observed_sound : (h : Header) (method : Method) (reply : ℕ) → is_observer method ≡ true
    → IsSound h (holding [] method false) (returns reply)
observed_sound h method reply observes = (simp observes, λ answer is. refl)

gives_up_sound : (h : Header) (method : Method) → is_observer method ≡ false
    → IsSound h (holding [] method false) gives_up
gives_up_sound h method mutates = (simp mutates, λ answer is. returns_sound h method 0)

-- finding a slot is sound if what follows is, for every slot that it may find and for none
find_from_sound : (h : Header) (s : Situation) (left slot value : ℕ) (found : Option ℕ → Script)
    → h.subject ≡ Multiset → is_some s.called ≡ true → slot + left ≤ 4 * h.size → value < 2 ^ 63
    → ((i : ℕ) → i < 4 * h.size → IsSound h s (found (Some i))) → IsSound h s (found None)
    → IsSound h s (find_from left slot value found)
find_from_sound h s zero slot value found is called fits low some none = none
find_from_sound h s (suc left) slot value found is called fits low some none =
    load_sound h s (state_cell slot)
    (λ state. cond (state == 0) (reserve slot value (found (Some slot)))
    (find_from left (slot + 1) value found))
    (state_is_plain h is slot (omega arith))
    (λ state. elim (state == 0) as
    (λ b. IsSound h s (cond b (reserve slot value (found (Some slot)))
    (find_from left (slot + 1) value found))) [
      | true ↦ store_sound h s (value_cell slot) value
          (perform (Store (state_cell slot) 1) (found (Some slot)))
          (value_is_plain h is slot (omega arith)) low called
          (store_sound h s (state_cell slot) 1 (found (Some slot))
          (state_is_plain h is slot (omega arith)) (omega arith) called
          (some slot (omega arith)))
      | false ↦
          find_from_sound h s left (slot + 1) value found is called (omega arith) low some none
    ])

search_from_sound : (h : Header) (s : Situation) (left slot value : ℕ) (ended : Option ℕ → Script)
    → h.subject ≡ Multiset → slot + left ≤ 4 * h.size
    → ((i : ℕ) → i < 4 * h.size → IsSound h s (ended (Some i))) → IsSound h s (ended None)
    → IsSound h s (search_from left slot value ended)
search_from_sound h s zero slot value ended is fits some none = none
search_from_sound h s (suc left) slot value ended is fits some none =
    let on : IsSound h s (search_from left (slot + 1) value ended) =
    search_from_sound h s left (slot + 1) value ended is (omega arith) some none in
    load_sound h s (state_cell slot)
    (λ state. cond (state == 2)
    (compare slot value (ended (Some slot)) (search_from left (slot + 1) value ended))
    (search_from left (slot + 1) value ended))
    (state_is_plain h is slot (omega arith))
    (λ state. elim (state == 2) as (λ b. IsSound h s
    (cond b (compare slot value (ended (Some slot)) (search_from left (slot + 1) value ended))
    (search_from left (slot + 1) value ended))) [
      | true ↦ load_sound h s (value_cell slot)
          (λ loaded. cond (loaded == value) (ended (Some slot))
          (search_from left (slot + 1) value ended))
          (value_is_plain h is slot (omega arith))
          (λ loaded. elim (loaded == value) as
          (λ b. IsSound h s (cond b (ended (Some slot))
          (search_from left (slot + 1) value ended))) [
            | true ↦ some slot (omega arith)
            | false ↦ on
          ])
      | false ↦ on
    ])

slots_fit : (h : Header) → h.subject ≡ Multiset → (value : ℕ) → first_slot (bucket_of h value) + 4
    ≤ 4 * h.size
slots_fit h is value = omega (arith, bucket_low h is value)

find_sound : (h : Header) (variant : Variant) (method : Method) (value : ℕ)
    (found : Option ℕ → Script)
    → h.subject ≡ Multiset → value < 2 ^ 63
    → ((i : ℕ) → i < 4 * h.size → IsSound h (holding [] method false) (found (Some i)))
    → IsSound h (holding [] method false) (found None)
    → IsSound h (holding [] method false) (find h variant value found)
find_sound h Correct method value found is low some none =
    let b : ℕ = bucket_of h value in
    take_first h b method false (find_from 4 (first_slot b) value (λ slot. unlock h b (found slot)))
    is (bucket_low h is value)
    (find_from_sound h (holding (lock_of h b ∷ []) method false) 4 (first_slot b) value
    (λ slot. unlock h b (found slot)) is refl (slots_fit h is value) low
    (λ i fits. give_last h b method false (found (Some i)) is (bucket_low h is value) (some i fits))
    (give_last h b method false (found None) is (bucket_low h is value) none))
find_sound h Broken method value found is low some none =
    find_from_sound h (holding [] method false) 4 (first_slot (bucket_of h value)) value found is
    refl (slots_fit h is value) low some none

search_in_sound : (h : Header) (method : Method) (x : ℕ) (ended : Option ℕ → Script)
    → h.subject ≡ Multiset
    → ((i : ℕ) → i < 4 * h.size
    → IsSound h (holding (lock_of h (bucket_of h x) ∷ []) method false) (ended (Some i)))
    → IsSound h (holding (lock_of h (bucket_of h x) ∷ []) method false) (ended None)
    → IsSound h (holding [] method false) (search_in h x ended)
search_in_sound h method x ended is some none =
    let b : ℕ = bucket_of h x in
    take_first h b method false (search_from 4 (first_slot b) x ended) is (bucket_low h is x)
    (search_from_sound h (holding (lock_of h b ∷ []) method false) 4 (first_slot b) x ended is
    (slots_fit h is x) some none)

commit_state_sound : (h : Header) (method : Method) (x slot state : ℕ) → h.subject ≡ Multiset
    → is_observer method ≡ false → slot < 4 * h.size → state < 2 ^ 63
    → IsSound h (holding (lock_of h (bucket_of h x) ∷ []) method false)
    (commit_state h (bucket_of h x) slot state)
commit_state_sound h method x slot state is mutates low small =
    let b : ℕ = bucket_of h x in (
      refl,
      λ answer is'.
          store_sound h (in_block (lock_of h b ∷ []) method) (state_cell slot) state
          (perform (Mark BlockCommit) (unlock h b (returns 1)))
          (state_is_plain h is slot low) small refl (
            simp mutates,
            λ answer' is''. give_last h b method true (returns 1) is (bucket_low h is x)
                (returns_sound h method 1),
          ),
    )

inserted_sound : (h : Header) (method : Method) (x : ℕ) → h.subject ≡ Multiset
    → is_observer method ≡ false → (slot : ℕ) → slot < 4 * h.size
    → IsSound h (holding [] method false) (inserted h x (Some slot))
inserted_sound h method x is mutates slot low =
    take_first h (bucket_of h x) method false (commit_state h (bucket_of h x) slot 2) is
    (bucket_low h is x)
    (commit_state_sound h method x slot 2 is mutates low (omega arith))

undo_sound : (h : Header) (method : Method) (x : ℕ) → h.subject ≡ Multiset
    → is_observer method ≡ false → (slot : ℕ) → slot < 4 * h.size
    → IsSound h (holding [] method false) (undo h x slot)
undo_sound h method x is mutates slot low =
    let b : ℕ = bucket_of h x in
    take_first h b method false (perform (Store (state_cell slot) 0) (unlock h b gives_up)) is
    (bucket_low h is x)
    (store_sound h (holding (lock_of h b ∷ []) method false) (state_cell slot) 0
    (unlock h b gives_up)
    (state_is_plain h is slot low) (omega arith) refl
    (give_last h b method false gives_up is (bucket_low h is x) (gives_up_sound h method mutates)))

-- the block of a pair is sound under locks with which what follows is
validate_both_sound : (h : Header) (method : Method) (locks : List ℕ)
    (first second slot_x slot_y : ℕ)
    → h.subject ≡ Multiset → is_observer method ≡ false → slot_x < 4 * h.size → slot_y < 4 * h.size
    → IsSound h (holding locks method true) (unlock_both h first second)
    → IsSound h (holding locks method false) (validate_both h first second slot_x slot_y)
validate_both_sound h method locks first second slot_x slot_y is mutates low_x low_y sound = (
  refl,
  λ answer is'.
      store_sound h (in_block locks method) (state_cell slot_x) 2
      (perform (Store (state_cell slot_y) 2)
      (perform (Mark BlockCommit) (unlock_both h first second)))
      (state_is_plain h is slot_x low_x) (omega arith) refl
      (store_sound h (in_block locks method) (state_cell slot_y) 2
      (perform (Mark BlockCommit) (unlock_both h first second))
      (state_is_plain h is slot_y low_y)
      (omega arith) refl
      (simp mutates, λ answer' is''. sound)),
)

commit_both_sound : (h : Header) (method : Method) (first second slot_x slot_y : ℕ)
    → h.subject ≡ Multiset → is_observer method ≡ false → first < h.size → second < h.size
    → slot_x < 4 * h.size → slot_y < 4 * h.size
    → IsSound h (holding [] method false) (commit_both h first second slot_x slot_y)
commit_both_sound h method first second slot_x slot_y is mutates low_first low_second low_x low_y =
    take_first h first method false
    (lock_other h first second (validate_both h first second slot_x slot_y)) is low_first
    (by_test (first == second) refl)
  where
    last : IsSound h (holding (lock_of h first ∷ []) method true) (unlock h first (returns 1))
    last = give_last h first method true (returns 1) is low_first (returns_sound h method 1)

    by_test : (b : Bool) → (first == second) ≡ b
        → IsSound h (holding (lock_of h first ∷ []) method false) (cond b (validate_both h first
        second slot_x slot_y) (lock h second (validate_both h first second slot_x slot_y)))
    by_test true e =
        validate_both_sound h method (lock_of h first ∷ []) first second slot_x slot_y is mutates
        low_x low_y
        (subst (λ b. IsSound h (holding (lock_of h first ∷ []) method true) (cond b
        (unlock h first (returns 1)) (unlock h second (unlock h first (returns 1))))) (sym e) last)
    by_test false e =
        let apart : (lock_of h first == lock_of h second) ≡ false =
        other_lock (8 * h.size) first second e in (
          both_true _ _ (is_its_lock h is second low_second) (ap (λ b. not (b || false)) apart),
          λ answer is'.
              validate_both_sound h method (lock_of h second ∷ lock_of h first ∷ []) first
              second slot_x slot_y is mutates low_x low_y
              (subst (λ b. IsSound h (holding (lock_of h second ∷ lock_of h first ∷ []) method true)
              (cond b (unlock h first (returns 1))
              (unlock h second (unlock h first (returns 1))))) (sym e) (
                both_true _ _ (is_its_lock h is second low_second)
                    (held_first (lock_of h second) (lock_of h first ∷ []) method true),
                λ answer' is''.
                    subst
                    (λ locks. IsSound h (holding locks method true) (unlock h first (returns 1)))
                    (sym (gone (lock_of h second) (lock_of h first ∷ [])
                    ∙ ap (λ b. cond (not b) (lock_of h first ∷ []) []) apart)) last,
              )),
        )

second_found_sound : (h : Header) (variant : Variant) (method : Method) (x y slot_x : ℕ)
    → h.subject ≡ Multiset → is_observer method ≡ false → slot_x < 4 * h.size → (slot : ℕ)
    → slot < 4 * h.size
    → IsSound h (holding [] method false) (second_found h variant x y slot_x (Some slot))
second_found_sound h Correct method x y slot_x is mutates low_x slot low =
    let p : ℕ = bucket_of h x in
    let q : ℕ = bucket_of h y in
    commit_both_sound h method (min p q) (max p q) slot_x slot is mutates
    (omega (arith, bucket_low h is x, bucket_low h is y))
    (omega (arith, bucket_low h is x, bucket_low h is y)) low_x low
second_found_sound h Broken method x y slot_x is mutates low_x slot low =
    commit_both_sound h method (bucket_of h x) (bucket_of h y) slot_x slot is mutates
    (bucket_low h is x) (bucket_low h is y) low_x low

first_found_sound : (h : Header) (variant : Variant) (method : Method) (x y : ℕ)
    → h.subject ≡ Multiset → is_observer method ≡ false → y < 2 ^ 63 → (slot : ℕ)
    → slot < 4 * h.size
    → IsSound h (holding [] method false) (first_found h variant x y (Some slot))
first_found_sound h variant method x y is mutates small slot low =
    find_sound h variant method y (second_found h variant x y slot) is small
    (second_found_sound h variant method x y slot is mutates low)
    (undo_sound h method x is mutates slot low)

absent_sound : (h : Header) (method : Method) (x : ℕ) → h.subject ≡ Multiset
    → is_observer method ≡ false
    → IsSound h (holding (lock_of h (bucket_of h x) ∷ []) method false) (deleted h x None)
absent_sound h method x is mutates = (
  simp mutates,
  λ answer is'. give_last h (bucket_of h x) method true (returns 0) is (bucket_low h is x)
      (returns_sound h method 0),
)

looked_up_sound : (h : Header) (method : Method) (x : ℕ) → h.subject ≡ Multiset
    → is_observer method ≡ true → (slot : Option ℕ)
    → IsSound h (holding (lock_of h (bucket_of h x) ∷ []) method false) (looked_up h x slot)
looked_up_sound h method x is observes slot =
    let reply : ℕ = cond (is_some slot) 1 0 in
    give_last h (bucket_of h x) method false (returns reply) is (bucket_low h is x)
    (observed_sound h method reply observes)

by_method_sound : (h : Header) (variant : Variant) (method : Method) (args : Args)
    → h.subject ≡ Multiset → subject_of method ≡ Multiset → args.a < 2 ^ 63 → args.b < 2 ^ 63
    → IsSound h (just_called method) (procedure_of h variant method args)
by_method_sound h variant (OfMultiset Insert) args is of small_x small_y =
    find_sound h variant (OfMultiset Insert) args.a (inserted h args.a) is small_x
    (inserted_sound h (OfMultiset Insert) args.a is refl)
    (gives_up_sound h (OfMultiset Insert) refl)
by_method_sound h variant (OfMultiset InsertPair) args is of small_x small_y =
    find_sound h variant (OfMultiset InsertPair) args.a (first_found h variant args.a args.b) is
    small_x
    (first_found_sound h variant (OfMultiset InsertPair) args.a args.b is refl small_y)
    (gives_up_sound h (OfMultiset InsertPair) refl)
by_method_sound h variant (OfMultiset Delete) args is of small_x small_y =
    search_in_sound h (OfMultiset Delete) args.a (deleted h args.a) is
    (λ slot low. commit_state_sound h (OfMultiset Delete) args.a slot 0 is refl low (omega arith))
    (absent_sound h (OfMultiset Delete) args.a is refl)
by_method_sound h variant (OfMultiset Lookup) args is of small_x small_y =
    search_in_sound h (OfMultiset Lookup) args.a (looked_up h args.a) is
    (λ slot low. looked_up_sound h (OfMultiset Lookup) args.a is refl (Some slot))
    (looked_up_sound h (OfMultiset Lookup) args.a is refl None)
by_method_sound h variant (OfCache other) args is of small_x small_y = cc
by_method_sound h variant (OfTree other) args is of small_x small_y = cc
by_method_sound h variant (OfBuffers other) args is of small_x small_y = cc
by_method_sound h variant (OwnNever i) args is of small_x small_y = cc
by_method_sound h variant (OwnAtMostOnce i) args is of small_x small_y = cc
by_method_sound h variant (OwnOnce i) args is of small_x small_y = cc

pub procedure_sound : (h : Header) (variant : Variant) (method : Method) (args : Args)
    → h.subject ≡ Multiset → subject_of method ≡ Multiset → are_small args ≡ true
    → IsSound h (just_called method) (procedure_of h variant method args)
procedure_sound h variant method args is of small =
    by_method_sound h variant method args is of (number_below args.a args.b args.c small).0
    (number_below args.a args.b args.c small).1
  where
    number_below : (a b c : ℕ)
        → (nat_lt a (2 ^ 32) && nat_lt b (2 ^ 32) && nat_lt c (2 ^ 32)) ≡ true
        → (a < 2 ^ 63) × (b < 2 ^ 63)
    number_below a b c e = (grind (arith, nat_tests), grind (arith, nat_tests))
