-- Each part of a procedure of the multiset does right, if what follows it does.
use Rattle.vyrd_every.proofs.Prelude
use Prelude.{◌≡◌, ◌≢◌, ℕ, zero, suc, ◌+◌, ◌*◌, ◌/◌, ◌<◌, ◌≤◌, ◌⊎◌, inl, inr, Bool, true, false}
use Prelude.{cond, List, [], ◌∷◌, Option, Some, None, refl, ap, ◌∙◌, sym, arith, ◌==◌, Header}
use Prelude.{Called, Amounts, same_of, same_number, apart_of, Store, Take, Give, Correct, Memory}
use Prelude.{with_cell, changed_cell, other_cell, Script, perform, Situation, holds, after_act}
use Prelude.{gone, reserve, find_from, find, compare, search_from, IsMultiset, left_invalid}
use Prelude.{zero_one, multiset, Locals, Access, Rely, DoesRight, never, load_right, at}
use Rattle.vyrd_multiset.specs.Cells.{bucket_of, lock_of, lock, unlock}
use Rattle.vyrd_every.proofs.Acts.{take_right as take, give_right as give}
use Rattle.vyrd_every.proofs.Relies.{rely_same, rely_more}

pub one_two : (n : ℕ) → n ≡ 1 → n ≡ 2 → ⊥
one_two n e f = omega (arith, e, f)

-- the words of a slot whose bucket's lock is held
pub state_access : (h : Header) (s : Situation) (j : ℕ) → j < 4 * h.size
    → holds s (lock_of h (j / 4)) ≡ true → Access (multiset h) s (2 * j)
state_access h s j low held = grind (arith, held, lock_of)

pub value_access : (h : Header) (s : Situation) (j : ℕ) → j < 4 * h.size
    → holds s (lock_of h (j / 4)) ≡ true → Access (multiset h) s (2 * j + 1)
value_access h s j low held = grind (arith, held, lock_of)

pub take_right : (h : Header) (s : Situation) (k : Locals) (shown : Memory) (bucket : ℕ)
    (later : Script)
    → ((held : ℕ) → holds s held ≡ true → held < lock_of h bucket)
    → ((now : Memory) → Rely (multiset h) (after_act s (Take (lock_of h bucket))) k shown now
    → DoesRight (multiset h) (after_act s (Take (lock_of h bucket))) k now later)
    → DoesRight (multiset h) s k shown (lock h bucket later)
take_right h s k shown bucket later above rest = take _ s k _ _ _ above rest

pub give_right : (h : Header) (s : Situation) (k : Locals) (shown : Memory) (bucket : ℕ)
    (later : Script) → s.in_block ≡ false
    → ((now : Memory) → Rely (multiset h) (after_act s (Give (lock_of h bucket))) k shown now
    → DoesRight (multiset h) (after_act s (Give (lock_of h bucket))) k now later)
    → DoesRight (multiset h) s k shown (unlock h bucket later)
give_right h s k shown bucket later out rest = give _ s k _ _ _ out rest

-- a store outside a block, to one of the two words of a slot
pub store_right : (h : Header) (s : Situation) (k next : Locals) (shown : Memory) (cell value j : ℕ)
    (later : Script) → s.in_block ≡ false → Access (multiset h) s cell
    → (cell ≡ 2 * j) ⊎ (cell ≡ 2 * j + 1)
    → (shown (2 * j) ≡ 1 → k.owned j ≡ true)
    → ((i : ℕ) → next.owned i ≡ true → k.owned i ≡ true → shown (2 * i) ≡ 1
    → with_cell shown cell value (2 * i) ≡ 1)
    → ((i : ℕ) → next.owned i ≡ true → k.owned i ≡ false → (shown (2 * i) ≡ 0)
    × (with_cell shown cell value (2 * i) ≡ 1))
    → ((state : Amounts) → IsMultiset h shown state
    → IsMultiset h (with_cell shown cell value) state)
    → next.pending ≡ (cell, value) ∷ k.pending → next.called ≡ k.called → next.answered ≡ k.answered
    → ((now : Memory) → Rely (multiset h) s next (with_cell shown cell value) now
    → DoesRight (multiset h) s next now later)
    → DoesRight (multiset h) s k shown (perform (Store cell value) later)
store_right h s k next shown cell value j later e9 e10 e11 e12 e13 e14 e15 e16 e17 e18 e19 = search
    (other_cell, never, arith)

-- what is said of slots that were reserved holds of them still
pub record Keeps (k : Locals) (shown now : Memory) : Type 0 where
  pub slots : (i : ℕ) → k.owned i ≡ true → shown (2 * i) ≡ 1 → (now (2 * i) ≡ 1)
      × (now (2 * i + 1) ≡ shown (2 * i + 1))

pub keeps_rely : (h : Header) (s : Situation) (k : Locals) (shown now : Memory)
    → Rely (multiset h) s k shown now → Keeps k shown now
keeps_rely h s k shown now rely = grind arith

pub keeps_more : (k : Locals) (a b c : Memory) → Keeps k a b → Keeps k b c → Keeps k a c
keeps_more k a b c first second = grind arith

-- the locals with one more slot that is reserved, whatever was written for it
abbrev pub with_slot : Locals → ℕ → List (ℕ × ℕ) → Locals
with_slot k j pending = record {
  owned = λ i. cond (i == j) true (k.owned i);
  pending = pending;
  called = k.called;
  answered = k.answered;
}

pub has_slot : (k : Locals) (j : ℕ) (pending : List (ℕ × ℕ)) → (with_slot k j pending).owned j
    ≡ true
has_slot k j pending = ap (λ b. cond b true (k.owned j)) (same_number j)

pub had_slot : (k : Locals) (j i : ℕ) (pending : List (ℕ × ℕ)) → k.owned i ≡ true
    → (with_slot k j pending).owned i ≡ true
had_slot k j i pending mine = grind arith

new_slot : (k : Locals) (j i : ℕ) (pending : List (ℕ × ℕ)) → (with_slot k j pending).owned i ≡ true
    → k.owned i ≡ false → i ≡ j
new_slot k j i pending mine wasnt = grind (arith, same_of, never)

-- the value of a free slot is stored, and the slot reserved
reserve_right : (h : Header) (s : Situation) (k : Locals) (shown : Memory) (j value : ℕ)
    (later : Script) → s.in_block ≡ false → j < 4 * h.size
    → holds s (lock_of h (j / 4)) ≡ true → shown (2 * j) ≡ 0
    → ((now : Memory) → now (2 * j) ≡ 1 → now (2 * j + 1) ≡ value → Keeps k shown now
    → (pending : List (ℕ × ℕ)) → DoesRight (multiset h) s (with_slot k j pending) now later)
    → DoesRight (multiset h) s k shown (reserve j value later)
reserve_right h s k shown j value later out low held free rest =
    store_right h s k filled shown (2 * j + 1) value j (perform (Store (2 * j) 1) later) out
    (value_access h s j low held) (inr refl)
    (λ one. absurd (zero_one (shown (2 * j)) free one))
    (λ i mine was one. other_cell shown (2 * j + 1) value (2 * i) (λ e. omega (arith, e)) ∙ one)
    (λ i mine wasnt. absurd (never wasnt mine))
    (λ state m. left_invalid h shown (with_cell shown (2 * j + 1) value) state j m low
    (λ cell not_state not_value. other_cell shown (2 * j + 1) value cell not_value)
    (invalid_zero (shown (2 * j)) free)
    (invalid_zero (with_cell shown (2 * j + 1) value (2 * j))
    (other_cell shown (2 * j + 1) value (2 * j) (λ e. omega (arith, e)) ∙ free)))
    refl refl refl
    (λ now rely. second now rely)
  where
    invalid_zero : (n : ℕ) → n ≡ 0 → n ≢ 2
    invalid_zero n e f = omega (arith, e, f)

    filled : Locals
    filled = record k { pending = (2 * j + 1, value) ∷ k.pending }

    second : (now : Memory) → Rely (multiset h) s filled (with_cell shown (2 * j + 1) value) now
        → DoesRight (multiset h) s filled now (perform (Store (2 * j) 1) later)
    second now rely =
        store_right h s filled (with_slot k j pending) now (2 * j) 1 j later out
        (state_access h s j low held) (inl refl)
        (λ one. absurd (zero_one (now (2 * j)) here one))
        (λ i mine was one. other_cell now (2 * j) 1 (2 * i) (λ e.
        let same : i ≡ j = omega (arith, e) in
        zero_one (now (2 * j)) here (rw (← same) one)) ∙ one)
        (λ i mine wasnt.
        let same : i ≡ j = new_slot k j i pending mine wasnt in
        rw same
        (here, changed_cell now (2 * j) 1))
        (λ state m. left_invalid h now (with_cell now (2 * j) 1) state j m low
        (λ cell not_state not_value. other_cell now (2 * j) 1 cell not_state)
        (invalid_zero (now (2 * j)) here)
        (λ e. one_two (with_cell now (2 * j) 1 (2 * j)) (changed_cell now (2 * j) 1) e))
        refl refl refl
        (λ last rely'. rest last ((rely'.owned j (has_slot k j pending)).0
        ∙ changed_cell now (2 * j) 1)
        ((rely'.owned j (has_slot k j pending)).1 ∙ other_cell now (2 * j) 1 (2 * j + 1)
        (λ e. omega (arith, e)) ∙ has)
        (record { slots = λ i mine one. kept last rely' i mine one })
        pending)
      where
        pending : List (ℕ × ℕ)
        pending = (2 * j, 1) ∷ (2 * j + 1, value) ∷ k.pending

        here : now (2 * j) ≡ 0
        here = search (state_access, held, other_cell, shown, free, arith)

        has : now (2 * j + 1) ≡ value
        has = search (value_access, held, changed_cell, shown, arith)

        kept : (last : Memory) → Rely (multiset h) s (with_slot k j pending)
            (with_cell now (2 * j) 1) last
            → (i : ℕ) → k.owned i ≡ true → shown (2 * i) ≡ 1 → (last (2 * i) ≡ 1)
            × (last (2 * i + 1) ≡ shown (2 * i + 1))
        kept last rely' i mine one =
            let apart : i ≢ j = λ same. zero_one (shown (2 * j)) free
            (rw (← same) one) in
            let after = rely'.owned i (had_slot k j i pending mine) in
            let before = rely.owned i mine in (
              after.0 ∙ other_cell now (2 * j) 1 (2 * i) (λ e. apart (omega (arith, e))) ∙ before.0
                  ∙ other_cell shown (2 * j + 1) value (2 * i) (λ e. omega (arith, e)) ∙ one,
              after.1 ∙ other_cell now (2 * j) 1 (2 * i + 1) (λ e. omega (arith, e)) ∙ before.1
                  ∙ other_cell shown (2 * j + 1) value (2 * i + 1) (λ e. apart (omega (arith, e))),
            )

-- the slots of a run are in range, and the lock of their bucket is held
pub record AreHeld (h : Header) (s : Situation) (slot left : ℕ) : Type 0 where
  pub low : (j : ℕ) → slot ≤ j → j < slot + left → j < 4 * h.size
  pub held : (j : ℕ) → slot ≤ j → j < slot + left → holds s (lock_of h (j / 4)) ≡ true

held_next : (h : Header) (s : Situation) (slot left : ℕ) → AreHeld h s slot (suc left)
    → AreHeld h s (slot + 1) left
held_next h s slot left each = grind arith

-- a free slot is found among these and reserved, or there is none
pub find_from_right : (h : Header) (s : Situation) (k : Locals) (shown : Memory)
    (left slot value : ℕ) (found : Option ℕ → Script) → s.in_block ≡ false
    → AreHeld h s slot left
    → ((j : ℕ) → slot ≤ j → j < slot + left → (now : Memory) → now (2 * j) ≡ 1 → now (2 * j + 1)
    ≡ value → Keeps k shown now
    → ((i : ℕ) → k.owned i ≡ true → shown (2 * i) ≡ 1 → i ≢ j) → (pending : List (ℕ × ℕ))
    → DoesRight (multiset h) s (with_slot k j pending) now (found (Some j)))
    → ((now : Memory) → Keeps k shown now → DoesRight (multiset h) s k now (found None))
    → DoesRight (multiset h) s k shown (find_from left slot value found)
find_from_right h s k shown zero slot value found out each some none =
    search (keeps_rely, rely_same, arith)
find_from_right h s k shown (suc left) slot value found out each some none =
    load_right (multiset h) s k shown (2 * slot)
    (λ state. cond (state == 0) (reserve slot value (found (Some slot)))
    (find_from left (slot + 1) value found))
    (state_access h s slot (each.low slot (omega arith) (omega arith))
    (each.held slot (omega arith) (omega arith))) out
    (λ now rely. by_state now rely
    (find_from_right h s k now left (slot + 1) value found out (held_next h s slot left each)
    (λ j from to last one has keeps apart. some j (omega (arith, from)) (omega (arith, to)) last one
    has (keeps_more k shown now last (keeps_rely h s k shown now rely) keeps)
    (λ i mine was. apart i mine ((rely.owned i mine).0 ∙ was)))
    (λ last keeps. none last (keeps_more k shown now last (keeps_rely h s k shown now rely) keeps)))
    (shown (2 * slot) == 0) refl)
  where
    by_state : (now : Memory) → Rely (multiset h) s k shown now → DoesRight (multiset h) s k now
        (find_from left (slot + 1) value found) → (b : Bool) → (shown (2 * slot) == 0) ≡ b
        → DoesRight (multiset h) s k now
        (cond b (reserve slot value (found (Some slot))) (find_from left (slot + 1) value found))
    by_state now rely more true e =
        let low : slot < 4 * h.size = each.low slot (omega arith) (omega arith) in
        let held : holds s (lock_of h (slot / 4)) ≡ true = each.held slot (omega arith)
        (omega arith) in
        let free : now (2 * slot) ≡ 0 = rely.held (2 * slot) (state_access h s slot low held)
        ∙ same_of (shown (2 * slot)) 0 e in
        reserve_right h s k now slot value (found (Some slot)) out low held free
        (λ last one has keeps pending. some slot (omega arith) (omega arith) last one has
        (keeps_more k shown now last (keeps_rely h s k shown now rely) keeps)
        (λ i mine was same. zero_one (now (2 * slot)) free
        (rw (← same) ((rely.owned i mine).0 ∙ was))) pending)
    by_state now rely more false e = more

-- the one lock is given back
pub give_last : (h : Header) (k : Locals) (shown : Memory) (bucket : ℕ) (committed : Bool)
    (called : Called) (later : Script)
    → ((now : Memory) → Keeps k shown now → DoesRight (multiset h) (at [] committed false called) k
    now later)
    → DoesRight (multiset h) (at (lock_of h bucket ∷ []) committed false called) k shown
    (unlock h bucket later)
give_last h k shown bucket committed called later rest =
    search (shown, give_right, lock_of, gone, keeps_rely, arith)

-- the slots of a bucket
pub bucket_slots : (h : Header) (bucket : ℕ) (committed in_block : Bool) (called : Called)
    (locks : List ℕ) → bucket < h.size
    → AreHeld h (at (lock_of h bucket ∷ locks) committed in_block called) (4 * bucket) 4
bucket_slots h bucket committed in_block called locks low = grind arith

pub find_right : (h : Header) (k : Locals) (shown : Memory) (value : ℕ) (called : Called)
    (found : Option ℕ → Script) → bucket_of h value < h.size
    → ((j : ℕ) → j < 4 * h.size → j / 4 ≡ bucket_of h value → (now : Memory) → now (2 * j) ≡ 1
    → now (2 * j + 1) ≡ value → Keeps k shown now
    → ((i : ℕ) → k.owned i ≡ true → shown (2 * i) ≡ 1 → i ≢ j) → (pending : List (ℕ × ℕ))
    → DoesRight (multiset h) (at [] false false called) (with_slot k j pending) now
    (found (Some j)))
    → ((now : Memory) → Keeps k shown now → DoesRight (multiset h) (at [] false false called) k now
    (found None))
    → DoesRight (multiset h) (at [] false false called) k shown (find h Correct value found)
find_right h k shown value called found low some none =
    let b : ℕ = bucket_of h _ in
    take_right h _ k _ b _ (λ held e. cc) (λ now rely.
    let first : Keeps k shown now = keeps_rely h (at _ _ _ called) k _ _ rely in
    find_from_right h _ k _ 4 _ _ (λ slot. unlock h b (found slot)) refl
    (bucket_slots h b _ _ called [] low) (λ j from to last one has keeps apart pending.
    let of : j / 4 ≡ b = omega (arith, from, to) in
    give_last h _ _ b _ called _ (λ end kept.
    let there = kept.slots j (has_slot k j pending) one in
    some j (omega (arith, from, to, low)) of end there.0 (there.1 ∙ has)
    (record {
      slots = λ i mine was.
          let mid = first.slots i mine was in
          let then_ = keeps.slots i mine mid.0 in
          let after = kept.slots i (had_slot k j i pending mine) then_.0 in
          (after.0, after.1 ∙ then_.1 ∙ mid.1);
    }) (λ i mine was. apart i mine (first.slots i mine was).0)
    pending)) (λ last keeps. give_last h k _ b _ called _
    (λ end kept. none end
    (keeps_more k shown last end (keeps_more k shown now last first keeps) kept))))

-- the rest of a search does right, if what follows it does
abbrev On : Header → Situation → Locals → ℕ → ℕ → ℕ → (Option ℕ → Script) → Memory → Type 0
On h s k left slot value ended shown =
    ((j : ℕ) → slot + 1 ≤ j → j < slot + 1 + left → (now : Memory) → Rely (multiset h) s k shown now
    → now (2 * j) ≡ 2 → now (2 * j + 1) ≡ value
    → DoesRight (multiset h) s k now (ended (Some j)))
    → ((now : Memory) → Rely (multiset h) s k shown now
    → ((j : ℕ) → slot + 1 ≤ j → j < slot + 1 + left → now (2 * j) ≡ 2 → now (2 * j + 1) ≡ value → ⊥)
    → DoesRight (multiset h) s k now (ended None))
    → DoesRight (multiset h) s k shown (search_from left (slot + 1) value ended)

-- a search ends at a valid slot with the value, or no slot from this one on is one
pub search_from_right : (h : Header) (s : Situation) (k : Locals) (shown : Memory)
    (left slot value : ℕ) (ended : Option ℕ → Script) → s.in_block ≡ false
    → AreHeld h s slot left
    → ((j : ℕ) → slot ≤ j → j < slot + left → (now : Memory) → Rely (multiset h) s k shown now
    → now (2 * j) ≡ 2 → now (2 * j + 1) ≡ value
    → DoesRight (multiset h) s k now (ended (Some j)))
    → ((now : Memory) → Rely (multiset h) s k shown now
    → ((j : ℕ) → slot ≤ j → j < slot + left → now (2 * j) ≡ 2 → now (2 * j + 1) ≡ value → ⊥)
    → DoesRight (multiset h) s k now (ended None))
    → DoesRight (multiset h) s k shown (search_from left slot value ended)
search_from_right h s k shown zero slot value ended out each some none = grind arith
search_from_right h s k shown (suc left) slot value ended out each some none = load_right
    (multiset h) s k shown (2 * slot)
    (λ state. cond (state == 2)
    (compare slot value (ended (Some slot)) (search_from left (slot + 1) value ended))
    (search_from left (slot + 1) value ended)) state_held out
    (λ now rely. by_state now rely
    (λ then_ rely'. search_from_right h s k then_ left (slot + 1) value ended out
    (held_next h s slot left each)) (shown (2 * slot) == 2) refl)
  where
    state_held : Access (multiset h) s (2 * slot)
    state_held = search (state_access, arith)

    value_held : Access (multiset h) s (2 * slot + 1)
    value_held = search (value_access, arith)

    later : (then_ : Memory) → Rely (multiset h) s k shown then_
        → (shown (2 * slot) ≡ 2 → then_ (2 * slot + 1) ≡ value → ⊥)
        → On h s k left slot value ended then_ → DoesRight (multiset h) s k then_
        (search_from left (slot + 1) value ended)
    later then_ rely here on =
        on (λ j from to now rely' valid has. some j (omega (arith, from)) (omega (arith, to)) now
        (rely_more (multiset h) s k shown then_ now rely rely') valid has)
        (λ now rely' more. none now (rely_more (multiset h) s k shown then_ now rely rely')
        (λ j from to valid has. by_place now rely' more j from to valid has (j == slot) refl))
      where
        by_place : (now : Memory) → Rely (multiset h) s k then_ now
            → ((j : ℕ) → slot + 1 ≤ j → j < slot + 1 + left → now (2 * j) ≡ 2 → now (2 * j + 1)
            ≡ value → ⊥)
            → (j : ℕ) → slot ≤ j → j < slot + suc left → now (2 * j) ≡ 2 → now (2 * j + 1) ≡ value
            → (b : Bool) → (j == slot) ≡ b → ⊥
        by_place now rely' more j from to valid has true e =
            let same : j ≡ slot = same_of j slot e in
            let valid_here : now (2 * slot) ≡ 2 = rw (← same) valid in
            let has_here : now (2 * slot + 1) ≡ value = rw (← same) has in
            here (sym (rely'.held (2 * slot) state_held ∙ rely.held (2 * slot) state_held)
            ∙ valid_here) (sym (rely'.held (2 * slot + 1) value_held) ∙ has_here)
        by_place now rely' more j from to valid has false e =
            let apart = apart_of j slot e in
            more j (omega (arith, apart, from)) (omega (arith, to)) valid has

    by_value : (now : Memory) → Rely (multiset h) s k shown now → shown (2 * slot) ≡ 2
        → (then_ : Memory) → Rely (multiset h) s k now then_
        → On h s k left slot value ended then_ → (b : Bool) → (now (2 * slot + 1) == value) ≡ b
        → DoesRight (multiset h) s k then_
        (cond b (ended (Some slot)) (search_from left (slot + 1) value ended))
    by_value now rely valid then_ rely' on true e = some slot (omega arith) (omega arith) then_
        (rely_more (multiset h) s k shown now then_ rely rely') (rely'.held (2 * slot) state_held
        ∙ rely.held (2 * slot) state_held
        ∙ valid) (rely'.held (2 * slot + 1) value_held ∙ same_of (now (2 * slot + 1)) value e)
    by_value now rely valid then_ rely' on false e = later then_
        (rely_more (multiset h) s k shown now then_ rely rely')
        (λ v has. apart_of (now (2 * slot + 1)) value e (sym (rely'.held (2 * slot + 1) value_held)
        ∙ has)) on

    by_state : (now : Memory) → Rely (multiset h) s k shown now
        → ((then_ : Memory) → Rely (multiset h) s k shown then_
        → On h s k left slot value ended then_) → (b : Bool) → (shown (2 * slot) == 2) ≡ b
        → DoesRight (multiset h) s k now
        (cond b (compare slot value (ended (Some slot)) (search_from left (slot + 1) value ended))
        (search_from left (slot + 1) value ended))
    by_state now rely on true e = load_right (multiset h) s k now (2 * slot + 1)
        (λ loaded. cond (loaded == value) (ended (Some slot))
        (search_from left (slot + 1) value ended)) value_held out
        (λ then_ rely'. by_value now rely (same_of (shown (2 * slot)) 2 e) then_ rely'
        (on then_ (rely_more (multiset h) s k shown now then_ rely rely'))
        (now (2 * slot + 1) == value) refl)
    by_state now rely on false e = later now rely
        (λ valid has. apart_of (shown (2 * slot)) 2 e valid) (on now rely)
