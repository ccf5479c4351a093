-- Proofs of laws that an impl in src/ names: no contract says what is defined here. What each
-- correct procedure has done when it is over, played alone from a memory that represents a state.
use Rattle.std.proofs.Common.{◌≡◌, ◌≢◌, ℕ, ◌+◌, ◌-◌, ◌*◌, ◌%◌, ◌/◌, ◌<◌, ◌≤◌, ◌⊎◌, inl, inr, min}
use Rattle.std.proofs.Common.{max, Bool, true, false, cond, [], ◌∷◌, Option, Some, None, refl, ap}
use Rattle.std.proofs.Common.{◌∙◌, sym, subst, arith}
use Rattle.std.specs.Prelude.{◌==◌, ◌&&◌, nat_le}
use Rattle.std.proofs.lemmas.Bool.Decides.{nat_tests}
use Rattle.vyrd_base.specs.declared.header.Header.{Header}
use Rattle.vyrd_base.specs.declared.subject.Subject.TheVariants.{Multiset}
use Rattle.vyrd_base.specs.Subjects.{is_built_in}
use Rattle.vyrd_base.specs.Amounts.{Amounts, amount_of, with_amount, plus_amount, given}
use Rattle.vyrd_base.specs.declared.log.Kind.TheVariants.{BlockOpen, BlockCommit}
use Rattle.vyrd_base.proofs.HeaderLaws.{some_size}
use Rattle.vyrd_base.proofs.TestLaws.{same_of, apart_of}
use Rattle.vyrd_memory.specs.declared.act.Act.TheVariants.{Store, Mark}
use Rattle.vyrd_memory.specs.declared.op.Variant.TheVariants.{Correct}
use Rattle.vyrd_memory.specs.Scripts.{Script, perform, returns, gives_up}
use Rattle.vyrd_memory.specs.Alone.{Memory, with_cell, alone}
use Rattle.vyrd_memory.proofs.Memories.{changed_cell, other_cell}
use Rattle.vyrd_memory.proofs.AloneLaws.{EndsSo, take_played, given_back}
use Rattle.vyrd_multiset.specs.Cells.{bucket_of, first_slot, state_cell, lock_of, lock, unlock}
use Rattle.vyrd_multiset.specs.Cells.{lock_other}
use Rattle.vyrd_multiset.specs.Procedures.{validate_both, find_from, find, commit_state}
use Rattle.vyrd_multiset.specs.Procedures.{inserted, insert, commit_both, second_found, first_found}
use Rattle.vyrd_multiset.specs.Procedures.{insert_pair, search_from, search_in, deleted, delete}
use Rattle.vyrd_multiset.specs.Procedures.{looked_up, lookup}
use Rattle.vyrd_multiset.specs.Room.{free_slots_for, has_room_for_both}
use Rattle.vyrd_multiset.specs.Laws.Sound.{bucket_low}
use Rattle.vyrd_multiset.specs.Contents.{IsMultiset}
use Rattle.vyrd_multiset.specs.Laws.Alone.Changes.{changed, made_valid, left_invalid, made_free}
use Rattle.vyrd_multiset.specs.Laws.Alone.Changes.{is_there, isnt_there}
use Rattle.vyrd_multiset.specs.Laws.Alone.Played.{with_reserved}
use Rattle.vyrd_multiset.specs.Laws.Alone.Played.{find_from_played, search_from_played}
use Rattle.vyrd_multiset.specs.Laws.Alone.FreeSlots.{free_none, free_some, free_two}
use Rattle.vyrd_multiset.specs.Laws.Alone.FreeSlots.{free_one_at_most}

-- the same memory
kept : (h : Header) → h.subject ≡ Multiset → (before after : Memory) (s : Amounts)
    → IsMultiset h before s
    → ((cell : ℕ) → after cell ≡ before cell) → IsMultiset h after s
kept h is before after s m same =
    changed h before after s s 0 m (omega (arith, some_size h (ap is_built_in is)))
    (λ cell a b. same cell)
    (λ valid. ap (λ v. v % h.size) (same 1)
    ∙ m.sound 0 (omega (arith, some_size h (ap is_built_in is))) (sym (same 0) ∙ valid)) m.formed
    (λ q. ap (λ n. amount_of s q + n) (ap (λ a. given q (cond (a == 2) ((before 1, 1) ∷ []) []))
    (sym (same 0))
    ∙ ap (λ v. given q (cond (after 0 == 2) ((v, 1) ∷ []) [])) (sym (same 1))))

-- a slot was reserved for a value, and nothing else has changed
pub record Reserved (before after : Memory) (j value : ℕ) : Type 0 where
  pub state : after (2 * j) ≡ 1
  pub value_is : after (2 * j + 1) ≡ value
  pub others : (cell : ℕ) → cell ≢ 2 * j → cell ≢ 2 * j + 1 → after cell ≡ before cell

-- the lock of a bucket isn't a word of a slot
lock_is_high : (h : Header) (b j : ℕ) → j < 4 * h.size → 2 * j + 1 < lock_of h b
lock_is_high h b j low = omega arith

in_range : (h : Header) → h.subject ≡ Multiset → (value j : ℕ) → 4 * bucket_of h value ≤ j
    → j < 4 * bucket_of h value + 4
    → (j < 4 * h.size) × (j / 4 ≡ bucket_of h value)
in_range h is value j from to =
    let low = bucket_low h is value in (omega (arith, low), quarter (bucket_of h value) from to)
  where
    quarter : (b : ℕ) → 4 * b ≤ j → j < 4 * b + 4 → j / 4 ≡ b
    quarter b from to = omega arith

-- the slot that is reserved while the lock is held
reserved_under : (before : Memory) (lock c j value : ℕ) → before lock ≡ 0 → 2 * j + 1 < lock
    → Reserved before (with_cell (with_reserved (with_cell before lock (c + 1)) j value) lock 0) j
    value
reserved_under before lock c j value free high = record {
  state =
      other_cell (with_reserved (with_cell before lock (c + 1)) j value) lock 0 (2 * j)
      (omega (arith, high))
      ∙ changed_cell (with_cell (with_cell before lock (c + 1)) (2 * j + 1) value) (2 * j) 1;
  value_is =
      other_cell (with_reserved (with_cell before lock (c + 1)) j value) lock 0 (2 * j + 1)
      (omega (arith, high))
      ∙ other_cell (with_cell (with_cell before lock (c + 1)) (2 * j + 1) value) (2 * j) 1
      (2 * j + 1) (omega arith)
      ∙ changed_cell (with_cell before lock (c + 1)) (2 * j + 1) value;
  others = λ cell a b. given_back before (with_reserved (with_cell before lock (c + 1)) j value)
      lock cell free
      (λ apart. other_cell (with_cell (with_cell before lock (c + 1)) (2 * j + 1) value) (2 * j) 1
      cell a
      ∙ other_cell (with_cell before lock (c + 1)) (2 * j + 1) value cell b
      ∙ other_cell before lock (c + 1) cell apart);
}

-- A slot is found and reserved, or the memory is as it was and no slot of the bucket is free.
find_played : (h : Header) → h.subject ≡ Multiset → (c : ℕ) (memory : Memory)
    (Q : ℕ → Memory → Type 0) (value : ℕ)
    (found : Option ℕ → Script)
    → memory (lock_of h (bucket_of h value)) ≡ 0
    → ((j : ℕ) (after : Memory) → 4 * bucket_of h value ≤ j → j < 4 * bucket_of h value + 4
    → memory (2 * j) ≡ 0 → Reserved memory after j value
    → EndsSo (alone c (found (Some j)) after) Q)
    → ((after : Memory) → ((cell : ℕ) → after cell ≡ memory cell)
    → ((j : ℕ) → 4 * bucket_of h value ≤ j → j < 4 * bucket_of h value + 4 → memory (2 * j) ≢ 0)
    → EndsSo (alone c (found None) after) Q)
    → EndsSo (alone c (find h Correct value found) memory) Q
find_played h is c memory Q value found free some none =
    let b : ℕ = bucket_of h value in
    let held : ℕ = lock_of h (bucket_of h value) in
    let locked : Memory = with_cell memory (lock_of h (bucket_of h value)) (c + 1) in
    take_played c held (find_from 4 (first_slot b) value (λ slot. unlock h b (found slot))) memory
    (λ o. EndsSo o Q) free
    (find_from_played c locked Q 4 (first_slot b) value (λ slot. unlock h b (found slot))
    (λ j from to is_free. some j (with_cell (with_reserved locked j value) held 0) from to
    (sym (untouched j from to) ∙ is_free)
    (reserved_under memory held c j value free
    (lock_is_high h b j (in_range h is value j from to).0)))
    (λ taken. none (with_cell locked held 0) (λ cell.
    given_back memory locked held cell free (λ apart. other_cell memory held (c + 1) cell
    apart)) (λ j from to is_free. taken j from to (untouched j from to ∙ is_free))))
  where
    untouched : (j : ℕ) → 4 * bucket_of h value ≤ j → j < 4 * bucket_of h value + 4
        → with_cell memory (lock_of h (bucket_of h value)) (c + 1) (2 * j) ≡ memory (2 * j)
    untouched j from to = other_cell memory (lock_of h (bucket_of h value)) (c + 1) (2 * j)
        (omega (arith, lock_is_high h (bucket_of h value) j (in_range h is value j from to).0))

-- the slot of an insert was made valid, or there is no free slot
abbrev pub InsertDone : Header → Memory → Amounts → ℕ → ℕ → Memory → Type 0
InsertDone h memory s x reply after =
    ((reply ≡ 1) × IsMultiset h after (plus_amount s x 1) × (1 ≤ free_slots_for h memory x))
    ⊎ ((reply ≡ 0) × IsMultiset h after s × (free_slots_for h memory x ≡ 0))

-- one slot gets a state while the lock is held
abbrev stored_under : Memory → ℕ → ℕ → ℕ → ℕ → Memory
stored_under memory lock c j state =
    with_cell (with_cell (with_cell memory lock (c + 1)) (2 * j) state) lock 0

stored_state : (memory : Memory) (lock c j state : ℕ) → 2 * j + 1 < lock
    → stored_under memory lock c j state (2 * j) ≡ state
stored_state memory lock c j state high =
    other_cell (with_cell (with_cell memory lock (c + 1)) (2 * j) state) lock 0 (2 * j)
    (omega (arith, high))
    ∙ changed_cell (with_cell memory lock (c + 1))
    (2 * j) state

stored_others : (memory : Memory) (lock c j state : ℕ) → memory lock ≡ 0 → (cell : ℕ) → cell ≢ 2 * j
    → stored_under memory lock c j state cell ≡ memory cell
stored_others memory lock c j state free cell a =
    given_back memory (with_cell (with_cell memory lock (c + 1)) (2 * j) state) lock cell free
    (λ apart. other_cell (with_cell memory lock (c + 1)) (2 * j) state cell a
    ∙ other_cell memory lock (c + 1) cell apart)

pub insert_done : (h : Header) → h.subject ≡ Multiset → (c : ℕ) (memory : Memory) (s : Amounts)
    (x : ℕ)
    → IsMultiset h memory s
    → EndsSo (alone c (insert h Correct x) memory) (InsertDone h memory s x)
insert_done h is c memory s x m =
    find_played h is c memory (InsertDone h memory s x) x (inserted h x)
    (m.free (bucket_of h x) (bucket_low h is x)) found
    (λ after same taken.
    inr (refl, kept h is memory after s m same, free_none memory 4 (4 * bucket_of h x) taken))
  where
    found : (j : ℕ) (after : Memory) → 4 * bucket_of h x ≤ j → j < 4 * bucket_of h x + 4
        → memory (2 * j) ≡ 0
        → Reserved memory after j x
        → EndsSo (alone c (inserted h x (Some j)) after) (InsertDone h memory s x)
    found j after from to is_free r =
        let held : ℕ = lock_of h (bucket_of h x) in
        let range = in_range h is x j from to in
        let high : 2 * j + 1 < lock_of h (bucket_of h x) =
        lock_is_high h (bucket_of h x) j range.0 in
        let free : after (lock_of h (bucket_of h x)) ≡ 0 =
        r.others held (omega (arith, high)) (omega (arith, high))
        ∙ m.free (bucket_of h x) (bucket_low h is x) in
        take_played c held (commit_state h (bucket_of h x) j 2) after
        (λ o. EndsSo o (InsertDone h memory s x)) free
        (inl (
          refl,
          made_valid h memory (stored_under after held c j 2) s j x m range.0
              (λ cell a b. stored_others after held c j 2 free cell a ∙ r.others cell a b)
              (omega (arith, is_free)) (stored_state after held c j 2 high)
              (stored_others after held c j 2 free (2 * j + 1) (omega arith) ∙ r.value_is) range.1,
          free_some memory 4 (4 * bucket_of h x) j from to is_free,
        ))

-- a value was removed, or isn't there
abbrev pub DeleteDone : Header → Amounts → ℕ → ℕ → Memory → Type 0
DeleteDone h s x reply after =
    ((reply ≡ 1) × IsMultiset h after (with_amount s x (amount_of s x - 1)) × (1 ≤ amount_of s x))
    ⊎ ((reply ≡ 0) × IsMultiset h after s × (amount_of s x ≡ 0))

-- it was said whether a value is there
abbrev pub LookupDone : Header → Amounts → ℕ → ℕ → Memory → Type 0
LookupDone h s x reply after = IsMultiset h after s
    × (((reply ≡ 1) × (1 ≤ amount_of s x)) ⊎ ((reply ≡ 0) × (amount_of s x ≡ 0)))

-- a search ends at a slot with the value, or the value isn't there
search_played : (h : Header) → h.subject ≡ Multiset → (c : ℕ) (memory : Memory) (s : Amounts)
    (Q : ℕ → Memory → Type 0)
    (x : ℕ) (ended : Option ℕ → Script)
    → IsMultiset h memory s
    → ((j : ℕ) → j < 4 * h.size → memory (2 * j) ≡ 2 → memory (2 * j + 1) ≡ x
    → EndsSo (alone c (ended (Some j)) (with_cell memory (lock_of h (bucket_of h x)) (c + 1))) Q)
    → (amount_of s x ≡ 0
    → EndsSo (alone c (ended None) (with_cell memory (lock_of h (bucket_of h x)) (c + 1))) Q)
    → EndsSo (alone c (search_in h x ended) memory) Q
search_played h is c memory s Q x ended m some none =
    let b : ℕ = bucket_of h x in
    let held : ℕ = lock_of h (bucket_of h x) in
    take_played c held (search_from 4 (first_slot b) x ended) memory (λ o. EndsSo o Q)
    (m.free b (bucket_low h is x))
    (search_from_played c (with_cell memory held (c + 1)) Q 4 (first_slot b) x ended
    (λ j from to valid has. some j (in_range h is x j from to).0
    (sym (untouched j from to).0 ∙ valid)
    (sym (untouched j from to).1 ∙ has))
    (λ no_slot. none (isnt_there h memory s x m (λ j from to valid has. no_slot j from to
    ((untouched j from to).0 ∙ valid) ((untouched j from to).1 ∙ has)))))
  where
    untouched : (j : ℕ) → 4 * bucket_of h x ≤ j → j < 4 * bucket_of h x + 4
        → (with_cell memory (lock_of h (bucket_of h x)) (c + 1) (2 * j) ≡ memory (2 * j)) ×
        (with_cell memory (lock_of h (bucket_of h x)) (c + 1) (2 * j + 1) ≡ memory (2 * j + 1))
    untouched j from to =
        let high = lock_is_high h (bucket_of h x) j (in_range h is x j from to).0 in (
          other_cell memory (lock_of h (bucket_of h x)) (c + 1) (2 * j) (omega (arith, high)),
          other_cell memory (lock_of h (bucket_of h x)) (c + 1) (2 * j + 1)
              (omega (arith, high)),
        )

unlocked : (memory : Memory) (lock c : ℕ) → memory lock ≡ 0 → (cell : ℕ)
    → with_cell (with_cell memory lock (c + 1)) lock 0 cell ≡ memory cell
unlocked memory lock c free cell =
    given_back memory (with_cell memory lock (c + 1)) lock cell free
    (λ apart. other_cell memory lock (c + 1) cell apart)

pub delete_done : (h : Header) → h.subject ≡ Multiset → (c : ℕ) (memory : Memory) (s : Amounts)
    (x : ℕ)
    → IsMultiset h memory s
    → EndsSo (alone c (delete h x) memory) (DeleteDone h s x)
delete_done h is c memory s x m =
    let held : ℕ = lock_of h (bucket_of h x) in
    let free : memory (lock_of h (bucket_of h x)) ≡ 0 = m.free (bucket_of h x)
    (bucket_low h is x) in
    search_played h is c memory s (DeleteDone h s x) x (deleted h x) m
    (λ j low valid has. inl (
      refl,
      made_free h memory (stored_under memory held c j 0) s j x m low
          (λ cell a b. stored_others memory held c j 0 free cell a) valid has
          (let state = stored_state memory held c j 0 (lock_is_high h (bucket_of h x) j low) in
          omega (arith, state)),
      is_there h memory s j x m low valid has,
    )) (λ none. inr (
      refl,
      kept h is memory (with_cell (with_cell memory held (c + 1)) held 0) s m
          (unlocked memory held c free),
      none,
    ))

pub lookup_done : (h : Header) → h.subject ≡ Multiset → (c : ℕ) (memory : Memory) (s : Amounts)
    (x : ℕ)
    → IsMultiset h memory s
    → EndsSo (alone c (lookup h x) memory) (LookupDone h s x)
lookup_done h is c memory s x m =
    let held : ℕ = lock_of h (bucket_of h x) in
    let free : memory (lock_of h (bucket_of h x)) ≡ 0 = m.free (bucket_of h x)
    (bucket_low h is x) in
    let same : IsMultiset h (with_cell (with_cell memory held (c + 1)) held 0) s =
    kept h is memory (with_cell (with_cell memory held (c + 1)) held 0) s m
    (unlocked memory held c free) in
    search_played h is c memory s (LookupDone h s x) x (looked_up h x) m
    (λ j low valid has. (same, inl (refl, is_there h memory s j x m low valid has)))
    (λ none. (same, inr (refl, none)))

-- both slots of a pair were made valid, or there is no room for both
abbrev pub PairDone : Header → Memory → Amounts → ℕ → ℕ → ℕ → Memory → Type 0
PairDone h memory s x y reply after =
    ((reply ≡ 1) × IsMultiset h after (plus_amount (plus_amount s x 1) y 1)
    × (has_room_for_both h memory x y ≡ true))
    ⊎ ((reply ≡ 0) × IsMultiset h after s × (has_room_for_both h memory x y ≡ false))

-- two slots become valid, and no other cell changes
both_valid : (h : Header) (before after : Memory) (s : Amounts) (x y j k : ℕ)
    → IsMultiset h before s → j < 4 * h.size → k < 4 * h.size → j ≢ k → before (2 * j) ≡ 1
    → before (2 * j + 1) ≡ x → j / 4 ≡ bucket_of h x → before (2 * k) ≡ 1 → before (2 * k + 1) ≡ y
    → k / 4 ≡ bucket_of h y → after (2 * j) ≡ 2 → after (2 * k) ≡ 2
    → ((cell : ℕ) → cell ≢ 2 * j → cell ≢ 2 * k → after cell ≡ before cell)
    → IsMultiset h after (plus_amount (plus_amount s x 1) y 1)
both_valid h before after s x y j k m low_j low_k apart state_j value_j of_j state_k value_k of_k
    after_j after_k others =
    made_valid h (with_cell before (2 * j) 2) after (plus_amount s x 1) k y
    (made_valid h before (with_cell before (2 * j) 2) s j x m low_j
    (λ cell a b. other_cell before (2 * j) 2 cell a) (omega (arith, state_j))
    (changed_cell before (2 * j) 2)
    (other_cell before (2 * j) 2 (2 * j + 1) (omega arith) ∙ value_j) of_j) low_k
    (λ cell a b. by_place cell a (cell == 2 * j) refl)
    (let state : with_cell before (2 * j) 2 (2 * k) ≡ 1 =
    other_cell before (2 * j) 2 (2 * k) (omega (arith, apart)) ∙ state_k in
    omega (arith, state)) after_k (others (2 * k + 1) (omega arith) (omega arith) ∙ value_k) of_k
  where
    by_place : (cell : ℕ) → cell ≢ 2 * k → (b : Bool) → (cell == 2 * j) ≡ b
        → after cell ≡ with_cell before (2 * j) 2 cell
    by_place cell a true e =
        let at : cell ≡ 2 * j = same_of cell (2 * j) e in
        subst (λ n. after n ≡ with_cell before (2 * j) 2 n) (sym at)
        (after_j ∙ sym (changed_cell before (2 * j) 2))
    by_place cell a false e =
        let off : cell ≢ 2 * j = apart_of cell (2 * j) e in
        others cell off a ∙ sym (other_cell before (2 * j) 2 cell off)

no_room : (h : Header) (memory : Memory) (x y : ℕ) → free_slots_for h memory x ≡ 0
    → has_room_for_both h memory x y ≡ false
no_room h memory x y none = by_bucket (bucket_of h x == bucket_of h y)
  where
    by_bucket : (b : Bool)
        → cond b (nat_le 2 (free_slots_for h memory x))
        (nat_le 1 (free_slots_for h memory x) && nat_le 1 (free_slots_for h memory y))
        ≡ false
    by_bucket true = ap (nat_le 2) none
    by_bucket false = ap (λ n. nat_le 1 n && nat_le 1 (free_slots_for h memory y)) none

room : (h : Header) (memory : Memory) (x y j k : ℕ) → 4 * bucket_of h x ≤ j
    → j < 4 * bucket_of h x + 4 → 4 * bucket_of h y ≤ k → k < 4 * bucket_of h y + 4 → j ≢ k
    → memory (2 * j) ≡ 0 → memory (2 * k) ≡ 0
    → has_room_for_both h memory x y ≡ true
room h memory x y j k from_j to_j from_k to_k apart free_j free_k =
    by_bucket (bucket_of h x == bucket_of h y) refl
  where
    at_least : (m n : ℕ) → m ≤ n → nat_le m n ≡ true
    at_least m n le = grind (arith, nat_tests)

    by_bucket : (b : Bool) → (bucket_of h x == bucket_of h y) ≡ b
        → cond b (nat_le 2 (free_slots_for h memory x))
        (nat_le 1 (free_slots_for h memory x) && nat_le 1 (free_slots_for h memory y))
        ≡ true
    by_bucket true e =
        let one : bucket_of h x ≡ bucket_of h y = same_of (bucket_of h x) (bucket_of h y) e in
        at_least 2 (free_slots_for h memory x)
        (free_two memory 4 (4 * bucket_of h x) j k from_j to_j (omega (arith, from_k, one))
        (omega (arith, to_k, one)) apart free_j free_k)
    by_bucket false e =
        ap (λ b. b && nat_le 1 (free_slots_for h memory y))
        (at_least 1 (free_slots_for h memory x)
        (free_some memory 4 (4 * bucket_of h x) j from_j to_j free_j))
        ∙ at_least 1 (free_slots_for h memory y)
        (free_some memory 4 (4 * bucket_of h y) k from_k to_k free_k)

-- one slot was found for x, and then none for y
one_room : (h : Header) (memory : Memory) (x y j : ℕ) → 4 * bucket_of h x ≤ j
    → j < 4 * bucket_of h x + 4
    → ((k : ℕ) → 4 * bucket_of h y ≤ k → k < 4 * bucket_of h y + 4 → k ≢ j → memory (2 * k) ≢ 0)
    → has_room_for_both h memory x y ≡ false
one_room h memory x y j from_j to_j taken = by_bucket (bucket_of h x == bucket_of h y) refl
  where
    at_most_one : (n : ℕ) → n ≤ 1 → nat_le 2 n ≡ false
    at_most_one n le = grind (arith, nat_tests)

    and_none : (b : Bool) (n : ℕ) → n ≡ 0 → (b && nat_le 1 n) ≡ false
    and_none true n e = ap (nat_le 1) e
    and_none false n e = refl

    by_bucket : (b : Bool) → (bucket_of h x == bucket_of h y) ≡ b
        → cond b (nat_le 2 (free_slots_for h memory x))
        (nat_le 1 (free_slots_for h memory x) && nat_le 1 (free_slots_for h memory y))
        ≡ false
    by_bucket true e =
        let one : bucket_of h x ≡ bucket_of h y = same_of (bucket_of h x) (bucket_of h y) e in
        at_most_one (free_slots_for h memory x)
        (free_one_at_most memory 4 (4 * bucket_of h x) j
        (λ k from to. taken k (omega (arith, from, one)) (omega (arith, to, one))))
    by_bucket false e =
        let other : bucket_of h x ≢ bucket_of h y = apart_of (bucket_of h x) (bucket_of h y) e in
        and_none (nat_le 1 (free_slots_for h memory x)) (free_slots_for h memory y)
        (free_none memory 4 (4 * bucket_of h y)
        (λ k from to. taken k from to (omega (arith, from, to, from_j, to_j, other))))

-- two slots get the state 2
abbrev stored : Memory → ℕ → ℕ → Memory
stored memory j k = with_cell (with_cell memory (2 * j) 2) (2 * k) 2

-- what is done under both locks, by whether the second bucket is the same
abbrev validated : Header → ℕ → ℕ → ℕ → ℕ → Bool → Script
validated h first second j k same =
    perform (Mark BlockOpen)
    (perform (Store (state_cell j) 2)
    (perform (Store (state_cell k) 2) (perform (Mark BlockCommit)
    (cond same (unlock h first (returns 1)) (unlock h second (unlock h first (returns 1)))))))

-- what is done under the first lock, by whether the second bucket is the same
abbrev under_first : Header → ℕ → ℕ → ℕ → ℕ → Bool → Script
under_first h first second j k same = cond same (validated h first second j k same)
    (lock h second (validated h first second j k same))

-- two slots get the state 2 under the locks of two buckets, which may be one
commit_both_played : (h : Header) (c : ℕ) (before : Memory) (Q : ℕ → Memory → Type 0)
    (first second j k : ℕ)
    → before (lock_of h first) ≡ 0 → before (lock_of h second) ≡ 0 → 2 * j + 1 < 8 * h.size
    → 2 * k + 1 < 8 * h.size → j ≢ k
    → ((after : Memory) → after (2 * j) ≡ 2 → after (2 * k) ≡ 2
    → ((cell : ℕ) → cell ≢ 2 * j → cell ≢ 2 * k → after cell ≡ before cell) → Q 1 after)
    → EndsSo (alone c (commit_both h first second j k) before) Q
commit_both_played h c before Q first second j k free_first free_second low_j low_k apart done =
    take_played c (lock_of h first) (lock_other h first second (validate_both h first second j k))
    before (λ o. EndsSo o Q) free_first
    (by_test (first == second) refl)
  where
    by_test : (same : Bool) → (first == second) ≡ same
        → EndsSo (alone c (under_first h first second j k same)
        (with_cell before (lock_of h first) (c + 1))) Q
    by_test true e =
        let f : ℕ = lock_of h first in
        let held : Memory = with_cell before (lock_of h first) (c + 1) in
        done (with_cell (stored held j k) f 0)
        (other_cell (stored held j k) f 0 (2 * j) (omega (arith, low_j))
        ∙ other_cell (with_cell held (2 * j) 2) (2 * k) 2 (2 * j) (omega (arith, apart))
        ∙ changed_cell held (2 * j) 2)
        (other_cell (stored held j k) f 0 (2 * k) (omega (arith, low_k))
        ∙ changed_cell (with_cell held (2 * j) 2) (2 * k) 2)
        (λ cell a b. given_back before (stored held j k) f cell free_first (λ off.
        other_cell (with_cell held (2 * j) 2) (2 * k) 2 cell b ∙ other_cell held (2 * j) 2 cell a
        ∙ other_cell before f (c + 1) cell off))
    by_test false e =
        let f : ℕ = lock_of h first in
        let g : ℕ = lock_of h second in
        let other : first ≢ second = apart_of first second e in
        let held : Memory = with_cell before (lock_of h first) (c + 1) in
        let both : Memory =
        with_cell (with_cell before (lock_of h first) (c + 1)) (lock_of h second) (c + 1) in
        take_played c g (validated h first second j k false) held (λ o. EndsSo o Q)
        (other_cell before f (c + 1) g (omega (arith, other)) ∙ free_second)
        (done (with_cell (with_cell (stored both j k) g 0) f 0)
        (other_cell (with_cell (stored both j k) g 0) f 0 (2 * j) (omega (arith, low_j))
        ∙ other_cell (stored both j k) g 0 (2 * j) (omega (arith, low_j))
        ∙ other_cell (with_cell both (2 * j) 2) (2 * k) 2 (2 * j) (omega (arith, apart))
        ∙ changed_cell both (2 * j) 2)
        (other_cell (with_cell (stored both j k) g 0) f 0 (2 * k) (omega (arith, low_k))
        ∙ other_cell (stored both j k) g 0 (2 * k) (omega (arith, low_k))
        ∙ changed_cell (with_cell both (2 * j) 2) (2 * k) 2)
        (λ cell a b. given_back before (with_cell (stored both j k) g 0) f cell free_first (λ off_f.
        given_back before (stored both j k) g cell free_second (λ off_g.
        other_cell (with_cell both (2 * j) 2) (2 * k) 2 cell b ∙ other_cell both (2 * j) 2 cell a
        ∙ other_cell held g (c + 1) cell off_g ∙ other_cell before f (c + 1) cell off_f))))

pub pair_done : (h : Header) → h.subject ≡ Multiset → (c : ℕ) (memory : Memory) (s : Amounts)
    (x y : ℕ)
    → IsMultiset h memory s
    → EndsSo (alone c (insert_pair h Correct x y) memory) (PairDone h memory s x y)
pair_done h is c memory s x y m =
    find_played h is c memory (PairDone h memory s x y) x (first_found h Correct x y)
    (m.free (bucket_of h x) (bucket_low h is x)) first
    (λ after same taken. inr (
      refl,
      kept h is memory after s m same,
      no_room h memory x y (free_none memory 4 (4 * bucket_of h x) taken),
    ))
  where
    -- a slot was found for x
    first : (j : ℕ) (after : Memory) → 4 * bucket_of h x ≤ j → j < 4 * bucket_of h x + 4
        → memory (2 * j) ≡ 0
        → Reserved memory after j x
        → EndsSo (alone c (first_found h Correct x y (Some j)) after) (PairDone h memory s x y)
    first j after from to is_free r =
        find_played h is c after (PairDone h memory s x y) y (second_found h Correct x y j)
        (m'.free (bucket_of h y) (bucket_low h is y)) second no_second
      where
        range : (j < 4 * h.size) × (j / 4 ≡ bucket_of h x)
        range = in_range h is x j from to

        m' : IsMultiset h after s
        m' = left_invalid h memory after s j m range.0 r.others (omega (arith, is_free))
            (let state = r.state in omega (arith, state))

        -- a slot was found for y too
        second : (k : ℕ) (last : Memory) → 4 * bucket_of h y ≤ k → k < 4 * bucket_of h y + 4
            → after (2 * k) ≡ 0 → Reserved after last k y
            → EndsSo (alone c (second_found h Correct x y j (Some k)) last)
            (PairDone h memory s x y)
        second k last from_k to_k free_k r' =
            commit_both_played h c last (PairDone h memory s x y) (min p q) (max p q) j k
            (m''.free (min p q) (omega (arith, low_p, low_q)))
            (m''.free (max p q) (omega (arith, low_p, low_q)))
            (omega (arith, range.0)) (omega (arith, range_k.0)) apart
            (λ end end_j end_k others. inl (
              refl,
              both_valid h last end s x y j k m'' range.0 range_k.0 apart
                  (r'.others (2 * j) (omega (arith, apart)) (omega (arith, apart)) ∙ r.state)
                  (r'.others (2 * j + 1) (omega (arith, apart)) (omega (arith, apart))
                  ∙ r.value_is) range.1
                  r'.state r'.value_is range_k.1 end_j end_k others,
              room h memory x y j k from to from_k to_k apart is_free
                  (sym (r.others (2 * k) (omega (arith, apart)) (omega (arith, apart))) ∙ free_k),
            ))
          where
            p : ℕ
            p = bucket_of h x

            q : ℕ
            q = bucket_of h y

            low_p : p < h.size
            low_p = bucket_low h is x

            low_q : q < h.size
            low_q = bucket_low h is y

            range_k : (k < 4 * h.size) × (k / 4 ≡ bucket_of h y)
            range_k = in_range h is y k from_k to_k

            apart : j ≢ k
            apart same = let state = r.state in
                let there : after (2 * j) ≡ after (2 * k) = ap (λ n. after (2 * n)) same in
                omega (arith, state, there, free_k)

            m'' : IsMultiset h last s
            m'' = left_invalid h after last s k m' range_k.0 r'.others (omega (arith, free_k))
                (let state = r'.state in omega (arith, state))

        -- no slot was found for y: that of x is freed
        no_second : (last : Memory) → ((cell : ℕ) → last cell ≡ after cell)
            → ((k : ℕ) → 4 * bucket_of h y ≤ k → k < 4 * bucket_of h y + 4 → after (2 * k) ≢ 0)
            → EndsSo (alone c (second_found h Correct x y j None) last)
            (PairDone h memory s x y)
        no_second last same taken =
            take_played c held (perform (Store (state_cell j) 0)
            (unlock h (bucket_of h x) gives_up)) last (λ o. EndsSo o (PairDone h memory s x y)) free
            (inr (
              refl,
              left_invalid h memory (stored_under last held c j 0) s j m range.0
                  (λ cell a b. stored_others last held c j 0 free cell a ∙ same cell
                  ∙ r.others cell a b)
                  (omega (arith, is_free))
                  (let state = stored_state last held c j 0
                  (lock_is_high h (bucket_of h x) j range.0) in
                  omega (arith, state)),
              one_room h memory x y j from to
                  (λ k from_k to_k apart free_k. taken k from_k to_k
                  (r.others (2 * k) (omega (arith, apart)) (omega (arith, apart)) ∙ free_k)),
            ))
          where
            held : ℕ
            held = lock_of h (bucket_of h x)

            free : last (lock_of h (bucket_of h x)) ≡ 0
            free = same (lock_of h (bucket_of h x)) ∙ m'.free (bucket_of h x) (bucket_low h is x)
