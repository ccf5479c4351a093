-- Proofs of laws that an impl in src/ names: no contract says what is defined here.
-- The blocks of the procedures, played alone: what they leave in memory.
use Rattle.std.proofs.Common.{◌≡◌, ◌≢◌, ℕ, ◌+◌, ◌*◌, ◌<◌, ◌≤◌, ◌⊎◌, inl, inr, Bool, true, false}
use Rattle.std.proofs.Common.{cond, ◌++◌, length, Option, refl, ap, ◌∙◌, sym, subst, arith}
use Rattle.std.specs.Prelude.{◌==◌, nat_le}
use Rattle.std.proofs.Math.Path.{fun_ext}
use Rattle.std.proofs.lemmas.Bool.Decides.{nat_tests}
use Rattle.vyrd_base.specs.declared.header.Header.{Header}
use Rattle.vyrd_base.specs.declared.log.Kind.{Kind}
use Rattle.vyrd_base.specs.Amounts.{Amounts, amount_of}
use Rattle.vyrd_base.proofs.TestLaws.{same_of, apart_of}
use Rattle.vyrd_memory.specs.declared.act.Act.TheVariants.{Load, Store, Mark}
use Rattle.vyrd_memory.specs.Scripts.{Script, step, perform}
use Rattle.vyrd_memory.specs.Alone.{Memory, with_cell, Outcome, after_kind, alone}
use Rattle.vyrd_memory.proofs.Memories.{changed_cell, other_cell}
use Rattle.vyrd_tree.specs.Laws.Alone.Counts.{le_or}
use Rattle.vyrd_tree.specs.Contents.{level_at, last_in, entries_at, entries_from, Covers, Entries}
use Rattle.vyrd_tree.specs.Contents.{gives, ShowsBy, TreeRepresents}
use Rattle.vyrd_tree.specs.Laws.Alone.Entries.{drop_front}
use Rattle.vyrd_tree.specs.Laws.Alone.EntriesStaySound.{length_join}
use Rattle.vyrd_tree.specs.Laws.Alone.Changes.{SameWords, same_words_tree, same_words_entries}
use Rattle.vyrd_tree.specs.Laws.Alone.Changes.{covers_same, entries_alike, Rewritten}
use Rattle.vyrd_memory.proofs.AloneLaws.{take_played}
use Rattle.vyrd_tree.specs.Laws.Alone.Played.{unlocked, Written, entries_written}
use Rattle.vyrd_tree.specs.Laws.Alone.Played.{front_stands}
use Rattle.vyrd_tree.specs.Laws.Alone.WalkArrives.{with_lock, locked_words}
use Rattle.vyrd_tree.specs.Cells.{count_cell, used_cell, used_lock, lock_of, unlock_node}
use Rattle.vyrd_tree.specs.Cells.{unlock_used}
use Rattle.vyrd_tree.specs.Procedures.Split.{with_unused, write_entries, rewrite}

-- the same state if the plain words are the same
pub shows_same_words : (size : ℕ) (m m' : Memory) (low : ℕ → ℕ) (s : Amounts) → SameWords size m m'
    → ShowsBy size m low s → ShowsBy size m' low s
shows_same_words size m m' low s same st = record {
  tree = same_words_tree size m m' low same st.tree;
  shows = λ q n used leaf over. shows q n
      (let last = same (12 * size + 1) (omega arith) in omega (arith, used, last)) leaf over;
  formed = st.formed;
}
  where
    shows : (q n : ℕ) → n ≤ last_in size m → level_at m' n ≡ 0 → Covers m' low n q
        → amount_of s q ≡ gives q (entries_at m' n)
    shows q n used leaf over =
        let t = st.tree in
        let fits : n < size = (let fits = t.last_low in omega (arith, used)) in
        st.shows q n used (sym (same (12 * n + 0) (omega arith))
        ∙ leaf) (covers_same size m' m low n q (λ cell small. sym (same cell small)) fits over)
        ∙ ap (gives q) (sym (same_words_entries size m m' same n fits (t.few n used)))

-- all locks but this one are free
abbrev pub FreeBut : Header → Memory → ℕ → Type 0
FreeBut h m held =
    (lock : ℕ) → 12 * h.size + 2 ≤ lock → lock < 13 * h.size + 4 → lock ≢ held → m lock ≡ 0

-- all locks are free
abbrev pub FreeAll : Header → Memory → Type 0
FreeAll h m = (lock : ℕ) → 12 * h.size + 2 ≤ lock → lock < 13 * h.size + 4 → m lock ≡ 0

-- the last lock is given back
pub all_free : (h : Header) (m : Memory) (held : ℕ) → FreeBut h m held
    → FreeAll h (with_cell m held 0)
all_free h m held free lock from to = by_place (lock == held) refl
  where
    by_place : (b : Bool) → (lock == held) ≡ b → with_cell m held 0 lock ≡ 0
    by_place true e = ap (with_cell m held 0) (same_of lock held e) ∙ changed_cell m held 0
    by_place false e =
        let apart = apart_of lock held e in other_cell m held 0 lock apart ∙ free lock from to apart

pub released_words : (h : Header) (m : Memory) (held : ℕ) → 12 * h.size + 2 ≤ held
    → SameWords h.size m (with_cell m held 0)
released_words h m held high cell small = other_cell m held 0 cell (omega (arith, small, high))

pub released : (h : Header) (m : Memory) (low : ℕ → ℕ) (s : Amounts) (held : ℕ)
    → 12 * h.size + 2 ≤ held → ShowsBy h.size m low s → FreeBut h m held
    → TreeRepresents h (with_cell m held 0) s
released h m low s held high st free = record {
  low = low;
  held = shows_same_words h.size m (with_cell m held 0) low s (released_words h m held high) st;
  free = all_free h m held free;
}

-- a node with its lock held, in a memory that is otherwise one that represents a state
pub record IsAt (h : Header) (m : Memory) (low : ℕ → ℕ) (s : Amounts)
    (n key level : ℕ) : Type 0 where
  pub shown : ShowsBy h.size m low s
  pub in_use : n ≤ last_in h.size m
  pub level_is : level_at m n ≡ level
  pub covers : Covers m low n key
  pub free : FreeBut h m (lock_of h n)

pub is_at : (h : Header) (c : ℕ) (m : Memory) (s : Amounts) (st : TreeRepresents h m s)
    (n key level : ℕ)
    → n ≤ last_in h.size m → level_at m n ≡ level
    → Covers m st.low n key
    → IsAt h (with_lock h c m n) st.low s n key level
is_at h c m s st n key level used level_is over = record {
  shown = shows_same_words h.size m (with_lock h c m n) st.low s (locked_words h c m n) st.held;
  in_use = (let last = locked_words h c m n (12 * h.size + 1) (omega arith) in
      omega (arith, used, last));
  level_is = locked_words h c m n (12 * n + 0) (omega (arith, used, fits)) ∙ level_is;
  covers = covers_same h.size m (with_lock h c m n) st.low n key (locked_words h c m n)
      (omega (arith, used, fits)) over;
  free = λ lock from to apart. other_cell m (lock_of h n) (c + 1) lock apart ∙ st.free lock from to;
}
  where
    fits : last_in h.size m < h.size
    fits = st.held.tree.last_low

-- the locks are as they were
abbrev pub SameLocks : Header → Memory → Memory → Type 0
SameLocks h m m' = (cell : ℕ) → 12 * h.size + 2 ≤ cell → m' cell ≡ m cell

pub still_free : (h : Header) (m m' : Memory) (held : ℕ) → SameLocks h m m' → FreeBut h m held
    → FreeBut h m' held
still_free h m m' held same free lock from to apart = same lock from ∙ free lock from to apart

-- marks that don't end an operation
abbrev pub GoesOn : Kind → Type 0
GoesOn kind = (m : Memory) (later : Option Outcome) → after_kind kind m later ≡ later

-- Entries are written from a place on, where the ones before it stand already, and then the count:
-- the node has these entries.
pub rewritten : (h : Header) (c : ℕ) (m : Memory) (Q : Option Outcome → Type 0) (node : ℕ)
    (many : ℕ) (front back xs : Entries) (close : Kind) (later : Script)
    → GoesOn close → node < h.size → entries_from m node 0 many ≡ front ++ back
    → length (front ++ xs) ≤ 4
    → ((m' : Memory) → Rewritten h.size m m' node (front ++ xs) → SameLocks h m m'
    → Q (alone c later (with_cell m' (lock_of h node) 0)))
    → Q (alone c (rewrite h node (length front) (front ++ xs) close later) m)
rewritten h c m Q node many front back xs close later closes fits before few goes_on =
    subst (λ ys. Q (alone c (write_entries node (length front) ys counted) m))
    (sym (drop_front front xs))
    (entries_written c m Q node (length front) xs counted (omega (arith, few, parts))
    (λ m' w. written m' w))
  where
    parts : length (front ++ xs) ≡ length front + length xs
    parts = length_join front xs

    counted : Script
    counted = perform (Store (count_cell node) (length (front ++ xs)))
        (perform (Mark close) (unlock_node h node later))

    written : (m' : Memory) → Written m m' node (length front) xs → Q (alone c counted m')
    written m' w =
        subst Q (sym (closes end (alone c (unlock_node h node later) end)))
        (goes_on end (record {
          others = λ cell small off. other_cell m' (12 * node + 1) (length (front ++ xs)) cell
              (not_count cell off)
              ∙ w.others cell (λ j from to. not_entry cell off j (omega (arith, to, few, parts)));
          bound_is =
              other_cell m' (12 * node + 1) (length (front ++ xs)) (12 * node + 2) (omega arith)
              ∙ w.others (12 * node + 2) (λ j from to. (omega arith, omega arith));
          right_is =
              other_cell m' (12 * node + 1) (length (front ++ xs)) (12 * node + 3) (omega arith)
              ∙ w.others (12 * node + 3) (λ j from to. (omega arith, omega arith));
          few = (let count = changed_cell m' (12 * node + 1) (length (front ++ xs)) in
              omega (arith, count, few));
          entries = ap (entries_from end node 0)
              (changed_cell m' (12 * node + 1) (length (front ++ xs)) ∙ parts)
              ∙ entries_alike m' end node 0 (length front + length xs) (λ j from to. (
                other_cell m' (12 * node + 1) (length (front ++ xs)) (12 * node + (4 + j))
                    (omega arith),
                other_cell m' (12 * node + 1) (length (front ++ xs)) (12 * node + (8 + j))
                    (omega arith),
              ))
              ∙ front_stands m m' node many front back xs before w (omega (arith, few, parts));
        }) (λ cell high. other_cell m' (12 * node + 1) (length (front ++ xs)) cell
        (omega (arith, high, fits))
        ∙ w.others cell (λ j from to.
        (omega (arith, high, fits, to, few, parts), omega (arith, high, fits, to, few, parts)))))
      where
        end : Memory
        end = with_cell m' (12 * node + 1) (length (front ++ xs))

        not_count : (cell : ℕ) → (cell < 12 * node + 1) ⊎ (12 * node + 12 ≤ cell)
            → cell ≢ 12 * node + 1
        not_count cell (inl lt) = omega (arith, lt)
        not_count cell (inr le) = omega (arith, le)

        not_entry : (cell : ℕ) → (cell < 12 * node + 1) ⊎ (12 * node + 12 ≤ cell) → (j : ℕ) → j < 4
            → (cell ≢ 12 * node + (4 + j)) × (cell ≢ 12 * node + (8 + j))
        not_entry cell (inl lt) j low = (omega (arith, lt), omega (arith, lt))
        not_entry cell (inr le) j low = (omega (arith, le, low), omega (arith, le, low))

-- an unused node is got, or there is none
pub unused_played : (h : Header) (c : ℕ) (m : Memory) (Q : Option Outcome → Type 0) (none : Script)
    (found : ℕ → Script)
    → m (used_lock h) ≡ 0
    → (h.size ≤ last_in h.size m + 1 → Q (alone c none m))
    → (last_in h.size m + 1 < h.size
    → Q (alone c (found (last_in h.size m + 1)) (with_cell m (used_cell h) (last_in h.size m + 1))))
    → Q (alone c (with_unused h none found) m)
unused_played h c m Q none found free at_none at_some =
    take_played c (used_lock h) under m Q free
    (subst (λ used. Q (alone c (by_test used (nat_le h.size (used + 1))) locked)) (sym used_is)
    (by_room (le_or h.size (last_in h.size m + 1))))
  where
    locked : Memory
    locked = with_cell m (used_lock h) (c + 1)

    by_test : ℕ → Bool → Script
    by_test used full = cond full (unlock_used h none)
        (perform (Store (used_cell h) (used + 1)) (unlock_used h (found (used + 1))))

    under : Script
    under = step (Load (used_cell h)) (λ used. by_test used (nat_le h.size (used + 1)))

    used_is : locked (used_cell h) ≡ last_in h.size m
    used_is = other_cell m (used_lock h) (c + 1) (12 * h.size + 1) (omega arith)

    is_le : (a b : ℕ) → a ≤ b → nat_le a b ≡ true
    is_le a b le = grind (arith, nat_tests)

    isnt_le : (a b : ℕ) → b < a → nat_le a b ≡ false
    isnt_le a b le = grind (arith, nat_tests)

    stored : (v : ℕ)
        → with_cell (with_cell (with_cell m (used_lock h) (c + 1)) (used_cell h) v) (used_lock h) 0
        ≡ with_cell m (used_cell h) v
    stored v = fun_ext (λ cell. by_place cell (cell == used_lock h) refl)
      where
        by_place : (cell : ℕ) (b : Bool) → (cell == used_lock h) ≡ b
            → with_cell (with_cell (with_cell m (used_lock h) (c + 1)) (used_cell h) v)
            (used_lock h) 0 cell
            ≡ with_cell m (used_cell h) v cell
        by_place cell true e =
            let at : cell ≡ used_lock h = same_of cell (used_lock h) e in
            ap (with_cell (with_cell (with_cell m (used_lock h) (c + 1)) (used_cell h) v)
            (used_lock h) 0) at
            ∙ changed_cell (with_cell (with_cell m (used_lock h) (c + 1)) (used_cell h) v)
            (used_lock h) 0
            ∙ sym free ∙ sym (other_cell m (used_cell h) v (used_lock h) (omega arith))
            ∙ sym (ap (with_cell m (used_cell h) v) at)
        by_place cell false e =
            let apart = apart_of cell (used_lock h) e in
            other_cell (with_cell (with_cell m (used_lock h) (c + 1)) (used_cell h) v) (used_lock h)
            0 cell apart
            ∙ ap (λ a. cond (cell == used_cell h) v a)
            (other_cell m (used_lock h) (c + 1) cell apart)

    by_room : (h.size ≤ last_in h.size m + 1) ⊎ (last_in h.size m + 1 < h.size)
        → Q (alone c (by_test (last_in h.size m) (nat_le h.size (last_in h.size m + 1))) locked)
    by_room (inl full) =
        subst (λ b. Q (alone c (by_test (last_in h.size m) b) locked))
        (sym (is_le h.size (last_in h.size m + 1) full))
        (unlocked c none m (used_lock h) (c + 1) Q free (at_none full))
    by_room (inr room) =
        subst (λ b. Q (alone c (by_test (last_in h.size m) b) locked))
        (sym (isnt_le h.size (last_in h.size m + 1) room))
        (subst (λ end. Q (alone c (found (last_in h.size m + 1)) end))
        (sym (stored (last_in h.size m + 1))) (at_some room))
