-- Proofs of laws that an impl in src/ names: no contract says what is defined here.
-- What an insert has done, played alone.
use Rattle.std.proofs.Common.{◌≡◌, ◌≢◌, ℕ, zero, suc, ◌+◌, ◌*◌, ◌<◌, ◌≤◌, ◌^◌, ◌⊎◌, inl, inr, Bool}
use Rattle.std.proofs.Common.{cond, [], ◌∷◌, ◌++◌, length, Option, Some, None, refl, ap, ◌∙◌, sym}
use Rattle.std.proofs.Common.{subst, arith}
use Rattle.std.specs.Prelude.{nat_lt}
use Rattle.std.specs.List.{AllByRecursion as Each}
use Rattle.vyrd_base.specs.declared.header.Header.{Header}
use Rattle.vyrd_base.specs.declared.log.Kind.TheVariants.{BlockCommit}
use Rattle.vyrd_base.specs.Amounts.{Amounts, amount_of, with_amount}
use Rattle.vyrd_base.proofs.TestLaws.{is_below, isnt_below}
use Rattle.vyrd_memory.specs.declared.op.Variant.TheVariants.{Correct}
use Rattle.vyrd_memory.specs.Scripts.{Script, returns, gives_up}
use Rattle.vyrd_memory.specs.Alone.{Memory, with_cell, Outcome, alone}
use Rattle.vyrd_memory.proofs.Memories.{changed_cell, other_cell}
use Rattle.vyrd_tree.specs.Laws.Alone.Counts.{le_or}
use Rattle.vyrd_tree.specs.Contents.{level_at, count_at, bound_at, key_at, value_at, last_in}
use Rattle.vyrd_tree.specs.Contents.{IsLeafEntry, AreEntries, IsTree, entries_at, entries_from}
use Rattle.vyrd_tree.specs.Contents.{Covers, Entries, gives, TreeRepresents}
use Rattle.vyrd_tree.specs.Laws.Alone.Entries.{gives-append, gives_one, entry_gives_it}
use Rattle.vyrd_tree.specs.Laws.Alone.Entries.{entry_gives_none, found_around, not_found, IsAround}
use Rattle.vyrd_tree.specs.Laws.Alone.Entries.{each_back}
use Rattle.vyrd_tree.specs.Laws.Alone.EntriesStaySound.{entries_replaced, gives_around, length_join}
use Rattle.vyrd_tree.specs.Laws.Alone.Tested.{length-entries}
use Rattle.vyrd_tree.specs.Laws.Alone.Changes.{SameWords, covers_same, Rewritten, entries_alike}
use Rattle.vyrd_tree.specs.Laws.Alone.Changes.{same_words_tree}
use Rattle.vyrd_memory.proofs.AloneLaws.{EndsSo}
use Rattle.vyrd_tree.specs.Laws.Alone.WalkArrives.{loaded_at}
use Rattle.vyrd_tree.specs.Laws.Alone.BlocksPlayed.{IsAt, unused_played}
use Rattle.vyrd_tree.specs.Laws.Alone.NewKey.{leaf_gets_entry, leaf_is_split}
use Rattle.vyrd_tree.specs.Laws.Alone.AscentKeepsState.{ascend_played}
use Rattle.vyrd_tree.specs.Laws.Alone.Done.{present, absent, leaf_changed, nothing_changed}
use Rattle.vyrd_tree.specs.Laws.Alone.Done.{walked_down}
use Rattle.vyrd_tree.specs.Cells.{used_lock}
use Rattle.vyrd_tree.specs.Procedures.Split.{with_unused, add_entry, split_entry, split_key}
use Rattle.vyrd_tree.specs.Procedures.Ascent.{ascend}
use Rattle.vyrd_tree.specs.Procedures.{changes_nothing, place_of, replace_value, insert_new}
use Rattle.vyrd_tree.specs.Procedures.{insert_in, insert_entry}

-- an entry gets another value, and nothing else changes
pub value_stored : (m : Memory) (node place many v : ℕ) (front : Entries) (entry : ℕ × ℕ)
    (back : Entries)
    → place + many ≤ 4 → entries_from m node place many ≡ front ++ entry ∷ back
    → entries_from (with_cell m (12 * node + (8 + (place + length front))) v) node place many
    ≡ front ++ (entry.0, v) ∷ back
value_stored m node place zero v [] entry back fits e = cc
value_stored m node place zero v (x ∷ front) entry back fits e = cc
value_stored m node place (suc many) v [] entry back fits e =
    put (key_at m' node place) (value_at m' node place) (entries_from m' node (place + 1) many)
    (other_cell m (12 * node + (8 + (place + 0))) v (12 * node + (4 + place))
    (omega (arith, fits)) ∙ head_key)
    (let at : place + 0 ≡ place =
    omega arith in ap (λ p. with_cell m (12 * node + (8 + p)) v (12 * node + (8 + place))) at
    ∙ changed_cell m (12 * node + (8 + place)) v)
    (entries_alike m m' node (place + 1) many (λ j from to. (
      other_cell m (12 * node + (8 + (place + 0))) v (12 * node + (4 + j))
          (omega (arith, to, fits)),
      other_cell m (12 * node + (8 + (place + 0))) v (12 * node + (8 + j)) (omega (arith, from)),
    )) ∙ tail)
  where
    m' : Memory
    m' = with_cell m (12 * node + (8 + (place + 0))) v

    head_key : key_at m node place ≡ entry.0
    head_key =
        let head : (key_at m node place, value_at m node place) ≡ entry = cc in ap (λ x. x.0) head

    tail : entries_from m node (place + 1) many ≡ back
    tail = cc

    put : (a b : ℕ) (xs : Entries) → a ≡ entry.0 → b ≡ v → xs ≡ back
        → (a, b) ∷ xs ≡ (entry.0, v) ∷ back
    put a b xs e f g =
        ap (λ a. (a, b) ∷ xs) e ∙ ap (λ b. (entry.0, b) ∷ xs) f ∙ ap (λ xs. (entry.0, v) ∷ xs) g
value_stored m node place (suc many) v (x ∷ front) entry back fits e =
    put (key_at m' node place) (value_at m' node place) (entries_from m' node (place + 1) many)
    (other_cell m (12 * node + (8 + (place + suc (length front)))) v (12 * node + (4 + place))
    (far 4 (omega arith)))
    (other_cell m (12 * node + (8 + (place + suc (length front)))) v (12 * node + (8 + place))
    (omega arith))
    (let at : place + 1 + length front ≡ place + suc (length front) = omega arith in
    subst (λ p. entries_from (with_cell m (12 * node + (8 + p)) v) node (place + 1) many
    ≡ front ++ (entry.0, v) ∷ back) at
    (value_stored m node (place + 1) many v front entry back (omega (arith, fits)) tail))
  where
    m' : Memory
    m' = with_cell m (12 * node + (8 + (place + suc (length front)))) v

    far : (i : ℕ) → i ≤ 8 → 12 * node + (i + place) ≢ 12 * node + (8 + (place + suc (length front)))
    far i low = omega (arith, low)

    head : (key_at m node place, value_at m node place) ≡ x
    head = cc

    tail : entries_from m node (place + 1) many ≡ front ++ entry ∷ back
    tail = cc

    put : (a b : ℕ) (xs : Entries) → a ≡ key_at m node place → b ≡ value_at m node place
        → xs ≡ front ++ (entry.0, v) ∷ back
        → (a, b) ∷ xs ≡ x ∷ (front ++ (entry.0, v) ∷ back)
    put a b xs e f g =
        ap (λ a. (a, b) ∷ xs) e ∙ ap (λ b. (key_at m node place, b) ∷ xs) f ∙ ap (λ y. y ∷ xs) head
        ∙ ap (λ xs. x ∷ xs) g

-- a leaf that has the key in its range
pub record LeafOf (size : ℕ) (m : Memory) (low : ℕ → ℕ) (key n : ℕ) : Type 0 where
  pub in_use : n ≤ last_in size m
  pub leaf : level_at m n ≡ 0
  pub covers : Covers m low n key

-- Nothing is inserted if the leaf of a new key is full and no node is unused. A new key gets the
-- reply 1, another the reply 2.
abbrev pub InsertDone : Header → Memory → Amounts → ℕ → ℕ → ℕ → Memory → Type 0
InsertDone h m s key value reply after =
    ((reply ≡ 0) × (amount_of s key ≡ 0) × TreeRepresents h after s
    × ((low : ℕ → ℕ) × (n : ℕ) × IsTree h.size m low × LeafOf h.size m low key n
    × (count_at m n ≡ 4))
    × (h.size ≤ last_in h.size m + 1))
    ⊎ (((reply ≡ 1) × (amount_of s key ≡ 0)
    × TreeRepresents h after (with_amount s key (2 ^ 32 + value))
    × ((low : ℕ → ℕ) × (n : ℕ) × IsTree h.size m low × LeafOf h.size m low key n
    × ((count_at m n < 4) ⊎ (last_in h.size m + 1 < h.size))))
    ⊎ ((reply ≡ 2) × (amount_of s key ≢ 0)
    × TreeRepresents h after (with_amount s key (2 ^ 32 + value))))

-- in the leaf of the key
module _ (h : Header) (c : ℕ) (before m : Memory) (low : ℕ → ℕ) (s : Amounts) (n key value : ℕ)
    (same : SameWords h.size before m) (at : IsAt h m low s n key 0) (small_key : key < 2 ^ 32)
    (small : value < 2 ^ 32) where
  abbrev last : ℕ
  last = last_in h.size m

  abbrev s' : Amounts
  s' = with_amount s key (2 ^ 32 + value)

  abbrev Q : Option Outcome → Type 0
  Q o = EndsSo o (InsertDone h before s key value)

  t : IsTree h.size m low
  t = at.shown.tree

  fits : n < h.size
  fits = (let fits = t.last_low in let used = at.in_use in omega (arith, fits, used))

  back_same : SameWords h.size m before
  back_same cell low = sym (same cell low)

  last_same : last_in h.size before ≡ last
  last_same = back_same (12 * h.size + 1) (omega arith)

  count_same : count_at before n ≡ count_at m n
  count_same = back_same (12 * n + 1) (omega (arith, fits))

  before_tree : IsTree h.size before low
  before_tree = same_words_tree h.size m before low back_same t

  leaf_of : LeafOf h.size before low key n
  leaf_of = record {
    in_use = (let used = at.in_use in omega (arith, last_same, used));
    leaf = back_same (12 * n + 0) (omega (arith, fits)) ∙ at.level_is;
    covers = covers_same h.size m before low n key back_same fits at.covers;
  }

  -- a key that is there gets the new value
  replaced : (i : ℕ) (front : Entries) (entry : ℕ × ℕ) (back : Entries) → length front ≡ i
      → IsAround key (entries_at m n) front entry back
      → Q (alone c (replace_value h n i value) m)
  replaced i front entry back len is =
      subst (λ i. Q (alone c (replace_value h n i value) m)) len
      (inr (inr (
        refl,
        (let e = present h m low s n key front back entry at is in omega (arith, e)),
        leaf_changed h m end low s n key (2 ^ 32 + value) (front ++ (entry.0, value) ∷ back) at r
            (λ cell high. other_cell m (12 * n + (8 + length front)) value cell
            (omega (arith, high, fits, place)))
            (entries_replaced last (level_at m) low (level_at m n) (low n) (bound_at m n) front
            back entry value at.level_is small old)
            (gives_around key front back (entry.0, value)
            ∙ plus (entry_gives_it key (entry.0, value) new_leaf (sym is.key_is))
            (gives-append key front back) one.0 one.1)
            (λ q apart. (let e = gives_around q front back (entry.0, value) in let f =
            gives_around q front back entry in
            let g = ap (gives q) is.parts in
            let a = entry_gives_none q (entry.0, value) new_leaf
            (λ e. apart (sym e ∙ is.key_is)) in let b =
            entry_gives_none q entry leaves.0 (λ e. apart (sym e ∙ is.key_is)) in omega
            (arith, e, f, g, a, b))),
      )))
    where
      old : AreEntries last (level_at m) low (level_at m n) (low n) (bound_at m n)
          (front ++ entry ∷ back)
      old = subst (AreEntries last (level_at m) low (level_at m n) (low n) (bound_at m n)) is.parts
          (t.entries n at.in_use)

      leaves : Each IsLeafEntry (entry ∷ back)
      leaves = each_back IsLeafEntry front (entry ∷ back) (old.leaf at.level_is)

      new_leaf : IsLeafEntry (entry.0, value)
      new_leaf = record { key_low = leaves.0.key_low; value_low = small }

      one : (gives key front ≡ 0) × (gives key back ≡ 0)
          × (gives key (entry ∷ back) ≡ 2 ^ 32 + entry.1)
      one = gives_one key front entry back old.rise (old.leaf at.level_is) is.key_is

      plus : {a b c d e : ℕ} → a ≡ e → b ≡ c + d → c ≡ 0 → d ≡ 0 → a + b ≡ e
      plus f g i j = omega arith

      few : count_at m n ≤ 4
      few = t.few n at.in_use

      place : length front < 4
      place =
          let a = length_join front (entry ∷ back) in
          let len : length (front ++ entry ∷ back) ≡ count_at m n =
          sym (ap length is.parts) ∙ length-entries m n 0 (count_at m n) in
          omega (arith, a, len, few)

      end : Memory
      end = with_cell m (12 * n + (8 + length front)) value

      not_value : (cell : ℕ) → (cell < 12 * n + 1) ⊎ (12 * n + 12 ≤ cell)
          → cell ≢ 12 * n + (8 + length front)
      not_value cell (inl lt) = omega (arith, lt)
      not_value cell (inr le) = omega (arith, le, place)

      count_end : count_at end n ≡ count_at m n
      count_end = other_cell m (12 * n + (8 + length front)) value (12 * n + 1) (omega arith)

      r : Rewritten h.size m end n (front ++ (entry.0, value) ∷ back)
      r = record {
        others = λ cell low off. other_cell m (12 * n + (8 + length front)) value cell
            (not_value cell off);
        bound_is = other_cell m (12 * n + (8 + length front)) value (12 * n + 2) (omega arith);
        right_is = other_cell m (12 * n + (8 + length front)) value (12 * n + 3) (omega arith);
        few = omega (arith, count_end, few);
        entries = ap (entries_from end n 0) count_end
            ∙ (let zero_plus : 0 + length front ≡ length front = omega arith in
            subst (λ p. entries_from (with_cell m (12 * n + (8 + p)) value) n 0 (count_at m n)
            ≡ front ++ (entry.0, value) ∷ back) zero_plus
            (value_stored m n 0 (count_at m n) value front entry back (omega (arith, few))
            is.parts));
      }

  -- a new key
  added : Each (λ x. x.0 ≢ key) (entries_at m n)
      → Q (alone c (insert_new h Correct key value (loaded_at m n)) m)
  added apart = by_length (le_or 4 (length (entries_at m n)))
    where
      none : amount_of s key ≡ 0
      none = absent h m low s n key at apart

      count_is : length (entries_at m n) ≡ count_at m n
      count_is = length-entries m n 0 (count_at m n)

      splitting : ℕ → Script
      splitting u = split_entry h (loaded_at m n) key value u BlockCommit
          (ascend h Correct 16 0 (split_key (loaded_at m n) key value) u (returns 1))

      by_room : Bool → Script
      by_room room = cond room (add_entry h (loaded_at m n) key value BlockCommit (returns 1))
          (with_unused h (changes_nothing h n) splitting)

      by_length : (4 ≤ length (entries_at m n)) ⊎ (length (entries_at m n) < 4)
          → Q (alone c (by_room (nat_lt (length (entries_at m n)) 4)) m)
      by_length (inr less) =
          subst (λ b. Q (alone c (by_room b) m)) (sym (is_below (length (entries_at m n)) 4 less))
          (leaf_gets_entry h c m low s n key value at small_key small apart Q (returns 1)
          (omega (arith, less, count_is))
          (λ m' st. inr (inl (
            refl,
            none,
            st,
            (low, n, before_tree, leaf_of, inl (omega (arith, less, count_is, count_same))),
          ))))
      by_length (inl full) =
          subst (λ b. Q (alone c (by_room b) m)) (sym (isnt_below (length (entries_at m n)) 4 full))
          (full_leaf (t.few n at.in_use) full)
        where
          full_leaf : count_at m n ≤ 4 → 4 ≤ length (entries_at m n)
              → Q (alone c (with_unused h (changes_nothing h n) splitting) m)
          full_leaf few full =
              unused_played h c m Q (changes_nothing h n) splitting
              (at.free (used_lock h) (omega arith) (omega arith) (omega (arith, fits)))
              (λ none_left. inl (
                refl,
                none,
                nothing_changed h m low s n key 0 at,
                (low, n, before_tree, leaf_of, count_same ∙ four),
                omega
                    (arith, none_left, last_same),
              ))
              (λ room. leaf_is_split h c m low s n key value at small_key small apart Q
              (ascend h Correct 16 0 (split_key (loaded_at m n) key value) (last + 1)
              (returns 1)) four room
              (λ m' low' st free hangs. ascend_played h c (with_amount s key (2 ^ 32 + value))
              (returns 1) Q
              (λ m'' low'' st'' free''. inr (inl (
                refl,
                none,
                record { low = low''; held = st''; free = free'' },
                (low, n, before_tree, leaf_of, inr (omega (arith, room, last_same))),
              ))) 16 m' low' 0 (split_key (loaded_at m n) key value) (last + 1) st free hangs))
            where
              four : count_at m n ≡ 4
              four = omega (arith, few, full, count_is)

  pub inserted_in : EndsSo
      (alone c (insert_in h Correct key value (loaded_at m n) (place_of key (entries_at m n))) m)
      (InsertDone h before s key value)
  inserted_in = by_place (place_of key (entries_at m n)) refl
    where
      by_place : (o : Option ℕ) → place_of key (entries_at m n) ≡ o
          → Q (alone c
          (insert_in h Correct key value (loaded_at m n) (place_of key (entries_at m n))) m)
      by_place None e =
          subst (λ o. Q (alone c (insert_in h Correct key value (loaded_at m n) o) m)) (sym e)
          (added (not_found key (entries_at m n) e))
      by_place (Some i) e =
          let found = found_around key (entries_at m n) i e in
          subst (λ o. Q (alone c (insert_in h Correct key value (loaded_at m n) o) m)) (sym e)
          (replaced i found.0 found.1 found.2 found.3 found.4)

-- An insert of numbers of 32 bits.
pub insert_alone : (h : Header) (c : ℕ) (m : Memory) (s : Amounts) (key value : ℕ)
    → TreeRepresents h m s → key < 2 ^ 32 → value < 2 ^ 32
    → EndsSo (alone c (insert_entry h Correct key value) m) (InsertDone h m s key value)
insert_alone h c m s key value st small_key small =
    walked_down h c m s key gives_up (λ at. insert_in h Correct key value at
    (place_of key at.entries)) (λ o. EndsSo o (InsertDone h m s key value)) st
    (λ m' low n same at. inserted_in h c m m' low s n key value same at small_key small)
