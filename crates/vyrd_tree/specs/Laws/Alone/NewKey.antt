-- Proofs of laws that an impl in src/ names: no contract says what is defined here.
-- A key that isn't there gets an entry in its leaf, which has room for it or is split.
use Rattle.std.proofs.Common.{◌≡◌, ◌≢◌, ℕ, ◌+◌, ◌<◌, ◌^◌, ◌∷◌, ◌++◌, Option, refl, ap, sym, arith}
use Rattle.std.specs.List.{AllByRecursion as Each}
use Rattle.vyrd_base.specs.declared.header.Header.{Header}
use Rattle.vyrd_base.specs.declared.log.Kind.TheVariants.{BlockCommit}
use Rattle.vyrd_base.specs.Amounts.{Amounts, with_amount}
use Rattle.vyrd_base.proofs.AmountLaws.{IsAmounts-with_amount}
use Rattle.vyrd_memory.specs.Scripts.{Script}
use Rattle.vyrd_memory.specs.Alone.{Memory, with_cell, Outcome, alone}
use Rattle.vyrd_tree.specs.Contents.{level_at, count_at, bound_at, last_in, IsLeafEntry, AreEntries}
use Rattle.vyrd_tree.specs.Contents.{IsTree, entries_at, Entries, gives, ShowsBy, TreeRepresents}
use Rattle.vyrd_tree.specs.Laws.Alone.Entries.{gives_none, entry_gives_it, entry_gives_none}
use Rattle.vyrd_tree.specs.Laws.Alone.EntriesStaySound.{entries_added, gives_around}
use Rattle.vyrd_tree.specs.Laws.Alone.SplitKeepsTree.{IsHanging}
use Rattle.vyrd_tree.specs.Laws.Alone.BlocksPlayed.{FreeAll, IsAt}
use Rattle.vyrd_tree.specs.Laws.Alone.FullNodeSplits.{HasPlace, placed, added_played, node_split}
use Rattle.vyrd_tree.specs.Laws.Alone.Done.{changed_outside, changed_inside, leaf_changed}
use Rattle.vyrd_tree.specs.Laws.Alone.WalkArrives.{loaded_at}
use Rattle.vyrd_tree.specs.Cells.{used_cell, lock_of}
use Rattle.vyrd_tree.specs.Procedures.Split.{add_entry, split_entry, split_key}

module _ (h : Header) (c : ℕ) (m : Memory) (low : ℕ → ℕ) (s : Amounts) (n key value : ℕ)
    (at : IsAt h m low s n key 0) (small_key : key < 2 ^ 32) (small : value < 2 ^ 32)
    (apart : Each (λ x. x.0 ≢ key) (entries_at m n)) where
  abbrev last : ℕ
  last = last_in h.size m

  t : IsTree h.size m low
  t = at.shown.tree

  place : (front : Entries) × (back : Entries) × HasPlace h m n key value front back
  place = placed h m low s n key 0 value at apart

  front : Entries
  front = place.0

  back : Entries
  back = place.1

  is : HasPlace h m n key value front back
  unfolding front back
  is = place.2

  new_leaf : IsLeafEntry (key, value)
  new_leaf = record { key_low = small_key; value_low = small }

  sound : AreEntries last (level_at m) low (level_at m n) (low n) (bound_at m n)
      (front ++ (key, value) ∷ back)
  sound =
      entries_added last (level_at m) low (level_at m n) (low n) (bound_at m n) (entries_at m n)
      front back (key, value) (t.entries n at.in_use) is.is
      (at.covers.from, at.covers.to) (λ none. new_leaf) (λ some. absurd (some at.level_is))
      (λ some. absurd (some at.level_is))

  here : gives key (front ++ (key, value) ∷ back) ≡ 2 ^ 32 + value
  here =
      let around = gives_around key front back (key, value) in
      let it = entry_gives_it key (key, value) new_leaf refl in
      let nothing =
      gives_none key (entries_at m n) ((t.entries n at.in_use).leaf at.level_is) apart in
      let parts = ap (gives key) is.parts in
      omega (arith, around, it, nothing, parts)

  there : (q : ℕ) → q ≢ key → gives q (front ++ (key, value) ∷ back) ≡ gives q (entries_at m n)
  there q other =
      let around = gives_around q front back (key, value) in
      let it = entry_gives_none q (key, value) new_leaf (λ e. other (sym e)) in
      let parts = ap (gives q) is.parts in
      omega (arith, around, it, parts)

  -- in a leaf that has room: what follows begins once the leaf's lock has been given back
  pub leaf_gets_entry : (Q : Option Outcome → Type 0) (later : Script) → count_at m n < 4
      → ((m' : Memory) → TreeRepresents h m' (with_amount s key (2 ^ 32 + value))
      → Q (alone c later m'))
      → Q (alone c (add_entry h (loaded_at m n) key value BlockCommit later) m)
  leaf_gets_entry Q later room goes_on =
      added_played h c m low s n key 0 value BlockCommit later Q (λ m later. refl) at front back is
      room
      (λ m' r locks. goes_on (with_cell m' (lock_of h n) 0) (leaf_changed h m m' low s n key
      (2 ^ 32 + value) (front ++ (key, value) ∷ back) at r locks sound here there))

  -- in a full leaf, which is split, if an unused node was got: the new leaf hangs on the one that
  -- was split
  pub leaf_is_split : (Q : Option Outcome → Type 0) (later : Script) → count_at m n ≡ 4
      → last + 1 < h.size
      → ((m' : Memory) (low' : ℕ → ℕ) → ShowsBy h.size m' low' (with_amount s key (2 ^ 32 + value))
      → FreeAll h m' → IsHanging h.size m' low' 0 (split_key (loaded_at m n) key value) (last + 1)
      → Q (alone c later m'))
      → Q (alone c (split_entry h (loaded_at m n) key value (last + 1) BlockCommit later)
      (with_cell m (used_cell h) (last + 1)))
  leaf_is_split Q later four room goes_on =
      node_split h c m low s (with_amount s key (2 ^ 32 + value)) n key 0 value BlockCommit later Q
      (λ m later. refl) at front back is four room sound
      (IsAmounts-with_amount s key (2 ^ 32 + value) at.shown.formed)
      (λ leaf q over. changed_inside s key (2 ^ 32 + value) q (entries_at m n)
      (front ++ (key, value) ∷ back) here (there q) (at.shown.shows q n at.in_use at.level_is over))
      (λ q a used leaf off over. changed_outside h.size m low s n key (2 ^ 32 + value) q a t
      at.in_use at.level_is at.covers used leaf off over) goes_on
