-- Proofs of laws that an impl in src/ names: no contract says what is defined here.
-- What lookups, deletes, and inserts that split no node have done, played alone.
use Rattle.std.proofs.Common.{◌≡◌, ◌≢◌, ℕ, suc, ◌+◌, ◌<◌, ◌≤◌, ◌^◌, ◌⊎◌, inl, inr, Bool, true}
use Rattle.std.proofs.Common.{false}
use Rattle.std.proofs.Common.{cond, [], ◌∷◌, ◌++◌, length, Option, Some, None, refl, ap, ◌∙◌, sym}
use Rattle.std.proofs.Common.{subst, arith}
use Rattle.std.specs.Prelude.{◌==◌, remove}
use Rattle.std.specs.List.{AllByRecursion as Each}
use Rattle.vyrd_base.specs.declared.header.Header.{Header}
use Rattle.vyrd_base.specs.declared.log.Kind.TheVariants.{BlockCommit}
use Rattle.vyrd_base.specs.Amounts.{Amounts, amount_of, with_amount}
use Rattle.vyrd_base.proofs.AmountLaws.{amount_of-with_amount, IsAmounts-with_amount}
use Rattle.vyrd_base.proofs.TestLaws.{same_of, apart_of, isnt_same}
use Rattle.vyrd_memory.specs.declared.op.Variant.TheVariants.{Correct}
use Rattle.vyrd_memory.specs.Scripts.{Script, returns, gives_up}
use Rattle.vyrd_memory.specs.Alone.{Memory, with_cell, Outcome, alone}
use Rattle.vyrd_tree.specs.Contents.{level_at, count_at, bound_at, last_in, IsLeafEntry, AreEntries}
use Rattle.vyrd_tree.specs.Contents.{AreEntriesAt, IsTree, entries_at, Covers, Entries, gives}
use Rattle.vyrd_tree.specs.Contents.{TreeRepresents, Rising}
use Rattle.vyrd_tree.specs.Laws.Alone.Order.{one_cover}
use Rattle.vyrd_tree.specs.Laws.Alone.Entries.{gives-append, gives_none, gives_one}
use Rattle.vyrd_tree.specs.Laws.Alone.Entries.{entry_gives_none}
use Rattle.vyrd_tree.specs.Laws.Alone.Entries.{take_front, found_around, not_found, IsAround}
use Rattle.vyrd_tree.specs.Laws.Alone.Entries.{each_back}
use Rattle.vyrd_tree.specs.Laws.Alone.EntriesStaySound.{length_join, entries_removed, gives_around}
use Rattle.vyrd_tree.specs.Laws.Alone.Tested.{length-entries}
use Rattle.vyrd_tree.specs.Laws.Alone.Changes.{SameWords, Rewritten, rewritten_shows}
use Rattle.vyrd_memory.proofs.AloneLaws.{EndsSo}
use Rattle.vyrd_tree.specs.Laws.Alone.WalkArrives.{loaded_at, with_lock, locked_words}
use Rattle.vyrd_tree.specs.Laws.Alone.WalkArrives.{walk_down_arrives}
use Rattle.vyrd_tree.specs.Laws.Alone.BlocksPlayed.{released, IsAt, is_at, SameLocks, still_free}
use Rattle.vyrd_tree.specs.Laws.Alone.BlocksPlayed.{rewritten}
use Rattle.vyrd_tree.specs.Cells.{lock_of}
use Rattle.vyrd_tree.specs.Procedures.Walk.{Arrived}
use Rattle.vyrd_tree.specs.Procedures.Split.{rewrite}
use Rattle.vyrd_tree.specs.Procedures.{place_of, value_at as value_in, reply_of, lookup, delete_in}
use Rattle.vyrd_tree.specs.Procedures.{delete}

-- The key of a leaf's entry has 2^32 and the entry's value as its amount.
pub present : (h : Header) (m : Memory) (low : ℕ → ℕ) (s : Amounts) (n key : ℕ)
    (front back : Entries) (entry : ℕ × ℕ)
    → IsAt h m low s n key 0 → IsAround key (entries_at m n) front entry back
    → amount_of s key ≡ 2 ^ 32 + entry.1
present h m low s n key front back entry at is =
    let es = at.shown.tree.entries n at.in_use in
    let one = gives_one key front entry back (subst Rising is.parts es.rise)
    (subst (Each IsLeafEntry) is.parts (es.leaf at.level_is)) is.key_is in
    at.shown.shows key n at.in_use at.level_is at.covers ∙ ap (gives key) is.parts
    ∙ gives-append key front (entry ∷ back) ∙ plus one.0 one.2
  where
    plus : {a b c : ℕ} → a ≡ 0 → b ≡ c → a + b ≡ c
    plus e f = omega arith

-- A key that no entry of its leaf has isn't there.
pub absent : (h : Header) (m : Memory) (low : ℕ → ℕ) (s : Amounts) (n key : ℕ)
    → IsAt h m low s n key 0 → Each (λ x. x.0 ≢ key) (entries_at m n) → amount_of s key ≡ 0
absent h m low s n key at apart =
    let es = at.shown.tree.entries n at.in_use in
    at.shown.shows key n at.in_use at.level_is at.covers
    ∙ gives_none key (entries_at m n) (es.leaf at.level_is) apart

-- the amounts after one key's amount has changed, from what its leaf gives
pub changed_inside : (s : Amounts) (key amount q : ℕ) (old new : Entries) → gives key new ≡ amount
    → (q ≢ key → gives q new ≡ gives q old) → amount_of s q ≡ gives q old
    → amount_of (with_amount s key amount) q ≡ gives q new
changed_inside s key amount q old new here there before =
    amount_of-with_amount s key amount q ∙ by_key (q == key) refl
  where
    by_key : (b : Bool) → (q == key) ≡ b → cond b amount (amount_of s q) ≡ gives q new
    by_key true e = sym here ∙ ap (λ k. gives k new) (sym (same_of q key e))
    by_key false e = before ∙ sym (there (apart_of q key e))

-- the key of another leaf's range has the amount that it had
pub changed_outside : (size : ℕ) (m : Memory) (low : ℕ → ℕ) (s : Amounts) (n key amount q a : ℕ)
    → IsTree size m low → n ≤ last_in size m → level_at m n ≡ 0 → Covers m low n key
    → a ≤ last_in size m → level_at m a ≡ 0 → a ≢ n → Covers m low a q
    → amount_of (with_amount s key amount) q ≡ amount_of s q
changed_outside size m low s n key amount q a t used leaf over used_a leaf_a apart over_a =
    amount_of-with_amount s key amount q ∙ ap (λ b. cond b amount (amount_of s q))
    (isnt_same q key (λ e. apart (one_cover size m low t a n key used_a used (leaf_a ∙ sym leaf)
    (subst (Covers m low a) e over_a) over)))

-- The leaf of the key has other entries, which give the key another amount and every other key the
-- same.
pub leaf_changed : (h : Header) (m m' : Memory) (low : ℕ → ℕ) (s : Amounts) (n key amount : ℕ)
    (new : Entries)
    → IsAt h m low s n key 0 → Rewritten h.size m m' n new → SameLocks h m m'
    → AreEntries (last_in h.size m) (level_at m) low (level_at m n) (low n) (bound_at m n) new
    → gives key new ≡ amount → ((q : ℕ) → q ≢ key → gives q new ≡ gives q (entries_at m n))
    → TreeRepresents h (with_cell m' (lock_of h n) 0) (with_amount s key amount)
leaf_changed h m m' low s n key amount new at r locks es here there =
    released h m' low (with_amount s key amount) (lock_of h n) (omega arith) (rewritten_shows h.size
    m m' low s (with_amount s key amount) at.shown n new at.in_use r es
    (IsAmounts-with_amount s key amount at.shown.formed)
    (λ leaf q over. changed_inside s key amount q (entries_at m n) new here (there q)
    (at.shown.shows q n at.in_use at.level_is over))
    (λ q a used leaf apart over. changed_outside h.size m low s n key amount q a at.shown.tree
    at.in_use at.level_is at.covers used leaf (off apart)
    over)) (still_free h m m' (lock_of h n) locks at.free)
  where
    off : {a b : ℕ} → (a < b) ⊎ (b < a) → a ≢ b
    off (inl lt) = omega (arith, lt)
    off (inr lt) = omega (arith, lt)

-- the memory at the end represents the state that the replies lead to
pub record Meets (h : Header) (says : ℕ → Option Amounts) (reply : ℕ)
    (after : Memory) : Type 0 where
  pub state : Amounts
  pub allowed : says reply ≡ Some state
  pub represents : TreeRepresents h after state

-- only the lock of the node is given back
pub nothing_changed : (h : Header) (m : Memory) (low : ℕ → ℕ) (s : Amounts) (n key level : ℕ)
    → IsAt h m low s n key level
    → TreeRepresents h (with_cell m (lock_of h n) 0) s
nothing_changed h m low s n key level at =
    released h m low s (lock_of h n) (omega arith) at.shown at.free

-- what an operation does in the leaf of its key
abbrev pub InLeaf : Header → ℕ → Memory → Amounts → ℕ → (Arrived → Script)
    → (Option Outcome → Type 0) → Type 0
InLeaf h c before s key arrived Q =
    (m : Memory) (low : ℕ → ℕ) (n : ℕ) → SameWords h.size before m → IsAt h m low s n key 0
    → Q (alone c (arrived (loaded_at m n)) m)

-- from the root to the leaf of the key
pub walked_down : (h : Header) (c : ℕ) (m : Memory) (s : Amounts) (key : ℕ) (lost : Script)
    (arrived : Arrived → Script) (Q : Option Outcome → Type 0)
    → TreeRepresents h m s → InLeaf h c m s key arrived Q
    → Q (alone c (Rattle.vyrd_tree.specs.Procedures.walk_down h Correct key lost arrived) m)
walked_down h c m s key lost arrived Q st there =
    walk_down_arrives h c key m st.low lost arrived Q st.held.tree
    (λ n low. st.free (lock_of h n) (omega arith) (omega (arith, low)))
    (λ n used level over. there (with_lock h c m n) st.low n (locked_words h c m n)
    (is_at h c m s st n key 0 used level over))

-- the value at the place of an entry
pub value_is : (xs front back : Entries) (entry : ℕ × ℕ) → xs ≡ front ++ entry ∷ back
    → value_in xs (length front) ≡ entry.1
value_is xs front back entry e = ap (λ ys. value_in ys (length front)) e ∙ at front
  where
    at : (front : Entries) → value_in (front ++ entry ∷ back) (length front) ≡ entry.1
    at [] = refl
    at (x ∷ front) = at front

-- A lookup replies the key's value plus 1, or 0, and changes nothing.
pub lookup_alone : (h : Header) (c : ℕ) (m : Memory) (s : Amounts) (key : ℕ) → TreeRepresents h m s
    → EndsSo (alone c (lookup h Correct key) m) (λ reply after. TreeRepresents h after s
    × (((amount_of s key ≡ 0) × (reply ≡ 0))
    ⊎ ((value : ℕ) × (amount_of s key ≡ 2 ^ 32 + value) × (reply ≡ value + 1))))
lookup_alone h c m s key st =
    walked_down h c m s key (returns 0) (λ at. Rattle.vyrd_tree.specs.Cells.unlock_node h at.node
    (returns (reply_of at.entries (place_of key at.entries)))) Q st there
  where
    Says : ℕ → Memory → Type 0
    Says reply after = TreeRepresents h after s
        × (((amount_of s key ≡ 0) × (reply ≡ 0))
        ⊎ ((value : ℕ) × (amount_of s key ≡ 2 ^ 32 + value) × (reply ≡ value + 1)))

    Q : Option Outcome → Type 0
    Q o = EndsSo o Says

    there : InLeaf h c m s key (λ at. Rattle.vyrd_tree.specs.Cells.unlock_node h at.node
        (returns (reply_of at.entries (place_of key at.entries)))) Q
    there m low n same at = by_place (place_of key (entries_at m n)) refl
      where
        by_place : (o : Option ℕ) → place_of key (entries_at m n) ≡ o
            → Says (reply_of (entries_at m n) (place_of key (entries_at m n)))
            (with_cell m (lock_of h n) 0)
        by_place None e = (
          nothing_changed h m low s n key 0 at,
          inl (
            absent h m low s n key at (not_found key (entries_at m n) e),
            ap (reply_of (entries_at m n)) e,
          ),
        )
        by_place (Some i) e =
            let found = found_around key (entries_at m n) i e in
            let is = found.4 in (
              nothing_changed h m low s n key 0 at,
              inr (
                found.1.1,
                present h m low s n key found.0 found.2 found.1 at is,
                ap (reply_of (entries_at m n)) e
                    ∙ ap (λ i. value_in (entries_at m n) i + 1) (sym found.3)
                    ∙ ap (λ v. v + 1) (value_is (entries_at m n) found.0 found.2 found.1 is.parts),
              ),
            )

-- A delete removes the key and replies 1, or replies 0 if it isn't there.
pub delete_alone : (h : Header) (c : ℕ) (m : Memory) (s : Amounts) (key : ℕ) → TreeRepresents h m s
    → EndsSo (alone c (delete h Correct key) m) (λ reply after.
    ((amount_of s key ≡ 0) × (reply ≡ 0) × TreeRepresents h after s)
    ⊎ ((amount_of s key ≢ 0) × (reply ≡ 1) × TreeRepresents h after (with_amount s key 0)))
delete_alone h c m s key st =
    walked_down h c m s key gives_up (λ at. delete_in h at (place_of key at.entries)) Q st there
  where
    Says : ℕ → Memory → Type 0
    Says reply after = ((amount_of s key ≡ 0) × (reply ≡ 0) × TreeRepresents h after s)
        ⊎ ((amount_of s key ≢ 0) × (reply ≡ 1) × TreeRepresents h after (with_amount s key 0))

    Q : Option Outcome → Type 0
    Q o = EndsSo o Says

    there : InLeaf h c m s key (λ at. delete_in h at (place_of key at.entries)) Q
    there m low n same at = by_place (place_of key (entries_at m n)) refl
      where
        removed : (i : ℕ) (front : Entries) (entry : ℕ × ℕ) (back : Entries) → length front ≡ i
            → IsAround key (entries_at m n) front entry back
            → Q (alone c (rewrite h n i (remove (entries_at m n) i) BlockCommit (returns 1)) m)
        removed i front entry back len is =
            subst (λ i. Q (alone c
            (rewrite h n i (remove (entries_at m n) i) BlockCommit (returns 1)) m)) len
            (subst (λ xs. Q (alone c (rewrite h n (length front) xs BlockCommit (returns 1)) m))
            (sym remains)
            (rewritten h c m Q n (count_at m n) front (entry ∷ back) back BlockCommit (returns 1)
            (λ m later. refl) fits is.parts few
            (λ m' r locks. inr (
              (let e = present h m low s n key front back entry at is in omega (arith, e)),
              refl,
              leaf_changed h m m' low s n key 0 (front ++ back) at r locks
                  (entries_removed last (level_at m) low (level_at m n) (low n) (bound_at m n) front
                  back entry at.level_is before)
                  (gives-append key front back ∙ plus one.0 one.1) others,
            ))))
          where
            last : ℕ
            last = last_in h.size m

            fits : n < h.size
            fits = (let t = at.shown.tree in
                let fits = t.last_low in let used = at.in_use in omega arith)

            es : AreEntriesAt last m low n
            es = at.shown.tree.entries n at.in_use

            before : AreEntries last (level_at m) low (level_at m n) (low n) (bound_at m n)
                (front ++ entry ∷ back)
            before = subst (AreEntries last (level_at m) low (level_at m n) (low n) (bound_at m n))
                is.parts es

            one : (gives key front ≡ 0) × (gives key back ≡ 0)
                × (gives key (entry ∷ back) ≡ 2 ^ 32 + entry.1)
            one = gives_one key front entry back before.rise (before.leaf at.level_is) is.key_is

            remains : remove (entries_at m n) (length front) ≡ front ++ back
            remains =
                ap (λ xs. remove xs (length front)) is.parts
                ∙ ap (λ xs. xs
                ++ Rattle.std.specs.Prelude.drop (suc (length front)) (front ++ entry ∷ back))
                (take_front front (entry ∷ back))
                ∙ ap (λ xs. front ++ xs) (drop_next front)
              where
                drop_next : (front : Entries)
                    → Rattle.std.specs.Prelude.drop (suc (length front)) (front ++ entry ∷ back)
                    ≡ back
                drop_next [] = refl
                drop_next (x ∷ front) = drop_next front

            few : length (front ++ back) ≤ 4
            few =
                let a = length_join front back in
                let b = length_join front (entry ∷ back) in
                let len : length (front ++ entry ∷ back) ≡ count_at m n =
                sym (ap length is.parts) ∙ length-entries m n 0 (count_at m n) in
                let few = at.shown.tree.few n at.in_use in
                omega arith

            plus : {a b : ℕ} → a ≡ 0 → b ≡ 0 → a + b ≡ 0
            plus e f = omega arith

            leaves : Each IsLeafEntry (entry ∷ back)
            leaves = each_back IsLeafEntry front (entry ∷ back) (before.leaf at.level_is)

            others : (q : ℕ) → q ≢ key → gives q (front ++ back) ≡ gives q (entries_at m n)
            others q apart =
                let none = entry_gives_none q entry leaves.0 (λ e. apart (sym e ∙ is.key_is)) in
                let around = gives_around q front back entry in
                let parts = ap (gives q) is.parts in
                omega (arith, none, around, parts)

        by_place : (o : Option ℕ) → place_of key (entries_at m n) ≡ o
            → Q (alone c (delete_in h (loaded_at m n) (place_of key (entries_at m n))) m)
        by_place None e =
            subst (λ o. Q (alone c (delete_in h (loaded_at m n) o) m)) (sym e)
            (inl (
              absent h m low s n key at (not_found key (entries_at m n) e),
              refl,
              nothing_changed h m low s n key 0 at,
            ))
        by_place (Some i) e =
            let found = found_around key (entries_at m n) i e in
            subst (λ o. Q (alone c (delete_in h (loaded_at m n) o) m)) (sym e)
            (removed i found.0 found.1 found.2 found.3 found.4)
