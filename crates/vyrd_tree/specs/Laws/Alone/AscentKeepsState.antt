-- Proofs of laws that an impl in src/ names: no contract says what is defined here.
-- The ascent, played alone: each round leaves words that represent the same state.
use Rattle.std.proofs.Common.{◌≡◌, ◌≢◌, ℕ, zero, suc, ◌+◌, ◌*◌, ◌<◌, ◌≤◌, ◌⊎◌, inl, inr, Bool, cond}
use Rattle.std.proofs.Common.{[], ◌∷◌, ◌++◌, length, Option, refl, ap, ◌∙◌, sym, subst, arith}
use Rattle.std.specs.Prelude.{nat_le, nat_lt}
use Rattle.std.specs.List.{AllByRecursion as Each}
use Rattle.vyrd_base.specs.declared.header.Header.{Header}
use Rattle.vyrd_base.specs.declared.log.Kind.TheVariants.{BlockOpen, BlockClose}
use Rattle.vyrd_base.specs.Amounts.{Amounts}
use Rattle.vyrd_base.proofs.TestLaws.{is_below, isnt_below, is_at_most, isnt_at_most}
use Rattle.vyrd_memory.specs.declared.act.Act.TheVariants.{Load, Store, Mark}
use Rattle.vyrd_memory.specs.declared.op.Variant.TheVariants.{Correct}
use Rattle.vyrd_memory.specs.Scripts.{Script, step, perform}
use Rattle.vyrd_memory.specs.Alone.{Memory, with_cell, Outcome, alone}
use Rattle.vyrd_memory.proofs.Memories.{other_cell}
use Rattle.vyrd_tree.specs.Laws.Alone.Counts.{le_or}
use Rattle.vyrd_tree.specs.Contents.{level_at, count_at, bound_at, last_in, root_in, BeginsAt}
use Rattle.vyrd_tree.specs.Contents.{AreEntries, IsChild, IsTree, entries_at, Entries, ShowsBy}
use Rattle.vyrd_tree.specs.Laws.Alone.Order.{one_low, next_of, after_few}
use Rattle.vyrd_tree.specs.Laws.Alone.Entries.{each_both}
use Rattle.vyrd_tree.specs.Laws.Alone.EntriesStaySound.{entries_added}
use Rattle.vyrd_tree.specs.Laws.Alone.Tested.{length-entries}
use Rattle.vyrd_tree.specs.Laws.Alone.Changes.{SameWords, rewritten_shows}
use Rattle.vyrd_memory.proofs.AloneLaws.{take_played}
use Rattle.vyrd_tree.specs.Laws.Alone.Played.{unlocked}
use Rattle.vyrd_tree.specs.Laws.Alone.WalkArrives.{loaded_at, with_lock, locked_words, ArrivesAt}
use Rattle.vyrd_tree.specs.Laws.Alone.WalkArrives.{walk_arrives}
use Rattle.vyrd_tree.specs.Laws.Alone.SplitKeepsTree.{IsHanging}
use Rattle.vyrd_tree.specs.Laws.Alone.RootKeepsTree.{grown_shows}
use Rattle.vyrd_tree.specs.Laws.Alone.BlocksPlayed.{FreeBut, FreeAll, all_free, released_words}
use Rattle.vyrd_tree.specs.Laws.Alone.BlocksPlayed.{shows_same_words, IsAt, is_at, SameLocks}
use Rattle.vyrd_tree.specs.Laws.Alone.BlocksPlayed.{still_free, unused_played}
use Rattle.vyrd_tree.specs.Laws.Alone.SplitWrites.{grow_played}
use Rattle.vyrd_tree.specs.Laws.Alone.FullNodeSplits.{hanging_same_words, HasPlace, placed}
use Rattle.vyrd_tree.specs.Laws.Alone.FullNodeSplits.{added_played, node_split}
use Rattle.vyrd_tree.specs.Cells.{root_cell, level_cell, root_lock, used_lock, lock_of, unlock_node}
use Rattle.vyrd_tree.specs.Cells.{unlock_root}
use Rattle.vyrd_tree.specs.Procedures.Walk.{walk_from}
use Rattle.vyrd_tree.specs.Procedures.Split.{add_entry, split_entry, split_key, with_unused}
use Rattle.vyrd_tree.specs.Procedures.Split.{write_node}
use Rattle.vyrd_tree.specs.Procedures.Ascent.{grow_root, add_child, ascend_once, ascend}

-- an ascent ending in a memory that represents the same state
abbrev pub Stops : Header → ℕ → Amounts → Script → (Option Outcome → Type 0) → Type 0
Stops h c s ending Q =
    (m : Memory) (low : ℕ → ℕ) → ShowsBy h.size m low s → FreeAll h m → Q (alone c ending m)

-- or the next round begins in one, with a node that hangs
abbrev pub GoesOnAt : Header → ℕ → Amounts → ℕ → (ℕ → ℕ → ℕ → Script) → (Option Outcome → Type 0)
    → Type 0
GoesOnAt h c s level next Q =
    (m : Memory) (low : ℕ → ℕ) (key node : ℕ) → ShowsBy h.size m low s → FreeAll h m
    → IsHanging h.size m low level key node
    → Q (alone c (next level key node) m)

-- no entry of the level above has the key of a node that hangs
key_apart : (size : ℕ) (m : Memory) (low : ℕ → ℕ) (level key node n : ℕ) → IsTree size m low
    → IsHanging size m low level key node → n ≤ last_in size m → level_at m n ≡ level + 1
    → Each (λ x. x.0 ≢ key) (entries_at m n)
key_apart size m low level key node n t hangs used level_is =
    each_both (IsChild (last_in size m) (level_at m) low (level_at m n)) (λ x. x.1 ≢ node)
    (λ x. x.0 ≢ key) apart (entries_at m n)
    ((t.entries n used).inner (omega (arith, level_is))).child
    (hangs.unnamed n used (omega (arith, level_is)))
  where
    apart : (x : ℕ × ℕ) → IsChild (last_in size m) (level_at m) low (level_at m n) x → x.1 ≢ node
        → x.0 ≢ key
    apart x is other same =
        let lower : level_at m x.1 + 1 ≡ level_at m n = is.lower in
        let level_node : level_at m node ≡ level = hangs.level_is in
        let lows : low x.1 ≡ low node = is.key_is ∙ same ∙ sym hangs.low_is in
        other (one_low size m low t (suc (low node)) x.1 node (omega arith) is.in_use hangs.in_use
        (omega (arith, lower, level_node, level_is)) (omega (arith, lows))
        (λ some. (let on = next_of size m low t x.1 is.in_use some in
        let above = on.above in omega (arith, lows, above))))

begins_apart : (from key : ℕ) (xs : Entries) → BeginsAt from xs → Each (λ x. x.0 ≢ key) xs
    → from ≢ key
begins_apart from key [] begins apart = absurd begins
begins_apart from key (x ∷ xs) begins apart = λ e. apart.0 (begins ∙ e)

-- Where the walk of a round has arrived: the entry is added, or the node is split in turn.
child_added : (h : Header) (c : ℕ) (m : Memory) (low : ℕ → ℕ) (s : Amounts) (level key node n : ℕ)
    (ending : Script) (next : ℕ → ℕ → ℕ → Script) (Q : Option Outcome → Type 0)
    → IsAt h m low s n key (level + 1) → IsHanging h.size m low level key node
    → Stops h c s ending Q → GoesOnAt h c s (level + 1) next Q
    → Q (alone c (add_child h level key node (loaded_at m n) ending next) m)
child_added h c m low s level key node n ending next Q at hangs at_stop at_next =
    subst (λ b.
    Q (alone c (cond b (unlock_node h n ending) (by_room (nat_lt (length (entries_at m n)) 4))) m))
    (sym (isnt_at_most (level_at m n) level (omega (arith, level_is))))
    (with_room (le_or 4 (length (entries_at m n))))
  where
    by_room : Bool → Script
    by_room room = cond room (add_entry h (loaded_at m n) key node BlockClose ending)
        (with_unused h (unlock_node h n ending) (λ new. split_entry h (loaded_at m n) key node new
        BlockClose (next (level + 1) (split_key (loaded_at m n) key node) new)))

    level_is : level_at m n ≡ level + 1
    level_is = at.level_is

    t : IsTree h.size m low
    t = at.shown.tree

    last : ℕ
    last = last_in h.size m

    fits : n < h.size
    fits = (let fits = t.last_low in let used = at.in_use in omega (arith, fits, used))

    apart : Each (λ x. x.0 ≢ key) (entries_at m n)
    apart = key_apart h.size m low level key node n t hangs at.in_use at.level_is

    place : (front : Entries) × (back : Entries) × HasPlace h m n key node front back
    place = placed h m low s n key (level + 1) node at apart

    front : Entries
    front = place.0

    back : Entries
    back = place.1

    count_is : length (entries_at m n) ≡ count_at m n
    count_is = length-entries m n 0 (count_at m n)

    sound : AreEntries last (level_at m) low (level_at m n) (low n) (bound_at m n)
        (front ++ (key, node) ∷ back)
    sound =
        entries_added last (level_at m) low (level_at m n) (low n) (bound_at m n) (entries_at m n)
        front back (
          key,
          node,
        ) (t.entries n at.in_use) place.2.is (at.covers.from, at.covers.to)
        (λ none. absurd (omega (arith, level_is, none)))
        (λ some. begins_apart (low n) key (entries_at m n)
        ((t.entries n at.in_use).inner some).first apart)
        (λ some. record {
          in_use = hangs.in_use;
          lower = ap (λ n. n + 1) hangs.level_is ∙ sym at.level_is;
          key_is = hangs.low_is;
        })

    -- the lock of the node is given back
    stopped : (m' : Memory) → ShowsBy h.size m' low s → SameLocks h m m'
        → Q (alone c ending (with_cell m' (lock_of h n) 0))
    stopped m' st locks =
        at_stop (with_cell m' (lock_of h n) 0) low
        (shows_same_words h.size m' (with_cell m' (lock_of h n) 0) low s
        (released_words h m' (lock_of h n) (omega arith)) st)
        (all_free h m' (lock_of h n) (still_free h m m' (lock_of h n) locks at.free))

    with_room : (4 ≤ length (entries_at m n)) ⊎ (length (entries_at m n) < 4)
        → Q (alone c (by_room (nat_lt (length (entries_at m n)) 4)) m)
    with_room (inr less) =
        subst (λ b. Q (alone c (by_room b) m)) (sym (is_below (length (entries_at m n)) 4 less))
        (added_played h c m low s n key (level + 1) node BlockClose ending Q (λ m later. refl) at
        front back place.2 (omega (arith, less, count_is))
        (λ m' r locks. stopped m' (rewritten_shows h.size m m' low s s at.shown n
        (front ++ (key, node) ∷ back) at.in_use r sound at.shown.formed
        (λ leaf. absurd (omega (arith, level_is, leaf))) (λ q a used leaf off over. refl)) locks))
    with_room (inl full) =
        subst (λ b. Q (alone c (by_room b) m)) (sym (isnt_below (length (entries_at m n)) 4 full))
        (unused_played h c m Q (unlock_node h n ending)
        (λ new. split_entry h (loaded_at m n) key node new BlockClose
        (next (level + 1) (split_key (loaded_at m n) key node) new))
        (at.free (used_lock h) (omega arith) (omega arith) (omega (arith, fits)))
        (λ none. stopped m at.shown (λ cell high. refl))
        (λ room. node_split h c m low s s n key (level + 1) node BlockClose
        (next (level + 1) (split_key (loaded_at m n) key node) (last_in h.size m + 1)) Q
        (λ m later. refl) at front back place.2
        (let few = t.few n at.in_use in omega (arith, few, full, count_is)) room sound
        at.shown.formed (λ leaf. absurd (omega (arith, level_is, leaf)))
        (λ q a used leaf off over. refl)
        (λ m' low' st free hangs'. at_next m' low' (split_key (loaded_at m n) key node)
        (last_in h.size m + 1) st free hangs')))

-- One round: the ascent ends, or the next round begins, in a memory that represents the same state.
pub round_played : (h : Header) (c : ℕ) (m : Memory) (low : ℕ → ℕ) (s : Amounts)
    (level key node : ℕ) (ending : Script) (next : ℕ → ℕ → ℕ → Script) (Q : Option Outcome → Type 0)
    → ShowsBy h.size m low s → FreeAll h m → IsHanging h.size m low level key node
    → Stops h c s ending Q → GoesOnAt h c s (level + 1) next Q
    → Q (alone c (ascend_once h Correct level key node ending next) m)
round_played h c m low s level key node ending next Q st free hangs at_stop at_next =
    take_played c (root_lock h) under m Q root_free (subst (λ b. Q (alone c (by_root b) held))
    (sym (is_below root h.size (omega (arith, fits, root_used))))
    (by_top (le_or (level_at held root) level)))
  where
    held : Memory
    held = with_cell m (root_lock h) (c + 1)

    root : ℕ
    root = root_in h.size held

    root_free : m (root_lock h) ≡ 0
    root_free = free (root_lock h) (omega arith) (omega arith)

    walking : ℕ → Script
    walking root = walk_from h Correct key (level + 1) h.size root ending
        (λ at. add_child h level key node at ending next)

    by_level : ℕ → Bool → Script
    by_level root low =
        cond low (grow_root h level key node root ending) (unlock_root h (walking root))

    under : Script
    under =
        step (Load (root_cell h)) (λ root. cond (nat_lt root h.size) (step (Load (level_cell root))
        (λ top. by_level root (nat_le top level))) (unlock_root h ending))

    by_root : Bool → Script
    by_root fits =
        cond fits (step (Load (level_cell root)) (λ top. by_level root (nat_le top level)))
        (unlock_root h ending)

    same : SameWords h.size m held
    same cell small = other_cell m (root_lock h) (c + 1) cell (omega (arith, small))

    shown : ShowsBy h.size held low s
    shown = shows_same_words h.size m held low s same st

    t : IsTree h.size held low
    t = shown.tree

    fits : last_in h.size held < h.size
    fits = t.last_low

    root_used : root_in h.size held ≤ last_in h.size held
    root_used = t.root_in_use

    hangs' : IsHanging h.size held low level key node
    hangs' = hanging_same_words h.size m held low level key node same st.tree hangs

    still : FreeBut h held (root_lock h)
    still lock from to apart = other_cell m (root_lock h) (c + 1) lock apart ∙ free lock from to

    -- an ascent that ends here gives back the root's lock
    stopped : Q (alone c (unlock_root h ending) held)
    stopped = unlocked c ending m (root_lock h) (c + 1) Q root_free (at_stop m low st free)

    grows : level_at held root ≤ level → Q (alone c (grow_root h level key node root ending) held)
    grows le =
        unused_played h c held Q (unlock_root h ending)
        (λ new.
        perform (Mark BlockOpen) (write_node new (level + 1) 0 0 ((0, root) ∷ (key, node) ∷ [])
        (perform (Store (root_cell h) new) (perform (Mark BlockClose) (unlock_root h ending)))))
        (still (used_lock h) (omega arith) (omega arith) (omega arith)) (λ none. stopped)
        (λ room. grow_played h c held Q level key node root BlockClose (unlock_root h ending)
        (λ m later. refl) room level_is refl
        (λ m' g locks. at_stop (with_cell m' (root_lock h) 0) _
        (shows_same_words h.size m' (with_cell m' (root_lock h) 0) _ s
        (released_words h m' (root_lock h) (omega arith))
        (grown_shows h.size held m' low key node t g hangs'.in_use (hangs'.level_is ∙ level_is)
        hangs'.low_is hangs'.some s shown.formed shown.shows))
        (all_free h m' (root_lock h) (still_free h held m' (root_lock h) locks still))))
      where
        level_is : level ≡ level_at held root
        level_is = (let high = t.highest node hangs'.in_use in
            let e = hangs'.level_is in omega (arith, high, e, le))

    walks : level < level_at held root → Q (alone c (unlock_root h (walking root)) held)
    walks lt =
        unlocked c (walking root) m (root_lock h) (c + 1) Q root_free (walk_arrives h c key
        (level + 1) m low ending (λ at. add_child h level key node at ending next) Q st.tree
        (λ n low. free (lock_of h n) (omega arith) (omega (arith, low))) there h.size root
        (omega (arith, root_used, last_same)) (omega (arith, first)) (omega (arith, lt, level_same))
        (let few = after_few (last_in h.size m) m low root (omega (arith, root_used, last_same)) in
        omega (arith, few, fits, last_same)))
      where
        last_same : last_in h.size held ≡ last_in h.size m
        last_same = same (12 * h.size + 1) (omega arith)

        first : low root ≡ 0
        first = t.root_first

        level_same : level_at held root ≡ level_at m root
        level_same = same (12 * root + 0) (omega (arith, fits, root_used))

        there : ArrivesAt h c m low key (level + 1)
            (λ at. add_child h level key node at ending next) Q
        there n used level_is over =
            child_added h c (with_lock h c m n) low s level key node n ending next Q
            (is_at h c m s (record { low = low; held = st; free = free }) n key (level + 1) used
            level_is over)
            (hanging_same_words h.size m (with_lock h c m n) low level key node
            (locked_words h c m n) st.tree hangs) at_stop at_next

    by_top : (level_at held root ≤ level) ⊎ (level < level_at held root)
        → Q (alone c (by_level root (nat_le (level_at held root) level)) held)
    by_top (inl le) = subst (λ b. Q (alone c (by_level root b) held))
        (sym (is_at_most (level_at held root) level le)) (grows le)
    by_top (inr lt) = subst (λ b. Q (alone c (by_level root b) held))
        (sym (isnt_at_most (level_at held root) level lt)) (walks lt)

-- The whole ascent ends in a memory that represents the same state.
pub ascend_played : (h : Header) (c : ℕ) (s : Amounts) (ending : Script)
    (Q : Option Outcome → Type 0)
    → Stops h c s ending Q → (rounds : ℕ) (m : Memory) (low : ℕ → ℕ) (level key node : ℕ)
    → ShowsBy h.size m low s → FreeAll h m → IsHanging h.size m low level key node
    → Q (alone c (ascend h Correct rounds level key node ending) m)
ascend_played h c s ending Q at_stop zero m low level key node st free hangs = at_stop m low st free
ascend_played h c s ending Q at_stop (suc rounds) m low level key node st free hangs =
    round_played h c m low s level key node ending
    (λ level' key' node'. ascend h Correct rounds level' key' node' ending) Q st free hangs at_stop
    (λ m' low' key' node' st' free' hangs'. ascend_played h c s ending Q at_stop rounds m' low'
    (level + 1) key' node' st' free' hangs')
