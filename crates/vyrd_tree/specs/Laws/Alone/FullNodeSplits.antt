-- Proofs of laws that an impl in src/ names: no contract says what is defined here.
-- A full node gets one more entry: it is split, and the new node hangs on it.
use Rattle.std.proofs.Common.{◌≡◌, ◌≢◌, ℕ, ◌+◌, ◌*◌, ◌<◌, ◌≤◌, ◌∷◌, ◌++◌, length, Option, ap, ◌∙◌}
use Rattle.std.proofs.Common.{sym, subst, arith}
use Rattle.std.specs.List.{AllByRecursion as Each}
use Rattle.vyrd_base.specs.declared.header.Header.{Header}
use Rattle.vyrd_base.specs.declared.log.Kind.{Kind}
use Rattle.vyrd_base.specs.Amounts.{Amounts, IsAmounts, amount_of}
use Rattle.vyrd_memory.specs.declared.act.Act.TheVariants.{Mark}
use Rattle.vyrd_memory.specs.Scripts.{Script, perform}
use Rattle.vyrd_memory.specs.Alone.{Memory, with_cell, Outcome, alone}
use Rattle.vyrd_tree.specs.Contents.{level_at, count_at, bound_at, last_in, AreEntries, IsTree}
use Rattle.vyrd_tree.specs.Contents.{entries_at, Covers, Entries, gives, ShowsBy}
use Rattle.vyrd_tree.specs.Laws.Alone.Entries.{between, IsBetween}
use Rattle.vyrd_tree.specs.Laws.Alone.EntriesStaySound.{length_join, with_entry_is, place_below_is}
use Rattle.vyrd_tree.specs.Laws.Alone.EntriesStaySound.{AreHalves, halves}
use Rattle.vyrd_tree.specs.Laws.Alone.Tested.{length-entries}
use Rattle.vyrd_tree.specs.Laws.Alone.Changes.{SameWords, same_words_entries}
use Rattle.vyrd_tree.specs.Laws.Alone.WalkArrives.{loaded_at}
use Rattle.vyrd_tree.specs.Laws.Alone.SplitKeepsTree.{with_low, IsSplit, IsHanging, split_tree}
use Rattle.vyrd_tree.specs.Laws.Alone.SplitKeepsTree.{split_shows, split_hangs}
use Rattle.vyrd_tree.specs.Laws.Alone.BlocksPlayed.{FreeAll, all_free, released_words}
use Rattle.vyrd_tree.specs.Laws.Alone.BlocksPlayed.{shows_same_words, IsAt, SameLocks, still_free}
use Rattle.vyrd_tree.specs.Laws.Alone.BlocksPlayed.{GoesOn, rewritten}
use Rattle.vyrd_tree.specs.Laws.Alone.SplitWrites.{split_played}
use Rattle.vyrd_tree.specs.Cells.{used_cell, lock_of, unlock_node}
use Rattle.vyrd_tree.specs.Procedures.Split.{with_entry, place_below, lower_half, upper_half}
use Rattle.vyrd_tree.specs.Procedures.Split.{first_key, split, split_entry, split_key, add_entry}
use Rattle.vyrd_tree.specs.Procedures.Split.{rewrite}
use Rattle.vyrd_tree.specs.Laws.Alone.Changes.{Rewritten}

-- a node hangs as well in a memory with the same plain words
pub hanging_same_words : (size : ℕ) (m m' : Memory) (low : ℕ → ℕ) (level key node : ℕ)
    → SameWords size m m' → IsTree size m low
    → IsHanging size m low level key node
    → IsHanging size m' low level key node
hanging_same_words size m m' low level key node same t hangs = record {
  in_use = (let used = hangs.in_use in omega (arith, last_same, used));
  level_is =
      same (12 * node + 0) (let used = hangs.in_use in omega (arith, fits, used)) ∙ hangs.level_is;
  low_is = hangs.low_is;
  some = hangs.some;
  unnamed = λ x used some. unnamed x (omega (arith, last_same, used)) some;
}
  where
    fits : last_in size m < size
    fits = t.last_low

    last_same : last_in size m' ≡ last_in size m
    last_same = same (12 * size + 1) (omega arith)

    unnamed : (x : ℕ) → x ≤ last_in size m → level_at m' x ≢ 0
        → Each (λ entry. entry.1 ≢ node) (entries_at m' x)
    unnamed x used some =
        subst (Each (λ entry. entry.1 ≢ node))
        (sym (same_words_entries size m m' same x (omega (arith, fits, used)) (t.few x used)))
        (hangs.unnamed x used (λ none. some (same (12 * x + 0) (omega (arith, fits, used)) ∙ none)))

-- The place of a new entry among those of a node.
pub record HasPlace (h : Header) (m : Memory) (n key value : ℕ)
    (front back : Entries) : Type 0 where
  pub parts : entries_at m n ≡ front ++ back
  pub place : place_below key (entries_at m n) ≡ length front
  pub whole : with_entry (entries_at m n) key value ≡ front ++ (key, value) ∷ back
  pub many : length front + length back ≡ count_at m n
  pub is : IsBetween key (entries_at m n) front back

pub placed : (h : Header) (m : Memory) (low : ℕ → ℕ) (s : Amounts) (n key level value : ℕ)
    → IsAt h m low s n key level
    → Each (λ x. x.0 ≢ key) (entries_at m n)
    → (front : Entries) × (back : Entries) × HasPlace h m n key value front back
placed h m low s n key level value at apart =
    let found = between key (entries_at m n) (at.shown.tree.entries n at.in_use).rise apart in
    let is = found.2 in (
      found.0,
      found.1,
      record {
        parts = is.parts;
        place = place_below_is (entries_at m n) found.0 found.1 key is;
        whole = with_entry_is (entries_at m n) found.0 found.1 key value is;
        many = sym (length_join found.0 found.1) ∙ sym (ap length is.parts)
            ∙ length-entries m n 0 (count_at m n);
        is = is;
      },
    )

-- a node with room for it gets the entry
pub added_played : (h : Header) (c : ℕ) (m : Memory) (low : ℕ → ℕ) (s : Amounts)
    (n key level value : ℕ) (close : Kind) (later : Script) (Q : Option Outcome → Type 0)
    → GoesOn close → IsAt h m low s n key level → (front back : Entries)
    → HasPlace h m n key value front back → count_at m n < 4
    → ((m' : Memory) → Rewritten h.size m m' n (front ++ (key, value) ∷ back) → SameLocks h m m'
    → Q (alone c later (with_cell m' (lock_of h n) 0)))
    → Q (alone c (add_entry h (loaded_at m n) key value close later) m)
added_played h c m low s n key level value close later Q closes at front back p room goes_on =
    subst
    (λ place. Q (alone c (rewrite h n place (with_entry (entries_at m n) key value) close later) m))
    (sym p.place)
    (subst (λ xs. Q (alone c (rewrite h n (length front) xs close later) m)) (sym p.whole)
    (rewritten h c m Q n (count_at m n) front back ((key, value) ∷ back) close later closes fits
    p.parts
    (let a = length_join front ((key, value) ∷ back) in
    let many = p.many in omega (arith, a, many, room)) goes_on))
  where
    fits : n < h.size
    fits = (let t = at.shown.tree in
        let fits = t.last_low in let used = at.in_use in omega (arith, fits, used))

-- A full node is split for the entry, if an unused node was got. What follows begins once its lock
-- has been given back.
pub node_split : (h : Header) (c : ℕ) (m : Memory) (low : ℕ → ℕ) (s s' : Amounts)
    (n key level value : ℕ) (close : Kind) (later : Script) (Q : Option Outcome → Type 0)
    → GoesOn close → IsAt h m low s n key level → (front back : Entries)
    → HasPlace h m n key value front back → count_at m n ≡ 4 → last_in h.size m + 1 < h.size
    → AreEntries (last_in h.size m) (level_at m) low (level_at m n) (low n) (bound_at m n)
    (front ++ (key, value) ∷ back)
    → IsAmounts s'
    → (level_at m n ≡ 0 → (q : ℕ) → Covers m low n q
    → amount_of s' q ≡ gives q (front ++ (key, value) ∷ back))
    → ((q a : ℕ) → a ≤ last_in h.size m → level_at m a ≡ 0 → a ≢ n → Covers m low a q
    → amount_of s' q ≡ amount_of s q)
    → ((m' : Memory) (low' : ℕ → ℕ) → ShowsBy h.size m' low' s' → FreeAll h m'
    → IsHanging h.size m' low' level (split_key (loaded_at m n) key value) (last_in h.size m + 1)
    → Q (alone c later m'))
    → Q (alone c (split_entry h (loaded_at m n) key value (last_in h.size m + 1) close later)
    (with_cell m (used_cell h) (last_in h.size m + 1)))
node_split h c m low s s' n key level value close later Q closes at front back p full room es formed
    inside outside goes_on =
    subst
    (λ place.
    Q (alone c (split (loaded_at m n) place (with_entry (entries_at m n) key value) u after) got))
    (sym p.place)
    (subst (λ xs. Q (alone c (split (loaded_at m n) (length front) xs u after) got)) (sym p.whole)
    (split_played h c m Q n front back (key, value) close later closes at.in_use room full p.parts
    ha.three ha.two done))
  where
    u : ℕ
    u = last_in h.size m + 1

    five : Entries
    five = front ++ (key, value) ∷ back

    got : Memory
    got = with_cell m (used_cell h) (last_in h.size m + 1)

    after : Script
    after = perform (Mark close) (unlock_node h n later)

    ha : AreHalves (last_in h.size m) (level_at m) low (level_at m n) (low n) (bound_at m n)
        (front ++ (key, value) ∷ back)
    ha = halves (last_in h.size m) (level_at m) low (level_at m n) (low n) (bound_at m n) five
        (let a = length_join front ((key, value) ∷ back) in
        let many = p.many in omega (arith, a, many, full)) es

    done : (m' : Memory)
        → IsSplit h.size m m' n (lower_half (front ++ (key, value) ∷ back)) (upper_half (front
        ++ (key, value) ∷ back)) (first_key (upper_half (front ++ (key, value) ∷ back)))
        → SameLocks h m m'
        → Q (alone c later (with_cell m' (lock_of h n) 0))
    done m' sp locks =
        let low' : ℕ → ℕ = with_low low (last_in h.size m + 1)
        (first_key (upper_half (front ++ (key, value) ∷ back))) in
        let t = at.shown.tree in
        let same = released_words h m' (lock_of h n) (omega arith) in
        let hangs = split_hangs h.size m m' low n five t at.in_use sp ha in
        goes_on (with_cell m' (lock_of h n) 0) low'
        (shows_same_words h.size m' (with_cell m' (lock_of h n) 0) low' s' same (split_shows h.size
        m m' low n five t at.in_use sp ha s s' formed at.shown.shows inside outside))
        (all_free h m' (lock_of h n) (still_free h m m' (lock_of h n) locks at.free))
        (hanging_same_words h.size m' (with_cell m' (lock_of h n) 0) low' level
        (split_key (loaded_at m n) key value) u same
        (split_tree h.size m m' low n five t at.in_use sp ha)
        (subst (λ level. IsHanging h.size m' low' level (split_key (loaded_at m n) key value) u)
        at.level_is
        (subst (λ k. IsHanging h.size m' low' (level_at m n) k u)
        (sym (ap (λ xs. first_key (upper_half xs)) p.whole)) hangs)))
