-- Proofs of laws that an impl in src/ names: no contract says what is defined here. A memory that
-- represents a state of the tree, and memories that differ from it in the entries of one node.
use Rattle.std.proofs.Common.{◌≡◌, ◌≢◌, ℕ, ◌+◌, ◌*◌, ◌<◌, ◌≤◌, ◌⊎◌, inl, inr, true, List, Some}
use Rattle.std.proofs.Common.{refl, ap, ◌∙◌, sym, subst, arith}
use Rattle.std.specs.Prelude.{slice_index}
use Rattle.vyrd_base.specs.declared.header.Header.{Header}
use Rattle.vyrd_base.specs.declared.subject.Subject.TheVariants.{Tree}
use Rattle.vyrd_base.specs.Layout.{plain_words, lock_words, plain_words_of, lock_words_of}
use Rattle.vyrd_base.specs.Amounts.{Amounts, IsAmounts, amount_of, collected, given}
use Rattle.vyrd_base.specs.Represented.{is_sound}
use Rattle.vyrd_base.specs.Tree.{chain_parts}
use Rattle.vyrd_base.specs.Tree.{is_tree, last_of, low_of}
use Rattle.vyrd_base.specs.Views.{view_of_words, parts_of}
use Rattle.vyrd_base.proofs.SumLaws.{amount_of-collected, IsAmounts-collected}
use Rattle.vyrd_memory.specs.Alone.{Memory, words_in, state_in}
use Rattle.vyrd_memory.proofs.Memories.{Represents, represents, represented, word_at}
use Rattle.vyrd_base.proofs.PlaceLaws.{map_alike_from}
use Rattle.vyrd_memory.proofs.PartSums.{collected-is}
use Rattle.vyrd_tree.specs.Contents.{level_at, count_at, bound_at, right_at, key_at, value_at}
use Rattle.vyrd_tree.specs.Contents.{last_in, root_in, AreEntries, AreEntriesAt, IsChild, LeadsOn}
use Rattle.vyrd_tree.specs.Contents.{IsTree, entries_at, entries_from, Covers, Entries, gives}
use Rattle.vyrd_tree.specs.Contents.{ShowsBy, TreeRepresents}
use Rattle.vyrd_tree.specs.Laws.Alone.Order.{covered}
use Rattle.vyrd_tree.specs.Laws.Alone.Entries.{each_more}
use Rattle.vyrd_tree.specs.Laws.Alone.View.{leaf_gives}
use Rattle.vyrd_tree.specs.Laws.Alone.Tested.{tree_of_words, words_of_tree}

-- entries stay sound if the children's levels and lows stay
pub entries_kept : (last last' : ℕ) (level level' low low' : ℕ → ℕ) (above from bound : ℕ)
    (xs : Entries)
    → last ≤ last' → ((n : ℕ) → n ≤ last → level' n ≡ level n)
    → ((n : ℕ) → n ≤ last → low' n ≡ low n) → AreEntries last level low above from bound xs
    → AreEntries last' level' low' above from bound xs
entries_kept last last' level level' low low' above from bound xs more same_level same_low es =
    record {
      rise = es.rise;
      in_range = es.in_range;
      leaf = es.leaf;
      inner = λ some. let is = es.inner some in record {
        two = is.two;
        first = is.first;
        child = each_more (IsChild last level low above) (IsChild last' level' low' above)
            (λ entry c. record {
              in_use = (let used = c.in_use in omega arith);
              lower = ap (λ n. n + 1) (same_level entry.1 c.in_use) ∙ c.lower;
              key_is = same_low entry.1 c.in_use ∙ c.key_is;
            }) xs is.child;
      };
    }

-- entries from the same words are the same
pub entries_alike : (m m' : Memory) (n place many : ℕ)
    → ((j : ℕ) → place ≤ j → j < place + many
    → (key_at m' n j ≡ key_at m n j) × (value_at m' n j ≡ value_at m n j))
    → entries_from m' n place many ≡ entries_from m n place many
entries_alike m m' n place many same =
    map_alike_from (λ j. (key_at m' n j, value_at m' n j)) (λ j. (key_at m n j, value_at m n j))
    place many
    (λ j from to. let both = same j from to in
    ap (λ key. (key, value_at m' n j)) both.0 ∙ ap (λ value. (key_at m n j, value)) both.1)

-- the nodes in use, the root, and each node's level, bound and right link are the same
pub record SameShape (size : ℕ) (m m' : Memory) : Type 0 where
  pub last_is : last_in size m' ≡ last_in size m
  pub root_is : root_in size m' ≡ root_in size m
  pub level_is : (n : ℕ) → n ≤ last_in size m → level_at m' n ≡ level_at m n
  pub bound_is : (n : ℕ) → n ≤ last_in size m → bound_at m' n ≡ bound_at m n
  pub right_is : (n : ℕ) → n ≤ last_in size m → right_at m' n ≡ right_at m n

pub same_shape_tree : (size : ℕ) (m m' : Memory) (low : ℕ → ℕ) → IsTree size m low
    → SameShape size m m'
    → ((n : ℕ) → n ≤ last_in size m → count_at m' n ≤ 4)
    → ((n : ℕ) → n ≤ last_in size m
    → AreEntries (last_in size m) (level_at m) low (level_at m n) (low n) (bound_at m n)
    (entries_at m' n))
    → IsTree size m' low
same_shape_tree size m m' low t same few entries = record {
  last_low = (let fits = t.last_low in omega (arith, last_same));
  root_in_use = (let fits = t.root_in_use in omega (arith, last_same, root_same));
  root_first = ap low root_same ∙ t.root_first;
  zero_leaf = same.level_is 0 (omega arith) ∙ t.zero_leaf;
  highest = λ n used. (let high = t.highest n (was used) in let here = same.level_is n (was used) in
      let top = same.level_is (root_in size m) t.root_in_use in
      let at = ap (level_at m') root_same in omega arith);
  ends = λ n used none. same.bound_is n (was used)
      ∙ t.ends n (was used) (sym (same.right_is n (was used)) ∙ none);
  link = λ n used on. link_is n (was used) on;
  left = λ n used some. (let l = t.left n (was used) some in record {
    node = l.node;
    in_use = (let in_use = l.in_use in omega (arith, last_same));
    leads = same.right_is l.node l.in_use ∙ l.leads;
    some = l.some;
  });
  one_first = λ a b used_a used_b level zero_a zero_b. t.one_first a b (was used_a) (was used_b)
      (sym (same.level_is a (was used_a)) ∙ level ∙ same.level_is b (was used_b)) zero_a zero_b;
  few = λ n used. few n (was used);
  entries = λ n used. entries_is n (was used);
}
  where
    last_same : last_in size m' ≡ last_in size m
    last_same = same.last_is

    root_same : root_in size m' ≡ root_in size m
    root_same = same.root_is

    was : {n : ℕ} → n ≤ last_in size m' → n ≤ last_in size m
    was used = omega (arith, last_same, used)

    link_is : (n : ℕ) → n ≤ last_in size m → right_at m' n ≢ 0 → LeadsOn (last_in size m') m' low n
    link_is n used on =
        let right : right_at m' n ≡ right_at m n = same.right_is n used in
        let l = t.link n used (λ none. on (right ∙ none)) in
        record {
          in_use = (let in_use = l.in_use in omega (arith, last_same, right));
          same_level = ap (level_at m') right ∙ same.level_is (right_at m n) l.in_use ∙ l.same_level
              ∙ sym (same.level_is n used);
          begins = ap low right ∙ l.begins ∙ sym (same.bound_is n used);
          above = subst (λ b. low n < b) (sym (same.bound_is n used)) l.above;
        }

    entries_is : (n : ℕ) → n ≤ last_in size m → AreEntriesAt (last_in size m') m' low n
    entries_is n used =
        subst
        (λ above. AreEntries (last_in size m') (level_at m') low above (low n) (bound_at m' n)
        (entries_at m' n)) (sym (same.level_is n used))
        (subst
        (λ bound. AreEntries (last_in size m') (level_at m') low (level_at m n) (low n) bound
        (entries_at m' n)) (sym (same.bound_is n used))
        (entries_kept (last_in size m) (last_in size m') (level_at m) (level_at m') low low
        (level_at m n) (low n) (bound_at m n) (entries_at m' n) (omega (arith, last_same))
        same.level_is (λ n used. refl) (entries n used)))

-- the same plain words
abbrev pub SameWords : ℕ → Memory → Memory → Type 0
SameWords size m m' = (cell : ℕ) → cell < 12 * size + 2 → m' cell ≡ m cell

pub same_words_entries : (size : ℕ) (m m' : Memory) → SameWords size m m' → (n : ℕ) → n < size
    → count_at m n ≤ 4
    → entries_at m' n ≡ entries_at m n
same_words_entries size m m' same n fits few =
    ap (entries_from m' n 0) (same (12 * n + 1) (omega arith))
    ∙ entries_alike m m' n 0 (count_at m n)
    (λ j from to.
    (same (12 * n + (4 + j)) (omega (arith, to)), same (12 * n + (8 + j)) (omega (arith, to))))

pub same_words_tree : (size : ℕ) (m m' : Memory) (low : ℕ → ℕ) → SameWords size m m'
    → IsTree size m low → IsTree size m' low
same_words_tree size m m' low same t =
    same_shape_tree size m m' low t
    (record {
      last_is = same (12 * size + 1) (omega arith);
      root_is = same (12 * size) (omega arith);
      level_is = λ n used. same (12 * n + 0) (omega (arith, fits, used));
      bound_is = λ n used. same (12 * n + 2) (omega (arith, fits, used));
      right_is = λ n used. same (12 * n + 3) (omega (arith, fits, used));
    }) (λ n used. (let few = t.few n used in
    let count = same (12 * n + 1) (omega (arith, fits, used)) in omega arith))
    (λ n used.
    subst (AreEntries (last_in size m) (level_at m) low (level_at m n) (low n) (bound_at m n))
    (sym (same_words_entries size m m' same n (omega (arith, fits, used)) (t.few n used)))
    (t.entries n used))
  where
    fits : last_in size m < size
    fits = t.last_low

cells_are : (h : Header) → h.subject ≡ Tree → plain_words h + lock_words h ≡ 13 * h.size + 4
cells_are h is = ap (λ s. plain_words_of s h.size + lock_words_of s h.size) is ∙ sum h.size
  where
    sum : (n : ℕ) → 12 * n + 2 + (n + 2) ≡ 13 * n + 4
    sum n = omega arith

plain_is : (h : Header) → h.subject ≡ Tree → plain_words h ≡ 12 * h.size + 2
plain_is h is = ap (λ s. plain_words_of s h.size) is

pub words_same : (h : Header) (m : Memory) → h.subject ≡ Tree
    → SameWords h.size m (slice_index (words_in h m))
words_same h m is cell low =
    word_at h m cell (let cells = cells_are h is in omega (arith, low, cells))

pub covers_same : (size : ℕ) (m m' : Memory) (low : ℕ → ℕ) (n q : ℕ) → SameWords size m m'
    → n < size → Covers m low n q → Covers m' low n q
covers_same size m m' low n q same fits over = record {
  from = over.from;
  to = subst (λ b. b ≢ 0 → q < b) (sym (same (12 * n + 2) (omega arith))) over.to;
}

-- what a memory that represents a state is
pub tree_represents : (h : Header) (m : Memory) (s : Amounts) → h.subject ≡ Tree
    → state_in h m ≡ Some s → TreeRepresents h m s
unfolding view_of_words
tree_represents h m s is e = record {
  low = low;
  held = record {
    tree = t;
    shows = shows;
    formed = subst IsAmounts shown (IsAmounts-collected (chain_parts h.size words));
  };
  free = λ lock from to. st.free lock (omega (arith, plain, from)) (omega (arith, cells, to));
}
  where
    st : Represents h m s
    st = represents h m s e

    plain : plain_words h ≡ 12 * h.size + 2
    plain = plain_is h is

    cells : plain_words h + lock_words h ≡ 13 * h.size + 4
    cells = cells_are h is

    words : List ℕ
    words = words_in h m

    is_one : is_tree h.size (words_in h m) ≡ true
    is_one = ap (λ s. is_sound s h.size (words_in h m)) (sym is) ∙ st.sound

    low : ℕ → ℕ
    low = low_of (last_of h.size (words_in h m)) (words_in h m)

    of_words : IsTree h.size (slice_index (words_in h m)) low
    of_words = tree_of_words h.size (words_in h m) is_one

    same : SameWords h.size (slice_index (words_in h m)) m
    same cell fits = sym (words_same h m is cell fits)

    t : IsTree h.size m low
    t = same_words_tree h.size (slice_index (words_in h m)) m low same of_words

    shown : collected (chain_parts h.size words) ≡ s
    shown = ap (λ s. collected (parts_of s h.size (words_in h m))) (sym is) ∙ st.shows

    shows : (q n : ℕ) → n ≤ last_in h.size m → level_at m n ≡ 0 → Covers m low n q
        → amount_of s q ≡ gives q (entries_at m n)
    shows q n used leaf over =
        let fits : n < h.size = (let fits = t.last_low in omega (arith, used)) in
        ap (λ s. amount_of s q) (sym shown) ∙ amount_of-collected (chain_parts h.size words) q
        ∙ leaf_gives h.size words low of_words q n
        (let last = words_same h m is (12 * h.size + 1) (omega arith) in omega (arith, used, last))
        (words_same h m is (12 * n + 0) (omega arith) ∙ leaf)
        (covers_same h.size m (slice_index (words_in h m)) low n q (words_same h m is) fits over)
        ∙ ap (gives q) (same_words_entries h.size m (slice_index (words_in h m)) (words_same h m is)
        n fits (t.few n used))

-- a memory that is so represents the state
pub tree_represented : (h : Header) (m : Memory) (s : Amounts) → h.subject ≡ Tree
    → TreeRepresents h m s → state_in h m ≡ Some s
unfolding view_of_words
tree_represented h m s is st = represented h m s (record {
  sound = ap (λ s. is_sound s h.size (words_in h m)) is
      ∙ words_of_tree h.size (words_in h m) low of_words;
  free = λ lock from to. st.free lock (let plain = plain_is h is in omega (arith, plain, from))
      (let cells = cells_are h is in
      omega (arith, cells, to));
  shows = ap (λ s. collected (parts_of s h.size (words_in h m))) is
      ∙ collected-is (chain_parts h.size words) s st.held.formed given_is;
})
  where
    words : List ℕ
    words = words_in h m

    low : ℕ → ℕ
    low = st.low

    of_words : IsTree h.size (slice_index (words_in h m)) low
    of_words =
        same_words_tree h.size m (slice_index (words_in h m)) low (words_same h m is) st.held.tree

    given_is : (q : ℕ) → given q (chain_parts h.size words) ≡ amount_of s q
    given_is q =
        let c = covered h.size m low st.held.tree q in
        let t = st.held.tree in
        let used : c.node ≤ last_in h.size m = c.in_use in
        let fits : c.node < h.size = (let fits = t.last_low in omega arith) in
        leaf_gives h.size words low of_words q c.node
        (let last = words_same h m is (12 * h.size + 1) (omega arith) in omega (arith, used, last))
        (words_same h m is (12 * c.node + 0) (omega arith) ∙ c.level_is)
        (covers_same h.size m (slice_index (words_in h m)) low c.node q (words_same h m is) fits
        c.covers)
        ∙ ap (gives q) (same_words_entries h.size m (slice_index (words_in h m)) (words_same h m is)
        c.node fits (t.few c.node used))
        ∙ sym (st.held.shows q c.node used c.level_is c.covers)

-- one node has other entries, and nothing else has changed
pub record Rewritten (size : ℕ) (m m' : Memory) (n : ℕ) (xs : Entries) : Type 0 where
  pub others : (cell : ℕ) → cell < 12 * size + 2 → (cell < 12 * n + 1) ⊎ (12 * n + 12 ≤ cell)
      → m' cell ≡ m cell
  pub bound_is : bound_at m' n ≡ bound_at m n
  pub right_is : right_at m' n ≡ right_at m n
  pub few : count_at m' n ≤ 4
  pub entries : entries_at m' n ≡ xs

-- other nodes than n are before or after it
pub apart_or : (a b : ℕ) → (a ≡ b) ⊎ ((a < b) ⊎ (b < a))
apart_or a b = grind arith

pub off_node : (a n i : ℕ) → (a < n) ⊎ (n < a) → i < 12
    → (12 * a + i < 12 * n + 1) ⊎ (12 * n + 12 ≤ 12 * a + i)
off_node a n i (inl lt) low = inl (omega arith)
off_node a n i (inr lt) low = inr (omega arith)

pub rewritten_shape : (size : ℕ) (m m' : Memory) (low : ℕ → ℕ) (n : ℕ) (xs : Entries)
    → IsTree size m low → n ≤ last_in size m
    → Rewritten size m m' n xs
    → SameShape size m m'
rewritten_shape size m m' low n xs t used r = record {
  last_is = r.others (12 * size + 1) (omega arith) (inr (omega (arith, fits, used)));
  root_is = r.others (12 * size) (omega arith) (inr (omega (arith, fits, used)));
  level_is = λ a used_a. by_place a used_a 0 (omega arith) (apart_or a n)
      (λ at. subst (λ a. level_at m' a ≡ level_at m a) (sym at)
      (r.others (12 * n + 0) (omega (arith, fits, used)) (inl (omega arith))));
  bound_is = λ a used_a. by_place a used_a 2 (omega arith) (apart_or a n)
      (λ at. subst (λ a. bound_at m' a ≡ bound_at m a) (sym at) r.bound_is);
  right_is = λ a used_a. by_place a used_a 3 (omega arith) (apart_or a n)
      (λ at. subst (λ a. right_at m' a ≡ right_at m a) (sym at) r.right_is);
}
  where
    fits : last_in size m < size
    fits = t.last_low

    by_place : (a : ℕ) → a ≤ last_in size m → (i : ℕ) → i < 12 → (a ≡ n) ⊎ ((a < n) ⊎ (n < a))
        → (a ≡ n → m' (12 * a + i) ≡ m (12 * a + i)) → m' (12 * a + i)
        ≡ m (12 * a + i)
    by_place a used_a i low (inl at) here = here at
    by_place a used_a i low (inr apart) here =
        r.others (12 * a + i) (omega (arith, fits, used_a)) (off_node a n i apart low)

pub rewritten_others : (size : ℕ) (m m' : Memory) (low : ℕ → ℕ) (n : ℕ) (xs : Entries)
    → IsTree size m low → Rewritten size m m' n xs → (a : ℕ) → a ≤ last_in size m
    → (a < n) ⊎ (n < a)
    → (entries_at m' a ≡ entries_at m a) × (count_at m' a ≡ count_at m a)
rewritten_others size m m' low n xs t r a used apart = (
  ap (entries_from m' a 0) count ∙ entries_alike m m' a 0 (count_at m a)
      (λ j from to. (let few = t.few a used in
      (word (4 + j) (omega arith), word (8 + j) (omega arith)))),
  count,
)
  where
    word : (i : ℕ) → i < 12 → m' (12 * a + i) ≡ m (12 * a + i)
    word i low = r.others (12 * a + i) (let fits = t.last_low in
        omega (arith, used)) (off_node a n i apart low)

    count : count_at m' a ≡ count_at m a
    count = word 1 (omega arith)

-- with sound entries it is a tree again
pub rewritten_tree : (size : ℕ) (m m' : Memory) (low : ℕ → ℕ) (n : ℕ) (xs : Entries)
    → IsTree size m low → n ≤ last_in size m → Rewritten size m m' n xs
    → AreEntries (last_in size m) (level_at m) low (level_at m n) (low n) (bound_at m n) xs
    → IsTree size m' low
rewritten_tree size m m' low n xs t used r es =
    same_shape_tree size m m' low t (rewritten_shape size m m' low n xs t used r)
    (λ a used_a. few a used_a (apart_or a n))
    (λ a used_a. entries a used_a (apart_or a n))
  where
    few : (a : ℕ) → a ≤ last_in size m → (a ≡ n) ⊎ ((a < n) ⊎ (n < a)) → count_at m' a ≤ 4
    few a used_a (inl at) = subst (λ a. count_at m' a ≤ 4) (sym at) r.few
    few a used_a (inr apart) =
        let same = (rewritten_others size m m' low n xs t r a used_a apart).1 in
        let few = t.few a used_a in omega arith

    entries : (a : ℕ) → a ≤ last_in size m → (a ≡ n) ⊎ ((a < n) ⊎ (n < a))
        → AreEntries (last_in size m) (level_at m) low (level_at m a) (low a) (bound_at m a)
        (entries_at m' a)
    entries a used_a (inl at) =
        subst (λ a. AreEntries (last_in size m) (level_at m) low (level_at m a) (low a)
        (bound_at m a) (entries_at m' a)) (sym at)
        (subst (AreEntries (last_in size m) (level_at m) low (level_at m n) (low n) (bound_at m n))
        (sym r.entries) es)
    entries a used_a (inr apart) =
        subst (AreEntries (last_in size m) (level_at m) low (level_at m a) (low a) (bound_at m a))
        (sym (rewritten_others size m m' low n xs t r a used_a apart).0)
        (t.entries a used_a)

-- the state after a leaf has other entries
pub rewritten_shows : (size : ℕ) (m m' : Memory) (low : ℕ → ℕ) (s s' : Amounts)
    (st : ShowsBy size m low s) (n : ℕ) (xs : Entries)
    → n ≤ last_in size m → Rewritten size m m' n xs
    → AreEntries (last_in size m) (level_at m) low (level_at m n) (low n) (bound_at m n) xs
    → IsAmounts s' → (level_at m n ≡ 0 → (q : ℕ) → Covers m low n q → amount_of s' q ≡ gives q xs)
    → ((q a : ℕ) → a ≤ last_in size m → level_at m a ≡ 0 → (a < n) ⊎ (n < a) → Covers m low a q
    → amount_of s' q ≡ amount_of s q)
    → ShowsBy size m' low s'
rewritten_shows size m m' low s s' st n xs used r es formed inside outside = record {
  tree = rewritten_tree size m m' low n xs st.tree used r es;
  shows = λ q a used_a leaf over.
      (let used : a ≤ last_in size m = (let last = shape.last_is in omega (arith, used_a)) in
      by_place q a used (sym (shape.level_is a used)
      ∙ leaf)
      (record { from = over.from; to = subst (λ b. b ≢ 0 → q < b) (shape.bound_is a used) over.to })
      (apart_or a n));
  formed = formed;
}
  where
    shape : SameShape size m m'
    shape = rewritten_shape size m m' low n xs st.tree used r

    by_place : (q a : ℕ) → a ≤ last_in size m → level_at m a ≡ 0 → Covers m low a q
        → (a ≡ n) ⊎ ((a < n) ⊎ (n < a))
        → amount_of s' q ≡ gives q (entries_at m' a)
    by_place q a used_a leaf over (inl at) =
        inside (subst (λ a. level_at m a ≡ 0) at leaf) q (subst (λ a. Covers m low a q) at over)
        ∙ ap (gives q) (sym r.entries)
        ∙ ap (λ a. gives q (entries_at m' a)) (sym at)
    by_place q a used_a leaf over (inr apart) =
        outside q a used_a leaf apart over ∙ st.shows q a used_a leaf over
        ∙ ap (gives q) (sym (rewritten_others size m m' low n xs st.tree r a used_a apart).0)
