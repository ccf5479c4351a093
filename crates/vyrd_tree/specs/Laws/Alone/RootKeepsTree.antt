-- Proofs of laws that an impl in src/ names: no contract says what is defined here.
-- A tree with a new root above the old one.
use Rattle.std.proofs.Common.{◌≡◌, ◌≢◌, ℕ, ◌+◌, ◌*◌, ◌<◌, ◌≤◌, ◌⊎◌, inl, inr, [], ◌∷◌, refl, ap}
use Rattle.std.proofs.Common.{◌∙◌, sym, subst, arith}
use Rattle.vyrd_base.specs.Amounts.{Amounts, IsAmounts, amount_of}
use Rattle.vyrd_memory.specs.Alone.{Memory}
use Rattle.vyrd_tree.specs.Contents.{level_at, count_at, bound_at, right_at, last_in, root_in}
use Rattle.vyrd_tree.specs.Contents.{AreEntries, AreEntriesAt, LeadsOn, HasLeft, IsTree, entries_at}
use Rattle.vyrd_tree.specs.Contents.{entries_from, Covers, Entries, gives, ShowsBy}
use Rattle.vyrd_tree.specs.Laws.Alone.Changes.{entries_kept, entries_alike}
use Rattle.vyrd_tree.specs.Laws.Alone.SplitKeepsTree.{with_low, new_low, old_low, next_or}
use Rattle.vyrd_tree.specs.Laws.Alone.SplitKeepsTree.{off_words}

-- A new root follows the last node, one level above the old root. It has two children: the old
-- root, and another node of its level.
pub record IsGrown (size : ℕ) (m m' : Memory) (key child : ℕ) : Type 0 where
  pub room : last_in size m + 1 < size
  pub last_is : last_in size m' ≡ last_in size m + 1
  pub root_is : root_in size m' ≡ last_in size m + 1
  pub others : (cell : ℕ) → cell < 12 * size
      → (cell < 12 * (last_in size m + 1)) ⊎ (12 * (last_in size m + 1) + 12 ≤ cell)
      → m' cell ≡ m cell
  pub new_level : level_at m' (last_in size m + 1) ≡ level_at m (root_in size m) + 1
  pub new_bound : bound_at m' (last_in size m + 1) ≡ 0
  pub new_right : right_at m' (last_in size m + 1) ≡ 0
  pub new_few : count_at m' (last_in size m + 1) ≤ 4
  pub new_entries : entries_at m' (last_in size m + 1) ≡ (0, root_in size m) ∷ (key, child) ∷ []

module _ (size : ℕ) (m m' : Memory) (low : ℕ → ℕ) (key child : ℕ) (t : IsTree size m low)
    (g : IsGrown size m m' key child) (used : child ≤ last_in size m)
    (same_level : level_at m child ≡ level_at m (root_in size m)) (low_is : low child ≡ key)
    (some : key ≢ 0) where
  abbrev last : ℕ
  last = last_in size m

  abbrev u : ℕ
  u = last_in size m + 1

  abbrev low' : ℕ → ℕ
  low' = with_low low (last_in size m + 1) 0

  fits : last < size
  fits = t.last_low

  last_same : last_in size m' ≡ last + 1
  last_same = g.last_is

  was : {x : ℕ} → x ≤ last_in size m' → x ≤ last + 1
  was in_use = omega (arith, last_same, in_use)

  still : {x : ℕ} → x ≤ last → x ≤ last_in size m'
  still in_use = omega (arith, last_same, in_use)

  low_same : (x : ℕ) → x ≤ last → low' x ≡ low x
  low_same x in_use = old_low low u 0 x (omega (arith, in_use))

  low_new : low' u ≡ 0
  low_new = new_low low u 0

  word_same : (x i : ℕ) → x ≤ last → i < 12 → m' (12 * x + i) ≡ m (12 * x + i)
  word_same x i in_use small = g.others (12 * x + i) (omega (arith, fits, in_use, small))
      (off_words x u i (omega (arith, in_use)) small)

  level_same : (x : ℕ) → x ≤ last → level_at m' x ≡ level_at m x
  level_same x in_use = word_same x 0 in_use (omega arith)

  entries_same : (x : ℕ) → x ≤ last → entries_at m' x ≡ entries_at m x
  entries_same x in_use =
      ap (entries_from m' x 0) (word_same x 1 in_use (omega arith))
      ∙ entries_alike m m' x 0 (count_at m x)
      (λ j from to. (let few = t.few x in_use in
      (word_same x (4 + j) in_use (omega arith), word_same x (8 + j) in_use (omega arith))))

  put : (level from bound : ℕ) (xs : Entries) (x : ℕ) → level_at m' x ≡ level → low' x ≡ from
      → bound_at m' x ≡ bound → entries_at m' x ≡ xs
      → AreEntries (last_in size m') (level_at m') low' level from bound xs
      → AreEntriesAt (last_in size m') m' low' x
  put level from bound xs x a b d e es =
      subst
      (λ level. AreEntries (last_in size m') (level_at m') low' level (low' x) (bound_at m' x)
      (entries_at m' x)) (sym a)
      (subst
      (λ from. AreEntries (last_in size m') (level_at m') low' level from (bound_at m' x)
      (entries_at m' x)) (sym b)
      (subst
      (λ bound. AreEntries (last_in size m') (level_at m') low' level from bound (entries_at m' x))
      (sym d)
      (subst (AreEntries (last_in size m') (level_at m') low' level from bound) (sym e) es)))

  root_used : root_in size m ≤ last
  root_used = t.root_in_use

  root_low : low (root_in size m) ≡ 0
  root_low = t.root_first

  new_entries_are : AreEntries (last_in size m') (level_at m') low'
      (level_at m (root_in size m) + 1) 0 0 ((0, root_in size m) ∷ (key, child) ∷ [])
  new_entries_are = record {
    rise = ((omega (arith, some), tt), (tt, tt));
    in_range = (
      (omega arith, λ none. absurd (none refl)),
      ((omega arith, λ none. absurd (none refl)), tt),
    );
    leaf = λ none. absurd (omega (arith, none));
    inner = λ some. record {
      two = omega arith;
      first = refl;
      child = (
        record {
          in_use = still root_used;
          lower = ap (λ n. n + 1) (level_same (root_in size m) root_used);
          key_is = low_same (root_in size m) root_used ∙ root_low;
        },
        (
          record {
            in_use = still used;
            lower = ap (λ n. n + 1) (level_same child used ∙ same_level);
            key_is = low_same child used ∙ low_is;
          },
          tt,
        ),
      );
    };
  }

  entries_are : (x : ℕ) → x ≤ last + 1 → AreEntriesAt (last_in size m') m' low' x
  entries_are x in_use = by_new (next_or x last in_use)
    where
      by_new : (x ≤ last) ⊎ (x ≡ last + 1) → AreEntriesAt (last_in size m') m' low' x
      by_new (inl old) =
          put (level_at m x) (low x) (bound_at m x) (entries_at m x) x (level_same x old)
          (low_same x old) (word_same x 2 old (omega arith)) (entries_same x old)
          (entries_kept last (last_in size m') (level_at m) (level_at m') low low' (level_at m x)
          (low x) (bound_at m x) (entries_at m x) (omega (arith, last_same)) level_same low_same
          (t.entries x old))
      by_new (inr at) =
          subst (AreEntriesAt (last_in size m') m' low') (sym at)
          (put (level_at m (root_in size m) + 1) 0 0 ((0, root_in size m) ∷ (key, child) ∷ []) u
          g.new_level low_new g.new_bound g.new_entries new_entries_are)

  link_is : (x : ℕ) → x ≤ last → right_at m' x ≢ 0 → LeadsOn (last_in size m') m' low' x
  link_is x old on =
      let right : right_at m' x ≡ right_at m x = word_same x 3 old (omega arith) in
      let bound : bound_at m' x ≡ bound_at m x = word_same x 2 old (omega arith) in
      let l = t.link x old (λ none. on (right ∙ none)) in
      record {
        in_use = (let in_use = l.in_use in omega (arith, last_same, right, in_use));
        same_level = ap (level_at m') right ∙ level_same (right_at m x) l.in_use ∙ l.same_level
            ∙ sym (level_same x old);
        begins = ap low' right ∙ low_same (right_at m x) l.in_use ∙ l.begins ∙ sym bound;
        above = (let a = low_same x old in let above = l.above in omega (arith, a, bound, above));
      }

  top : level_at m' (root_in size m') ≡ level_at m (root_in size m) + 1
  top = ap (level_at m') g.root_is ∙ g.new_level

  one_first_is : (a b : ℕ) → (a ≤ last) ⊎ (a ≡ last + 1) → (b ≤ last) ⊎ (b ≡ last + 1)
      → level_at m' a ≡ level_at m' b → low' a ≡ 0 → low' b ≡ 0 → a ≡ b
  one_first_is a b (inl old_a) (inl old_b) level zero_a zero_b =
      t.one_first a b old_a old_b (sym (level_same a old_a) ∙ level ∙ level_same b old_b)
      (sym (low_same a old_a) ∙ zero_a) (sym (low_same b old_b) ∙ zero_b)
  one_first_is a b (inl old_a) (inr at) level zero_a zero_b =
      absurd (let high = t.highest a old_a in
      let same = level_same a old_a in
      let new = ap (level_at m') at ∙ g.new_level in omega (arith, high, same, new, level))
  one_first_is a b (inr at) (inl old_b) level zero_a zero_b =
      absurd (let high = t.highest b old_b in
      let same = level_same b old_b in
      let new = ap (level_at m') at ∙ g.new_level in omega (arith, high, same, new, level))
  one_first_is a b (inr at) (inr at') level zero_a zero_b = at ∙ sym at'

  -- it is a tree again
  pub grown_tree : IsTree size m' (with_low low (last_in size m + 1) 0)
  grown_tree = record {
    last_low = (let room = g.room in omega (arith, last_same, room));
    root_in_use = (let root = g.root_is in omega (arith, last_same, root));
    root_first = ap low' g.root_is ∙ low_new;
    zero_leaf = level_same 0 (omega arith) ∙ t.zero_leaf;
    highest = λ x in_use. highest_is x (next_or x last (was in_use));
    ends = λ x in_use none. ends_is x (next_or x last (was in_use)) none;
    link = λ x in_use on. by_new_link x (next_or x last (was in_use)) on;
    left = λ x in_use some. left_is x (next_or x last (was in_use)) some;
    one_first = λ a b in_use_a in_use_b. one_first_is a b (next_or a last (was in_use_a))
        (next_or b last (was in_use_b));
    few = λ x in_use. few_is x (next_or x last (was in_use));
    entries = λ x in_use. entries_are x (was in_use);
  }
    where
      highest_is : (x : ℕ) → (x ≤ last) ⊎ (x ≡ last + 1)
          → level_at m' x ≤ level_at m' (root_in size m')
      highest_is x (inl old) = let high = t.highest x old in
          let same = level_same x old in omega (arith, top, high, same)
      highest_is x (inr at) =
          let same = ap (level_at m') at ∙ g.new_level in omega (arith, top, same)

      ends_is : (x : ℕ) → (x ≤ last) ⊎ (x ≡ last + 1) → right_at m' x ≡ 0 → bound_at m' x ≡ 0
      ends_is x (inl old) none = word_same x 2 old (omega arith)
          ∙ t.ends x old (sym (word_same x 3 old (omega arith)) ∙ none)
      ends_is x (inr at) none = ap (bound_at m') at ∙ g.new_bound

      by_new_link : (x : ℕ) → (x ≤ last) ⊎ (x ≡ last + 1) → right_at m' x ≢ 0
          → LeadsOn (last_in size m') m' low' x
      by_new_link x (inl old) on = link_is x old on
      by_new_link x (inr at) on = absurd (on (ap (right_at m') at ∙ g.new_right))

      left_is : (x : ℕ) → (x ≤ last) ⊎ (x ≡ last + 1) → low' x ≢ 0 → HasLeft (last_in size m') m' x
      left_is x (inl old) some =
          let l = t.left x old (λ none. some (low_same x old ∙ none)) in
          record {
            node = l.node;
            in_use = still l.in_use;
            leads = word_same l.node 3 l.in_use (omega arith) ∙ l.leads;
            some = l.some;
          }
      left_is x (inr at) some = absurd (some (ap low' at ∙ low_new))

      few_is : (x : ℕ) → (x ≤ last) ⊎ (x ≡ last + 1) → count_at m' x ≤ 4
      few_is x (inl old) =
          let same = word_same x 1 old (omega arith) in let few = t.few x old in omega arith
      few_is x (inr at) = subst (λ x. count_at m' x ≤ 4) (sym at) g.new_few

  -- and the state is the same
  pub grown_shows : (s : Amounts) → IsAmounts s
      → ((q a : ℕ) → a ≤ last_in size m → level_at m a ≡ 0 → Covers m low a q
      → amount_of s q ≡ gives q (entries_at m a))
      → ShowsBy size m' (with_low low (last_in size m + 1) 0) s
  grown_shows s formed shows = record {
    tree = grown_tree;
    shows = λ q a in_use leaf over. shows' q a leaf over (next_or a last (was in_use));
    formed = formed;
  }
    where
      shows' : (q a : ℕ) → level_at m' a ≡ 0 → Covers m' low' a q → (a ≤ last) ⊎ (a ≡ last + 1)
          → amount_of s q ≡ gives q (entries_at m' a)
      shows' q a leaf over (inl old) =
          let over_a : Covers m low a q = record {
            from = (let from = over.from in let e = low_same a old in omega (arith, from, e));
            to = subst (λ b. b ≢ 0 → q < b) (word_same a 2 old (omega arith)) over.to;
          } in
          shows q a old (sym (level_same a old) ∙ leaf) over_a
          ∙ ap (gives q) (sym (entries_same a old))
      shows' q a leaf over (inr at) =
          absurd (let same = ap (level_at m') at ∙ g.new_level in omega (arith, same, leaf))
