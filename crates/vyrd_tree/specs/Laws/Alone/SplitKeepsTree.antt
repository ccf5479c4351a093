-- Proofs of laws that an impl in src/ names: no contract says what is defined here.
-- A tree with one node more: a node that was split, or a new root.
use Rattle.std.proofs.Common.{◌≡◌, ◌≢◌, ℕ, ◌+◌, ◌*◌, ◌<◌, ◌≤◌, ◌⊎◌, inl, inr, cond, refl, ap, ◌∙◌}
use Rattle.std.proofs.Common.{sym, subst, arith}
use Rattle.std.specs.Prelude.{◌==◌}
use Rattle.std.specs.List.{AllByRecursion as Each}
use Rattle.vyrd_base.specs.Amounts.{Amounts, IsAmounts, amount_of}
use Rattle.vyrd_base.proofs.TestLaws.{is_same, isnt_same}
use Rattle.vyrd_memory.specs.Alone.{Memory}
use Rattle.vyrd_tree.specs.Laws.Alone.Counts.{le_or}
use Rattle.vyrd_tree.specs.Contents.{level_at, count_at, bound_at, right_at, last_in, root_in}
use Rattle.vyrd_tree.specs.Contents.{InRange, AreEntries, AreEntriesAt, IsChild, LeadsOn, HasLeft}
use Rattle.vyrd_tree.specs.Contents.{IsTree, entries_at, entries_from, Covers, Entries, gives}
use Rattle.vyrd_tree.specs.Contents.{ShowsBy}
use Rattle.vyrd_tree.specs.Laws.Alone.Entries.{each_more, gives-append, gives_none}
use Rattle.vyrd_tree.specs.Laws.Alone.EntriesStaySound.{AreHalves}
use Rattle.vyrd_tree.specs.Laws.Alone.Changes.{entries_kept, entries_alike}
use Rattle.vyrd_tree.specs.Procedures.Split.{lower_half, upper_half, first_key}

-- the lows with that of one more node
abbrev pub with_low : (ℕ → ℕ) → ℕ → ℕ → ℕ → ℕ
with_low low node key n = cond (n == node) key (low n)

pub new_low : (low : ℕ → ℕ) (node key : ℕ) → with_low low node key node ≡ key
new_low low node key = ap (λ b. cond b key (low node)) (is_same node node refl)

pub old_low : (low : ℕ → ℕ) (node key n : ℕ) → n ≢ node → with_low low node key n ≡ low n
old_low low node key n apart = ap (λ b. cond b key (low n)) (isnt_same n node apart)

-- a number up to the next one
pub next_or : (x last : ℕ) → x ≤ last + 1 → (x ≤ last) ⊎ (x ≡ last + 1)
next_or x last le = grind arith

pub same_or : (a b : ℕ) → (a ≡ b) ⊎ (a ≢ b)
same_or a b = grind arith

-- the words of a node are not those of others
pub off_words : (a n i : ℕ) → a ≢ n → i < 12 → (12 * a + i < 12 * n) ⊎ (12 * n + 12 ≤ 12 * a + i)
off_words a n i apart low = by_order (le_or a n)
  where
    by_order : (a ≤ n) ⊎ (n < a) → (12 * a + i < 12 * n) ⊎ (12 * n + 12 ≤ 12 * a + i)
    by_order (inl le) = inl (omega arith)
    by_order (inr lt) = inr (omega arith)

-- Node n was split: the new node follows the last one, takes over the bound and the right link, and
-- stands on the right of n.
pub record IsSplit (size : ℕ) (m m' : Memory) (n : ℕ) (lower upper : Entries)
    (key : ℕ) : Type 0 where
  pub room : last_in size m + 1 < size
  pub last_is : last_in size m' ≡ last_in size m + 1
  pub others : (cell : ℕ) → cell < 12 * size + 2 → cell ≢ 12 * size + 1
      → (cell < 12 * n + 1) ⊎ (12 * n + 12 ≤ cell)
      → (cell < 12 * (last_in size m + 1)) ⊎ (12 * (last_in size m + 1) + 12 ≤ cell)
      → m' cell ≡ m cell
  pub bound_is : bound_at m' n ≡ key
  pub right_is : right_at m' n ≡ last_in size m + 1
  pub few : count_at m' n ≤ 4
  pub entries : entries_at m' n ≡ lower
  pub new_level : level_at m' (last_in size m + 1) ≡ level_at m n
  pub new_bound : bound_at m' (last_in size m + 1) ≡ bound_at m n
  pub new_right : right_at m' (last_in size m + 1) ≡ right_at m n
  pub new_few : count_at m' (last_in size m + 1) ≤ 4
  pub new_entries : entries_at m' (last_in size m + 1) ≡ upper

-- A node that hangs on its left neighbour alone: it isn't the first of its level, and no entry of
-- an inner node leads to it.
pub record IsHanging (size : ℕ) (m : Memory) (low : ℕ → ℕ) (level key node : ℕ) : Type 0 where
  pub in_use : node ≤ last_in size m
  pub level_is : level_at m node ≡ level
  pub low_is : low node ≡ key
  pub some : key ≢ 0
  pub unnamed : (x : ℕ) → x ≤ last_in size m → level_at m x ≢ 0
      → Each (λ entry. entry.1 ≢ node) (entries_at m x)

module _ (size : ℕ) (m m' : Memory) (low : ℕ → ℕ) (n : ℕ) (five : Entries) (t : IsTree size m low)
    (used : n ≤ last_in size m)
    (sp : IsSplit size m m' n (lower_half five) (upper_half five) (first_key (upper_half five)))
    (ha : AreHalves (last_in size m) (level_at m) low (level_at m n) (low n) (bound_at m n) five)
  where
    abbrev last : ℕ
    last = last_in size m

    abbrev u : ℕ
    u = last_in size m + 1

    abbrev key : ℕ
    key = first_key (upper_half five)

    abbrev low' : ℕ → ℕ
    low' = with_low low (last_in size m + 1) (first_key (upper_half five))

    fits : last < size
    fits = t.last_low

    last_same : last_in size m' ≡ last + 1
    last_same = sp.last_is

    was : {x : ℕ} → x ≤ last_in size m' → x ≤ last + 1
    was in_use = omega (arith, last_same, in_use)

    still : {x : ℕ} → x ≤ last → x ≤ last_in size m'
    still in_use = omega (arith, last_same, in_use)

    not_new : {x : ℕ} → x ≤ last → x ≢ u
    not_new in_use = omega (arith, in_use)

    low_same : (x : ℕ) → x ≤ last → low' x ≡ low x
    low_same x in_use = old_low low u key x (not_new in_use)

    low_new : low' u ≡ key
    low_new = new_low low u key

    -- the words of other nodes
    word_same : (x i : ℕ) → x ≤ last → x ≢ n → i < 12 → m' (12 * x + i) ≡ m (12 * x + i)
    word_same x i in_use apart small =
        sp.others (12 * x + i) (omega (arith, fits, in_use)) (omega (arith, fits, in_use))
        (one_more (off_words x n i apart small))
        (off_words x u i (not_new in_use) small)
      where
        one_more : (12 * x + i < 12 * n) ⊎ (12 * n + 12 ≤ 12 * x + i)
            → (12 * x + i < 12 * n + 1) ⊎ (12 * n + 12 ≤ 12 * x + i)
        one_more (inl lt) = inl (omega arith)
        one_more (inr le) = inr le

    level_same : (x : ℕ) → x ≤ last → level_at m' x ≡ level_at m x
    level_same x in_use = by_place (same_or x n)
      where
        by_place : (x ≡ n) ⊎ (x ≢ n) → level_at m' x ≡ level_at m x
        by_place (inl at) =
            subst (λ x. level_at m' x ≡ level_at m x) (sym at)
            (sp.others (12 * n + 0) (omega (arith, fits, used)) (omega (arith, fits, used))
            (inl (omega arith)) (inl (omega (arith, used))))
        by_place (inr apart) = word_same x 0 in_use apart (omega arith)

    entries_same : (x : ℕ) → x ≤ last → x ≢ n
        → (entries_at m' x ≡ entries_at m x) × (count_at m' x ≡ count_at m x)
    entries_same x in_use apart = (
      ap (entries_from m' x 0) (word_same x 1 in_use apart (omega arith))
          ∙ entries_alike m m' x 0 (count_at m x)
          (λ j from to. (let few = t.few x in_use in (
            word_same x (4 + j) in_use apart (omega arith),
            word_same x (8 + j) in_use apart (omega arith),
          ))),
      word_same x 1 in_use apart (omega arith),
    )

    root_same : root_in size m' ≡ root_in size m
    root_same = sp.others (12 * size) (omega arith) (omega arith) (inr (omega (arith, fits, used)))
        (inr (let room = sp.room in omega arith))

    above_n : low n < key
    above_n = ha.higher

    keep : (above from bound : ℕ) (xs : Entries)
        → AreEntries last (level_at m) low above from bound xs
        → AreEntries (last_in size m') (level_at m') low' above from bound xs
    keep above from bound xs es =
        entries_kept last (last_in size m') (level_at m) (level_at m') low low' above from bound xs
        (omega (arith, last_same)) level_same low_same es

    ends_is : (x : ℕ) → x ≤ last + 1 → right_at m' x ≡ 0 → bound_at m' x ≡ 0
    ends_is x in_use none = by_new (next_or x last in_use)
      where
        by_place : x ≤ last → (x ≡ n) ⊎ (x ≢ n) → bound_at m' x ≡ 0
        by_place old (inl at) = absurd (let right = sp.right_is in
            let zero = sym (ap (right_at m') at) ∙ none in omega (arith, right, zero))
        by_place old (inr apart) = word_same x 2 old apart (omega arith)
            ∙ t.ends x old (sym (word_same x 3 old apart (omega arith)) ∙ none)

        by_new : (x ≤ last) ⊎ (x ≡ last + 1) → bound_at m' x ≡ 0
        by_new (inl old) = by_place old (same_or x n)
        by_new (inr at) = ap (bound_at m') at ∙ sp.new_bound
            ∙ t.ends n used (sym sp.new_right ∙ sym (ap (right_at m') at) ∙ none)

    link_is : (x : ℕ) → x ≤ last + 1 → right_at m' x ≢ 0 → LeadsOn (last_in size m') m' low' x
    link_is x in_use on = by_new (next_or x last in_use)
      where
        at_n : LeadsOn (last_in size m') m' low' n
        at_n = record {
          in_use = (let right = sp.right_is in omega (arith, last_same, right));
          same_level = ap (level_at m') sp.right_is ∙ sp.new_level ∙ sym (level_same n used);
          begins = ap low' sp.right_is ∙ low_new ∙ sym sp.bound_is;
          above = (let a = low_same n used in let b = sp.bound_is in omega (arith, a, b, above_n));
        }

        at_u : right_at m' u ≢ 0 → LeadsOn (last_in size m') m' low' u
        at_u on =
            let right : right_at m' u ≡ right_at m n = sp.new_right in
            let l = t.link n used (λ none. on (right ∙ none)) in
            record {
              in_use = (let in_use = l.in_use in omega (arith, last_same, right, in_use));
              same_level =
                  ap (level_at m') right ∙ level_same (right_at m n) l.in_use ∙ l.same_level
                  ∙ sym sp.new_level;
              begins =
                  ap low' right ∙ low_same (right_at m n) l.in_use ∙ l.begins ∙ sym sp.new_bound;
              above = (let bound = sp.new_bound in let above = l.above in let within =
                  ha.within (omega (arith, above)) in
                  omega (arith, low_new, bound, within));
            }

        at_other : x ≤ last → x ≢ n → LeadsOn (last_in size m') m' low' x
        at_other old apart =
            let right : right_at m' x ≡ right_at m x = word_same x 3 old apart (omega arith) in
            let bound : bound_at m' x ≡ bound_at m x = word_same x 2 old apart (omega arith) in
            let l = t.link x old (λ none. on (right ∙ none)) in
            record {
              in_use = (let in_use = l.in_use in omega (arith, last_same, right, in_use));
              same_level =
                  ap (level_at m') right ∙ level_same (right_at m x) l.in_use ∙ l.same_level
                  ∙ sym (level_same x old);
              begins = ap low' right ∙ low_same (right_at m x) l.in_use ∙ l.begins ∙ sym bound;
              above =
                  (let a = low_same x old in let above = l.above in omega (arith, a, bound, above));
            }

        by_place : x ≤ last → (x ≡ n) ⊎ (x ≢ n) → LeadsOn (last_in size m') m' low' x
        by_place old (inl at) = subst (LeadsOn (last_in size m') m' low') (sym at) at_n
        by_place old (inr apart) = at_other old apart

        by_new : (x ≤ last) ⊎ (x ≡ last + 1) → LeadsOn (last_in size m') m' low' x
        by_new (inl old) = by_place old (same_or x n)
        by_new (inr at) = subst (LeadsOn (last_in size m') m' low') (sym at)
            (at_u (λ none. on (ap (right_at m') at ∙ none)))

    left_is : (x : ℕ) → x ≤ last + 1 → low' x ≢ 0 → HasLeft (last_in size m') m' x
    left_is x in_use some = by_new (next_or x last in_use)
      where
        by_left : (l : HasLeft last m x) → (l.node ≡ n) ⊎ (l.node ≢ n)
            → HasLeft (last_in size m') m' x
        by_left l (inl at) = record {
          node = u;
          in_use = omega (arith, last_same);
          leads = sp.new_right ∙ sym (ap (right_at m) at)
              ∙ l.leads;
          some = l.some;
        }
        by_left l (inr apart) = record {
          node = l.node;
          in_use = still l.in_use;
          leads = word_same l.node 3 l.in_use apart (omega arith) ∙ l.leads;
          some = l.some;
        }

        by_new : (x ≤ last) ⊎ (x ≡ last + 1) → HasLeft (last_in size m') m' x
        by_new (inl old) = let l = t.left x old (λ none. some (low_same x old ∙ none)) in
            by_left l (same_or l.node n)
        by_new (inr at) = record {
          node = n;
          in_use = still used;
          leads = sp.right_is ∙ sym at;
          some = omega (arith, at);
        }

    first_is_old : (x : ℕ) → x ≤ last + 1 → low' x ≡ 0 → x ≤ last
    first_is_old x in_use none = by_new (next_or x last in_use)
      where
        by_new : (x ≤ last) ⊎ (x ≡ last + 1) → x ≤ last
        by_new (inl old) = old
        by_new (inr at) =
            absurd (let e = sym (ap low' at) ∙ none in omega (arith, low_new, above_n, e))

    few_is : (x : ℕ) → x ≤ last + 1 → count_at m' x ≤ 4
    few_is x in_use = by_new (next_or x last in_use)
      where
        by_place : x ≤ last → (x ≡ n) ⊎ (x ≢ n) → count_at m' x ≤ 4
        by_place old (inl at) = subst (λ x. count_at m' x ≤ 4) (sym at) sp.few
        by_place old (inr apart) =
            let same = (entries_same x old apart).1 in let few = t.few x old in omega arith

        by_new : (x ≤ last) ⊎ (x ≡ last + 1) → count_at m' x ≤ 4
        by_new (inl old) = by_place old (same_or x n)
        by_new (inr at) = subst (λ x. count_at m' x ≤ 4) (sym at) sp.new_few

    entries_are : (x : ℕ) → x ≤ last + 1 → AreEntriesAt (last_in size m') m' low' x
    entries_are x in_use = by_new (next_or x last in_use)
      where
        put : (level from bound : ℕ) (xs : Entries) (x : ℕ) → level_at m' x ≡ level → low' x ≡ from
            → bound_at m' x ≡ bound → entries_at m' x ≡ xs
            → AreEntries (last_in size m') (level_at m') low' level from bound xs
            → AreEntriesAt (last_in size m') m' low' x
        put level from bound xs x a b d e es =
            subst
            (λ level. AreEntries (last_in size m') (level_at m') low' level (low' x) (bound_at m' x)
            (entries_at m' x)) (sym a)
            (subst
            (λ from. AreEntries (last_in size m') (level_at m') low' level from (bound_at m' x)
            (entries_at m' x)) (sym b)
            (subst
            (λ bound. AreEntries (last_in size m') (level_at m') low' level from bound
            (entries_at m' x)) (sym d)
            (subst (AreEntries (last_in size m') (level_at m') low' level from bound) (sym e) es)))

        by_place : x ≤ last → (x ≡ n) ⊎ (x ≢ n) → AreEntriesAt (last_in size m') m' low' x
        by_place old (inl at) =
            subst (AreEntriesAt (last_in size m') m' low') (sym at) (put (level_at m n) (low n) key
            (lower_half five) n (level_same n used) (low_same n used) sp.bound_is sp.entries
            (keep (level_at m n) (low n) key (lower_half five) ha.lower))
        by_place old (inr apart) =
            put (level_at m x) (low x) (bound_at m x) (entries_at m x) x (level_same x old)
            (low_same x old) (word_same x 2 old apart (omega arith))
            (entries_same x old apart).0
            (keep (level_at m x) (low x) (bound_at m x) (entries_at m x) (t.entries x old))

        by_new : (x ≤ last) ⊎ (x ≡ last + 1) → AreEntriesAt (last_in size m') m' low' x
        by_new (inl old) = by_place old (same_or x n)
        by_new (inr at) =
            subst (AreEntriesAt (last_in size m') m' low') (sym at) (put (level_at m n) key
            (bound_at m n) (upper_half five) u sp.new_level low_new sp.new_bound sp.new_entries
            (keep (level_at m n) key (bound_at m n) (upper_half five) ha.upper))

    -- it is a tree again
    pub split_tree : IsTree size m'
        (with_low low (last_in size m + 1) (first_key (upper_half five)))
    split_tree = record {
      last_low = (let room = sp.room in omega (arith, last_same, room));
      root_in_use = (let old = t.root_in_use in omega (arith, last_same, root_same, old));
      root_first = ap low' root_same ∙ low_same (root_in size m) t.root_in_use ∙ t.root_first;
      zero_leaf = level_same 0 (omega arith) ∙ t.zero_leaf;
      highest = λ x in_use. highest_is x (was in_use) (next_or x last (was in_use));
      ends = λ x in_use. ends_is x (was in_use);
      link = λ x in_use. link_is x (was in_use);
      left = λ x in_use. left_is x (was in_use);
      one_first = λ a b in_use_a in_use_b level zero_a zero_b.
          (let old_a = first_is_old a (was in_use_a) zero_a in let old_b =
          first_is_old b (was in_use_b) zero_b in
          t.one_first a b old_a old_b (sym (level_same a old_a) ∙ level ∙ level_same b old_b)
          (sym (low_same a old_a)
          ∙ zero_a) (sym (low_same b old_b) ∙ zero_b));
      few = λ x in_use. few_is x (was in_use);
      entries = λ x in_use. entries_are x (was in_use);
    }
      where
        top : level_at m' (root_in size m') ≡ level_at m (root_in size m)
        top = ap (level_at m') root_same ∙ level_same (root_in size m) t.root_in_use

        highest_is : (x : ℕ) → x ≤ last + 1 → (x ≤ last) ⊎ (x ≡ last + 1)
            → level_at m' x ≤ level_at m' (root_in size m')
        highest_is x in_use (inl old) = let high = t.highest x old in
            let same = level_same x old in omega (arith, top, high, same)
        highest_is x in_use (inr at) = let high = t.highest n used in
            let same = ap (level_at m') at ∙ sp.new_level in omega (arith, top, high, same)

    above_all : (q : ℕ) → q < key → Each (λ x. x.0 ≢ q) (upper_half five)
    above_all q lt = each_more (InRange key (bound_at m n)) (λ x. x.0 ≢ q)
        (λ x is e. (let le = is.0 in omega (arith, le, lt, e)))
        (upper_half five) ha.upper.in_range

    below_all : (q : ℕ) → key ≤ q → Each (λ x. x.0 ≢ q) (lower_half five)
    below_all q le = each_more (InRange (low n) key) (λ x. x.0 ≢ q)
        (λ x is e. (let lt = is.1 (omega (arith, above_n)) in omega (arith, le, lt, e)))
        (lower_half five) ha.lower.in_range

    -- and the state is the one that differs where the five entries say so
    pub split_shows : (s s' : Amounts) → IsAmounts s'
        → ((q a : ℕ) → a ≤ last_in size m → level_at m a ≡ 0 → Covers m low a q
        → amount_of s q ≡ gives q (entries_at m a))
        → (level_at m n ≡ 0 → (q : ℕ) → Covers m low n q → amount_of s' q ≡ gives q five)
        → ((q a : ℕ) → a ≤ last_in size m → level_at m a ≡ 0 → a ≢ n → Covers m low a q
        → amount_of s' q ≡ amount_of s q)
        → ShowsBy size m' (with_low low (last_in size m + 1) (first_key (upper_half five))) s'
    split_shows s s' formed shows inside outside =
        record { tree = split_tree; shows = shows'; formed = formed }
      where
        lower_gives : level_at m n ≡ 0 → (q : ℕ) → q < key
            → gives q five ≡ gives q (lower_half five)
        lower_gives leaf q lt =
            ap (gives q) ha.whole ∙ gives-append q (lower_half five) (upper_half five)
            ∙ plus (gives q (lower_half five))
            (gives_none q (upper_half five) (ha.upper.leaf leaf) (above_all q lt))
          where
            plus : {b : ℕ} (a : ℕ) → b ≡ 0 → a + b ≡ a
            plus a e = omega arith

        upper_gives : level_at m n ≡ 0 → (q : ℕ) → key ≤ q
            → gives q five ≡ gives q (upper_half five)
        upper_gives leaf q le =
            ap (gives q) ha.whole ∙ gives-append q (lower_half five) (upper_half five)
            ∙ plus (gives q (upper_half five))
            (gives_none q (lower_half five) (ha.lower.leaf leaf) (below_all q le))
          where
            plus : {b : ℕ} (a : ℕ) → b ≡ 0 → b + a ≡ a
            plus a e = omega arith

        shows' : (q a : ℕ) → a ≤ last_in size m' → level_at m' a ≡ 0 → Covers m' low' a q
            → amount_of s' q ≡ gives q (entries_at m' a)
        shows' q a in_use leaf over = by_new (next_or a last (was in_use))
          where
            by_place : a ≤ last → (a ≡ n) ⊎ (a ≢ n) → amount_of s' q ≡ gives q (entries_at m' a)
            by_place old (inl at) =
                let leaf_n : level_at m n ≡ 0 =
                sym (level_same n used) ∙ sym (ap (level_at m') at) ∙ leaf in
                let from : low n ≤ q = (let from = over.from in
                let e = low_same n used in let f = ap low' at in omega (arith, from, e, f)) in
                let lt : q < key = (let to = over.to in let bound = ap (bound_at m') at
                ∙ sp.bound_is in let less = to (omega (arith, bound, above_n)) in
                omega (arith, less, bound)) in
                let over_n : Covers m low n q = record {
                  from = from;
                  to = λ some. (let within = ha.within some in omega (arith, lt, within));
                } in
                inside leaf_n q over_n ∙ lower_gives leaf_n q lt ∙ ap (gives q) (sym sp.entries)
                ∙ ap (λ x. gives q (entries_at m' x)) (sym at)
            by_place old (inr apart) =
                let over_a : Covers m low a q = record {
                  from = (let from = over.from in let e = low_same a old in omega (arith, from, e));
                  to = subst (λ b. b ≢ 0 → q < b) (word_same a 2 old apart (omega arith)) over.to;
                } in
                let leaf_a = sym (level_same a old) ∙ leaf in
                outside q a old leaf_a apart over_a ∙ shows q a old leaf_a over_a
                ∙ ap (gives q) (sym (entries_same a old apart).0)

            by_new : (a ≤ last) ⊎ (a ≡ last + 1) → amount_of s' q ≡ gives q (entries_at m' a)
            by_new (inl old) = by_place old (same_or a n)
            by_new (inr at) =
                let leaf_n : level_at m n ≡ 0 =
                sym sp.new_level ∙ sym (ap (level_at m') at) ∙ leaf in
                let le : key ≤ q =
                (let from = over.from in let e = ap low' at ∙ low_new in omega (arith, from, e)) in
                let bound : bound_at m' a ≡ bound_at m n = ap (bound_at m') at ∙ sp.new_bound in
                let over_n : Covers m low n q = record {
                  from = omega (arith, le, above_n);
                  to = subst (λ b. b ≢ 0 → q < b) bound over.to;
                } in
                inside leaf_n q over_n ∙ upper_gives leaf_n q le ∙ ap (gives q) (sym sp.new_entries)
                ∙ ap (λ x. gives q (entries_at m' x)) (sym at)

    -- no entry leads to the new node
    unnamed_in : (above from bound : ℕ) (xs : Entries) → above ≢ 0
        → AreEntries last (level_at m) low above from bound xs
        → Each (λ entry. entry.1 ≢ u) xs
    unnamed_in above from bound xs some es =
        each_more (IsChild last (level_at m) low above) (λ entry. entry.1 ≢ u)
        (λ entry is e. (let used = is.in_use in omega (arith, used, e))) xs (es.inner some).child

    -- and the new node hangs on the one that was split
    pub split_hangs : IsHanging size m'
        (with_low low (last_in size m + 1) (first_key (upper_half five))) (level_at m n)
        (first_key (upper_half five)) (last_in size m + 1)
    split_hangs = record {
      in_use = omega (arith, last_same);
      level_is = sp.new_level;
      low_is = low_new;
      some = omega (arith, above_n);
      unnamed = λ x in_use some. by_new x some (next_or x last (was in_use));
    }
      where
        by_place : (x : ℕ) → x ≤ last → level_at m' x ≢ 0 → (x ≡ n) ⊎ (x ≢ n)
            → Each (λ entry. entry.1 ≢ u) (entries_at m' x)
        by_place x old some (inl at) =
            subst (λ x. Each (λ entry. entry.1 ≢ u) (entries_at m' x)) (sym at)
            (subst (Each (λ entry. entry.1 ≢ u)) (sym sp.entries) (unnamed_in (level_at m n) (low n)
            key (lower_half five) (λ none. some (ap (level_at m') at ∙ level_same n used ∙ none))
            ha.lower))
        by_place x old some (inr apart) =
            subst (Each (λ entry. entry.1 ≢ u)) (sym (entries_same x old apart).0)
            (unnamed_in (level_at m x) (low x) (bound_at m x) (entries_at m x)
            (λ none. some (level_same x old ∙ none)) (t.entries x old))

        by_new : (x : ℕ) → level_at m' x ≢ 0 → (x ≤ last) ⊎ (x ≡ last + 1)
            → Each (λ entry. entry.1 ≢ u) (entries_at m' x)
        by_new x some (inl old) = by_place x old some (same_or x n)
        by_new x some (inr at) =
            subst (λ x. Each (λ entry. entry.1 ≢ u) (entries_at m' x)) (sym at)
            (subst (Each (λ entry. entry.1 ≢ u)) (sym sp.new_entries) (unnamed_in (level_at m n) key
            (bound_at m n) (upper_half five)
            (λ none. some (ap (level_at m') at ∙ sp.new_level ∙ none)) ha.upper))
