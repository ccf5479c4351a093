-- The linked nodes after one of them was split, and the new node is linked on its right.
use Rattle.vyrd_every.proofs.Prelude
use Prelude.{◌≡◌, ◌≢◌, ℕ, ◌+◌, ◌*◌, ◌<◌, ◌≤◌, ◌⊎◌, inl, inr, true, false, cond, refl, ap, ◌∙◌, sym}
use Prelude.{subst, arith, ◌==◌, Amounts, IsAmounts, amount_of, same_of, is_same, isnt_same, Memory}
use Prelude.{level_at, count_at, bound_at, right_at, last_in, root_in, entries_at, Covers, Entries}
use Prelude.{gives, each_more, gives-append, gives_none, AreHalves, entries_alike, new_low, old_low}
use Prelude.{off_words, lower_half, upper_half, first_key, never, Shape, LeadsDown, HasEntries}
use Prelude.{LeadsRight, HasNeighbour, IsLinked, Unnamed, Hangs, ShowsState, Grows}
use Rattle.std.specs.List.{AllByRecursion as Each}
use Rattle.vyrd_tree.specs.Laws.Alone.SplitKeepsTree.{with_low, same_or}
use Rattle.vyrd_every.proofs.Trees.Kept.{coded, uncode, entries_grow, linked_low}

-- the nodes with one more linked
abbrev pub with_node : Shape → ℕ → ℕ → Shape
with_node g u key = record {
  linked = λ x. cond (x == u) true (g.linked x);
  low = with_low g.low u key;
  top = g.top;
}

-- Node n was split: node u takes over its bound and its right link, and stands on its right.
pub record IsSplitAt (size : ℕ) (m m' : Memory) (n u : ℕ) (lower upper : Entries)
    (key : ℕ) : Type 0 where
  pub others : (cell : ℕ) → cell < 12 * size + 2 → (cell < 12 * n + 1) ⊎ (12 * n + 12 ≤ cell)
      → (cell < 12 * u) ⊎ (12 * u + 12 ≤ cell) → m' cell ≡ m cell
  pub bound_is : bound_at m' n ≡ key
  pub right_is : right_at m' n ≡ u
  pub few : count_at m' n ≤ 4
  pub entries : entries_at m' n ≡ lower
  pub new_level : level_at m' u ≡ level_at m n
  pub new_bound : bound_at m' u ≡ bound_at m n
  pub new_right : right_at m' u ≡ right_at m n
  pub new_few : count_at m' u ≤ 4
  pub new_entries : entries_at m' u ≡ upper

module _ (size : ℕ) (g : Shape) (m m' : Memory) (n u : ℕ) (five : Entries) (t : IsLinked size g m)
    (used : g.linked n ≡ true) (un : g.linked u ≡ false)
    (fit : u ≤ last_in size m)
    (sp : IsSplitAt size m m' n u (lower_half five) (upper_half five) (first_key (upper_half five)))
    (ha : AreHalves size (coded g m (level_at m n)) g.low (level_at m n) (g.low n)
    (bound_at m n) five) where
  abbrev key : ℕ
  key = first_key (upper_half five)

  abbrev g' : Shape
  g' = with_node g u (first_key (upper_half five))

  low : (x : ℕ) → g.linked x ≡ true → x < size
  low = linked_low size g m t

  u_low : u < size
  u_low = (let last = t.last_low in omega (arith, fit))

  not_new : {x : ℕ} → g.linked x ≡ true → x ≢ u
  not_new old e = never un (sym (ap g.linked e) ∙ old)

  u_some : u ≢ 0
  u_some e = not_new t.zero_linked (sym e)

  still : {x : ℕ} → g.linked x ≡ true → g'.linked x ≡ true
  still {x} old = ap (λ b. cond b true (g.linked x)) (isnt_same x u (not_new old)) ∙ old

  u_linked : g'.linked u ≡ true
  u_linked = ap (λ b. cond b true (g.linked u)) (is_same u u refl)

  new_or : (x : ℕ) → g'.linked x ≡ true → (g.linked x ≡ true) ⊎ (x ≡ u)
  new_or x linked = search (same_of, arith)

  low_same : (x : ℕ) → g.linked x ≡ true → g'.low x ≡ g.low x
  low_same x old = old_low g.low u key x (not_new old)

  low_new : g'.low u ≡ key
  low_new = new_low g.low u key

  -- the words of other nodes
  word_same : (x i : ℕ) → g.linked x ≡ true → x ≢ n → i < 12 → m' (12 * x + i) ≡ m (12 * x + i)
  word_same x i old apart small = sp.others _ (let fits = low x old in omega arith)
      (one_more (off_words x n i apart small)) (off_words x u i (not_new old) small)
    where
      one_more : (12 * x + i < 12 * n) ⊎ (12 * n + 12 ≤ 12 * x + i) → (12 * x + i < 12 * n + 1)
          ⊎ (12 * n + 12 ≤ 12 * x + i)
      one_more (inl lt) = inl (omega arith)
      one_more (inr le) = inr le

  level_same : (x : ℕ) → g.linked x ≡ true → level_at m' x ≡ level_at m x
  level_same x old = by_place (same_or x n)
    where
      by_place : (x ≡ n) ⊎ (x ≢ n) → level_at m' x ≡ level_at m x
      by_place (inl at) = rw at (sp.others (12 * n + 0) (let fits = low n used in omega arith)
          (inl (omega arith)) (off_words n u 0 (not_new used) (omega arith)))
      by_place (inr apart) = word_same x 0 old apart (omega arith)

  entries_same : (x : ℕ) → g.linked x ≡ true → x ≢ n → (entries_at m' x ≡ entries_at m x)
      × (count_at m' x ≡ count_at m x)
  entries_same x old apart = search (word_same, entries_alike, arith)

  root_same : root_in size m' ≡ root_in size m
  root_same = search (low, u_low, arith)

  last_same : last_in size m' ≡ last_in size m
  last_same = search (low, u_low, arith)

  above_n : g.low n < key
  above_n = ha.higher

  pub split_grows : Grows g m (with_node g u (first_key (upper_half five))) m'
  split_grows = search (still, low, low_same, level_same, arith)

  keep : (above from bound : ℕ) (xs : Entries) → HasEntries g m above from bound xs
      → HasEntries g' m' above from bound xs
  keep above from bound xs es = entries_grow g g' m m' above from bound xs split_grows es

  lower_entries : HasEntries g m (level_at m n) (g.low n) key (lower_half five)
  lower_entries = uncode size g m (level_at m n) (g.low n) key (lower_half five) ha.lower

  upper_entries : HasEntries g m (level_at m n) key (bound_at m n) (upper_half five)
  upper_entries = uncode size g m (level_at m n) key (bound_at m n) (upper_half five) ha.upper

  ends_is : (x : ℕ) → g'.linked x ≡ true → right_at m' x ≡ 0 → bound_at m' x ≡ 0
  ends_is x linked none = search (new_or, u_some, word_same, same_or, arith)

  link_is : (x : ℕ) → g'.linked x ≡ true → right_at m' x ≢ 0 → LeadsRight g' m' x
  link_is x linked on = by_new (new_or x linked)
    where
      at_n : LeadsRight g' m' n
      at_n = search (u_linked, level_same, low_new, low_same, above_n, arith)

      at_u : right_at m' u ≢ 0 → LeadsRight g' m' u
      at_u on = search (still, level_same, low_same, low_new, arith)

      at_other : g.linked x ≡ true → x ≢ n → LeadsRight g' m' x
      at_other old apart = search (word_same, still, level_same, low_same, arith)

      by_place : g.linked x ≡ true → (x ≡ n) ⊎ (x ≢ n) → LeadsRight g' m' x
      by_place old (inl at) = subst (LeadsRight g' m') (sym at) at_n
      by_place old (inr apart) = at_other old apart

      by_new : (g.linked x ≡ true) ⊎ (x ≡ u) → LeadsRight g' m' x
      by_new (inl old) = by_place old (same_or x n)
      by_new (inr at) = subst (LeadsRight g' m') (sym at)
          (at_u (λ none. on (ap (right_at m') at ∙ none)))

  left_is : (x : ℕ) → g'.linked x ≡ true → g'.low x ≢ 0 → HasNeighbour g' m' x
  left_is x linked some = by_new (new_or x linked)
    where
      by_left : (l : HasNeighbour g m x) → (l.node ≡ n) ⊎ (l.node ≢ n) → HasNeighbour g' m' x
      by_left l (inl at) = record {
        node = u;
        linked = u_linked;
        leads = sp.new_right
            ∙ sym (ap (right_at m) at) ∙ l.leads;
        some = l.some;
      }
      by_left l (inr apart) = record {
        node = l.node;
        linked = still l.linked;
        leads = word_same l.node 3 l.linked apart (omega arith) ∙ l.leads;
        some = l.some;
      }

      by_new : (g.linked x ≡ true) ⊎ (x ≡ u) → HasNeighbour g' m' x
      by_new (inl old) = let l = t.left x old (λ none. some (low_same x old ∙ none)) in by_left l
          (same_or l.node n)
      by_new (inr at) = record {
        node = n;
        linked = still used;
        leads = sp.right_is
            ∙ sym at;
        some = λ none. u_some (sym at ∙ none);
      }

  first_is_old : (x : ℕ) → g'.linked x ≡ true → g'.low x ≡ 0 → g.linked x ≡ true
  first_is_old x linked none = search (new_or, low_new, above_n, arith)

  few_is : (x : ℕ) → g'.linked x ≡ true → count_at m' x ≤ 4
  few_is x linked = by_new (new_or x linked)
    where
      by_place : g.linked x ≡ true → (x ≡ n) ⊎ (x ≢ n) → count_at m' x ≤ 4
      by_place old (inl at) = subst (λ x. count_at m' x ≤ 4) (sym at) sp.few
      by_place old (inr apart) = let same = (entries_same x old apart).1 in let few = t.few x old in
          omega arith

      by_new : (g.linked x ≡ true) ⊎ (x ≡ u) → count_at m' x ≤ 4
      by_new (inl old) = by_place old (same_or x n)
      by_new (inr at) = subst (λ x. count_at m' x ≤ 4) (sym at) sp.new_few

  put : (level from bound : ℕ) (xs : Entries) (x : ℕ) → level_at m' x ≡ level → g'.low x ≡ from
      → bound_at m' x ≡ bound → entries_at m' x ≡ xs
      → HasEntries g' m' level from bound xs → HasEntries g' m' (level_at m' x) (g'.low x)
      (bound_at m' x) (entries_at m' x)
  put level from bound xs x a b d e es = search arith

  entries_are : (x : ℕ) → g'.linked x ≡ true → HasEntries g' m' (level_at m' x) (g'.low x)
      (bound_at m' x) (entries_at m' x)
  entries_are x linked = by_new (new_or x linked)
    where
      by_place : g.linked x ≡ true → (x ≡ n) ⊎ (x ≢ n) → HasEntries g' m' (level_at m' x) (g'.low x)
          (bound_at m' x) (entries_at m' x)
      by_place old (inl at) = grind (arith, put, level_same, low_same, keep, lower_entries)
      by_place old (inr apart) = put (level_at m x) (g.low x) (bound_at m x) (entries_at m x) x
          (level_same x old) (low_same x old) (word_same x 2 old apart (omega arith))
          (entries_same x old apart).0
          (keep (level_at m x) (g.low x) (bound_at m x) (entries_at m x) (t.entries x old))

      by_new : (g.linked x ≡ true) ⊎ (x ≡ u) → HasEntries g' m' (level_at m' x) (g'.low x)
          (bound_at m' x) (entries_at m' x)
      by_new (inl old) = by_place old (same_or x n)
      by_new (inr at) = grind (arith, put, low_new, keep, upper_entries)

  root_level : level_at m' (root_in size m') ≡ level_at m (root_in size m)
  root_level = ap (level_at m') root_same ∙ level_same (root_in size m) t.root_linked

  -- they are a tree again
  pub split_linked : IsLinked size (with_node g u (first_key (upper_half five))) m'
  split_linked = record {
    last_low = (let low = t.last_low in omega (arith, last_same));
    taken = λ x linked. taken_is x (new_or x linked);
    zero_linked = still t.zero_linked;
    root_linked = ap g'.linked root_same ∙ still t.root_linked;
    root_first = ap g'.low root_same ∙ low_same (root_in size m) t.root_linked ∙ t.root_first;
    zero_leaf = level_same 0 t.zero_linked ∙ t.zero_leaf;
    highest = λ x linked. highest_is x (new_or x linked);
    shown_top = (let top = t.shown_top in omega (arith, root_level));
    ends = ends_is;
    link = link_is;
    left = left_is;
    one_first = λ a b la lb level zero_a zero_b.
        (let old_a = first_is_old a la zero_a in let old_b = first_is_old b lb zero_b in
        t.one_first a b old_a old_b (sym (level_same a old_a) ∙ level ∙ level_same b old_b)
        (sym (low_same a old_a) ∙ zero_a) (sym (low_same b old_b) ∙ zero_b));
    few = few_is;
    entries = entries_are;
  }
    where
      taken_is : (x : ℕ) → (g.linked x ≡ true) ⊎ (x ≡ u) → x ≤ last_in size m'
      taken_is x (inl old) = (let le = t.taken x old in omega (arith, last_same))
      taken_is x (inr at) = omega (arith, last_same, at, fit)

      highest_is : (x : ℕ) → (g.linked x ≡ true) ⊎ (x ≡ u) → level_at m' x
          ≤ level_at m' (root_in size m')
      highest_is x (inl old) = let high = t.highest x old in let same = level_same x old in
          omega (arith, root_level, high, same)
      highest_is x (inr at) = let high = t.highest n used in let same = ap (level_at m') at
          ∙ sp.new_level in omega (arith, root_level, high, same)

  pub split_top : g.top ≡ level_at m (root_in size m) → g.top ≡ level_at m' (root_in size m')
  split_top is = is ∙ sym root_level

  above_all : (q : ℕ) → q < key → Each (λ x. x.0 ≢ q) (upper_half five)
  above_all q lt = search (each_more, arith)

  below_all : (q : ℕ) → key ≤ q → Each (λ x. x.0 ≢ q) (lower_half five)
  below_all q le = search (each_more, above_n, arith)

  -- the state is the one that differs where the five entries say so
  pub split_state : (s s' : Amounts) → IsAmounts s' → ShowsState g m s
      → (level_at m n ≡ 0 → (q : ℕ) → Covers m g.low n q → amount_of s' q ≡ gives q five)
      → ((q a : ℕ) → g.linked a ≡ true → level_at m a ≡ 0 → a ≢ n → Covers m g.low a q
      → amount_of s' q ≡ amount_of s q)
      → ShowsState (with_node g u (first_key (upper_half five))) m' s'
  split_state s s' formed st inside outside = record { shows = shows'; formed = formed }
    where
      lower_gives : level_at m n ≡ 0 → (q : ℕ) → q < key → gives q five ≡ gives q (lower_half five)
      lower_gives leaf q lt = cc (
        ha.whole,
        gives-append q (lower_half five) (upper_half five),
        plus
            (gives q (lower_half five))
            (gives_none q (upper_half five) (ha.upper.leaf leaf) (above_all q lt)),
      )
        where
          plus : {b : ℕ} (a : ℕ) → b ≡ 0 → a + b ≡ a
          plus a e = omega arith

      upper_gives : level_at m n ≡ 0 → (q : ℕ) → key ≤ q → gives q five ≡ gives q (upper_half five)
      upper_gives leaf q le = search (gives, gives-append, gives_none, below_all, arith)
        where
          plus : {b : ℕ} (a : ℕ) → b ≡ 0 → b + a ≡ a
          plus a e = omega arith

      shows' : (q a : ℕ) → g'.linked a ≡ true → level_at m' a ≡ 0 → Covers m' g'.low a q
          → amount_of s' q ≡ gives q (entries_at m' a)
      shows' q a linked leaf over = by_new (new_or a linked)
        where
          by_place : g.linked a ≡ true → (a ≡ n) ⊎ (a ≢ n) → amount_of s' q
              ≡ gives q (entries_at m' a)
          by_place old (inl at) =
              let leaf_n : level_at m n ≡ 0 = sym (level_same n used) ∙ sym (ap (level_at m') at)
              ∙ leaf in
              let from : g.low n
              ≤ q = (let from = over.from in let e = low_same n used in let f = ap g'.low at in
              omega (arith, from, e, f)) in
              let lt : q < key = (let to = over.to in let bound = ap (bound_at m') at
              ∙ sp.bound_is in let less = to (omega (arith, bound, above_n)) in
              omega (arith, less, bound)) in
              let over_n : Covers m g.low n q =
              record {
                from = from;
                to = λ some.
                    (let within = ha.within some in omega (arith, lt, within));
              } in
              cc (inside leaf_n q over_n, lower_gives leaf_n q lt, sp.entries)
          by_place old (inr apart) =
              let over_a : Covers m g.low a q =
              record {
                from = (let from = over.from in let e = low_same a old in omega (arith, from, e));
                to = rw (← word_same a 2 old apart (omega arith)) over.to;
              } in
              let leaf_a = sym (level_same a old) ∙ leaf in
              outside q a old leaf_a apart over_a ∙ st.shows q a old leaf_a over_a
              ∙ ap (gives q) (sym (entries_same a old apart).0)

          by_new : (g.linked a ≡ true) ⊎ (a ≡ u) → amount_of s' q ≡ gives q (entries_at m' a)
          by_new (inl old) = by_place old (same_or a n)
          by_new (inr at) =
              let leaf_n : level_at m n ≡ 0 = sym sp.new_level ∙ sym (ap (level_at m') at) ∙ leaf in
              let le : key ≤ q = (let from = over.from in let e = ap g'.low at
              ∙ low_new in omega (arith, from, e)) in
              let bound : bound_at m' a ≡ bound_at m n = ap (bound_at m') at ∙ sp.new_bound in
              let over_n : Covers m g.low n q =
              record { from = omega (arith, le, above_n); to = rw (← bound) over.to } in
              cc (inside leaf_n q over_n, upper_gives leaf_n q le, sp.new_entries)

  -- what hangs does so still, if none of the five entries leads to it
  pub split_unnamed : (y : ℕ) → Unnamed g m y
      → (level_at m n ≢ 0 → Each (λ entry. entry.1 ≢ y) (lower_half five))
      → (level_at m n ≢ 0 → Each (λ entry. entry.1 ≢ y) (upper_half five))
      → Unnamed (with_node g u (first_key (upper_half five))) m' y
  split_unnamed y hangs lower upper p linked some = by_new (new_or p linked)
    where
      by_place : g.linked p ≡ true → (p ≡ n) ⊎ (p ≢ n) → Each (λ entry. entry.1 ≢ y)
          (entries_at m' p)
      by_place old (inl at) = search (level_same, arith)
      by_place old (inr apart) = search (entries_same, level_same, arith)

      by_new : (g.linked p ≡ true) ⊎ (p ≡ u) → Each (λ entry. entry.1 ≢ y) (entries_at m' p)
      by_new (inl old) = by_place old (same_or p n)
      by_new (inr at) = search arith

  leads_old : (above from bound : ℕ) (xs : Entries) → above ≢ 0 → HasEntries g m above from bound xs
      → Each (λ entry. entry.1 ≢ u) xs
  leads_old above from bound xs some es =
      each_more (LeadsDown g m above) (λ entry. entry.1 ≢ u) (λ entry is. not_new is.linked) xs
      (es.inner some).child

  -- and the new node hangs on the one that was split
  pub split_hangs_new : Hangs (with_node g u (first_key (upper_half five))) m' u
  split_hangs_new = (
    (λ e. omega (arith, low_new, above_n, e)),
    split_unnamed u (λ p old some. leads_old (level_at m p) (g.low p) (bound_at m p)
        (entries_at m p) some (t.entries p old))
        (λ some. leads_old (level_at m n) (g.low n) key (lower_half five) some lower_entries)
        (λ some. leads_old (level_at m n) key (bound_at m n) (upper_half five) some upper_entries),
  )
