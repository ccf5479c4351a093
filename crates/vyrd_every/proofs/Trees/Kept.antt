-- The linked nodes after one of them has other entries.
use Rattle.vyrd_every.proofs.Prelude
use Prelude.{◌≡◌, ◌≢◌, ℕ, ◌+◌, ◌*◌, ◌<◌, ◌≤◌, ◌⊎◌, inl, inr, true, cond, refl, ap, ◌∙◌, sym, subst}
use Prelude.{arith, AllByRecursion, Amounts, IsAmounts, amount_of, Memory, level_at, count_at}
use Prelude.{bound_at, right_at, last_in, root_in, IsChild, AreEntries, entries_at, entries_from}
use Prelude.{Covers, Entries, gives, each_more, entries_alike, Rewritten, off_node, apart_or, Shape}
use Prelude.{LeadsDown, HasEntries, LeadsRight, IsLinked, Unnamed, Hangs, ShowsState, Grows}

-- Lemmas about entries in vyrd_tree take a last node and levels. A node that isn't linked gets a
-- level that is no child's.
abbrev pub coded : Shape → Memory → ℕ → ℕ → ℕ
coded g m above n = cond (g.linked n) (level_at m n) above

pub code : (size : ℕ) (g : Shape) (m : Memory) (above from bound : ℕ) (xs : Entries)
    → ((n : ℕ) → g.linked n ≡ true → n < size)
    → HasEntries g m above from bound xs → AreEntries size (coded g m above) g.low above from bound
    xs
code size g m above from bound xs fits es = search (each_more, arith)

pub code_child : (size : ℕ) (g : Shape) (m : Memory) (above : ℕ) (entry : ℕ × ℕ)
    → ((n : ℕ) → g.linked n ≡ true → n < size)
    → LeadsDown g m above entry → IsChild size (coded g m above) g.low above entry
code_child size g m above entry fits c = grind (arith, c.linked, c.lower, c.key_is)

uncode_child : (size : ℕ) (g : Shape) (m : Memory) (above : ℕ) (entry : ℕ × ℕ)
    → IsChild size (coded g m above) g.low above entry → LeadsDown g m above entry
uncode_child size g m above entry c = search arith

pub uncode : (size : ℕ) (g : Shape) (m : Memory) (above from bound : ℕ) (xs : Entries)
    → AreEntries size (coded g m above) g.low above from bound xs
    → HasEntries g m above from bound xs
uncode size g m above from bound xs es = search (each_more, uncode_child, arith)

-- entries stay right where linked nodes stay, with their levels and lows
pub entries_grow : (g g' : Shape) (m m' : Memory) (above from bound : ℕ) (xs : Entries)
    → Grows g m g' m' → HasEntries g m above from bound xs
    → HasEntries g' m' above from bound xs
entries_grow g g' m m' above from bound xs grows es = search (each_more, arith)

pub linked_low : (size : ℕ) (g : Shape) (m : Memory) → IsLinked size g m → (n : ℕ) → g.linked n
    ≡ true → n < size
linked_low size g m t n linked = (let le = t.taken n linked in let lt = t.last_low in omega arith)

-- a word of another node
pub other_word : (size : ℕ) (m m' : Memory) (n : ℕ) (xs : Entries) → Rewritten size m m' n xs
    → (a i : ℕ) → a < size → i < 12 → (a < n) ⊎ (n < a)
    → m' (12 * a + i) ≡ m (12 * a + i)
other_word size m m' n xs r a i fits low apart = search (fits, off_node, apart, arith)

-- levels, bounds and right links stay
pub record StaysShaped (size : ℕ) (m m' : Memory) : Type 0 where
  pub last_is : last_in size m' ≡ last_in size m
  pub root_is : root_in size m' ≡ root_in size m
  pub level_is : (a : ℕ) → a < size → level_at m' a ≡ level_at m a
  pub bound_is : (a : ℕ) → a < size → bound_at m' a ≡ bound_at m a
  pub right_is : (a : ℕ) → a < size → right_at m' a ≡ right_at m a

pub stays_shaped : (size : ℕ) (m m' : Memory) (n : ℕ) (xs : Entries) → n < size
    → Rewritten size m m' n xs → StaysShaped size m m'
stays_shaped size m m' n xs fits r = search (apart_or, other_word, arith)

pub rewritten_grows : (size : ℕ) (g : Shape) (m m' : Memory) (n : ℕ) (xs : Entries)
    → IsLinked size g m → g.linked n ≡ true → Rewritten size m m' n xs
    → Grows g m g m'
rewritten_grows size g m m' n xs t linked r = record {
  linked = λ a l. l;
  low = λ a l. refl;
  level = λ a l. (stays_shaped size m m' n xs (linked_low size g m t n linked) r).level_is a
      (linked_low size g m t a l);
  top = omega arith;
}

-- the entries of another node
pub other_entries : (size : ℕ) (g : Shape) (m m' : Memory) (n : ℕ) (xs : Entries)
    → IsLinked size g m → Rewritten size m m' n xs
    → (a : ℕ) → g.linked a ≡ true → (a < n) ⊎ (n < a) → (entries_at m' a ≡ entries_at m a)
    × (count_at m' a ≡ count_at m a)
other_entries size g m m' n xs t r a linked apart = (
  ap (entries_from m' a 0) count ∙ entries_alike m m' a 0 (count_at m a)
      (λ j from to.
      (let few = t.few a linked in (word (4 + j) (omega arith), word (8 + j) (omega arith)))),
  count,
)
  where
    word : (i : ℕ) → i < 12 → m' (12 * a + i) ≡ m (12 * a + i)
    word i low = other_word size m m' n xs r a i (linked_low size g m t a linked) low apart

    count : count_at m' a ≡ count_at m a
    count = word 1 (omega arith)

-- with right entries they are a tree again
pub rewritten_linked : (size : ℕ) (g : Shape) (m m' : Memory) (n : ℕ) (xs : Entries)
    → IsLinked size g m → g.linked n ≡ true → Rewritten size m m' n xs
    → HasEntries g m (level_at m n) (g.low n) (bound_at m n) xs → IsLinked size g m'
rewritten_linked size g m m' n xs t linked r es = record {
  last_low = (let low = t.last_low in let same = shape.last_is in omega arith);
  taken = λ a l. (let le = t.taken a l in let same = shape.last_is in omega arith);
  zero_linked = t.zero_linked;
  root_linked = ap g.linked shape.root_is ∙ t.root_linked;
  root_first = ap g.low shape.root_is ∙ t.root_first;
  zero_leaf = shape.level_is 0 (low 0 t.zero_linked) ∙ t.zero_leaf;
  highest = λ a l. (let high = t.highest a l in let here = shape.level_is a (low a l) in let top =
      root_level in omega arith);
  shown_top = (let top = t.shown_top in let same = root_level in omega arith);
  ends = λ a l none. shape.bound_is a (low a l)
      ∙ t.ends a l (sym (shape.right_is a (low a l)) ∙ none);
  link = λ a l on. link_is a l on;
  left = λ a l some. (let left = t.left a l some in record {
    node = left.node;
    linked = left.linked;
    leads = shape.right_is left.node (low left.node left.linked) ∙ left.leads;
    some = left.some;
  });
  one_first = λ a b la lb level zero_a zero_b. t.one_first a b la lb
      (sym (shape.level_is a (low a la)) ∙ level ∙ shape.level_is b (low b lb)) zero_a zero_b;
  few = λ a l. few a l (apart_or a n);
  entries = λ a l. subst
      (λ above. HasEntries g m' above (g.low a) (bound_at m' a) (entries_at m' a))
      (sym (shape.level_is a (low a l)))
      (rw (shape.bound_is a (low a l))
      (entries_grow g g m m' (level_at m a) (g.low a) (bound_at m a) (entries_at m' a) grows
      (entries a l (apart_or a n))));
}
  where
    low : (a : ℕ) → g.linked a ≡ true → a < size
    low = linked_low size g m t

    shape : StaysShaped size m m'
    shape = stays_shaped size m m' n xs (low n linked) r

    grows : Grows g m g m'
    grows = rewritten_grows size g m m' n xs t linked r

    root_level : level_at m' (root_in size m') ≡ level_at m (root_in size m)
    root_level = search arith

    link_is : (a : ℕ) → g.linked a ≡ true → right_at m' a ≢ 0 → LeadsRight g m' a
    link_is a l on =
        let right : right_at m' a ≡ right_at m a = shape.right_is a (low a l) in
        let was = t.link a l (λ none. on (right ∙ none)) in
        record {
          linked = ap g.linked right ∙ was.linked;
          same_level = ap (level_at m') right ∙ shape.level_is (right_at m a)
              (low (right_at m a) was.linked) ∙ was.same_level ∙ sym (shape.level_is a (low a l));
          begins = ap g.low right ∙ was.begins ∙ sym (shape.bound_is a (low a l));
          above = rw (shape.bound_is a (low a l)) was.above;
        }

    few : (a : ℕ) → g.linked a ≡ true → (a ≡ n) ⊎ ((a < n) ⊎ (n < a)) → count_at m' a ≤ 4
    few a l (inl at) = rw at r.few
    few a l (inr apart) = search (other_entries, apart, arith)

    entries : (a : ℕ) → g.linked a ≡ true → (a ≡ n) ⊎ ((a < n) ⊎ (n < a))
        → HasEntries g m (level_at m a) (g.low a) (bound_at m a) (entries_at m' a)
    entries a l (inl at) = grind (arith, r.entries)
    entries a l (inr apart) =
        grind (arith, (other_entries size g m m' n xs t r a l apart).0, t.entries a l)

-- no entry leads to a node, if none did and none of the new entries does
rewritten_unnamed : (size : ℕ) (g : Shape) (m m' : Memory) (n : ℕ) (xs : Entries) (x : ℕ)
    → IsLinked size g m → g.linked n ≡ true → Rewritten size m m' n xs
    → Unnamed g m x → (level_at m n ≢ 0 → AllByRecursion (λ entry. entry.1 ≢ x) xs) → Unnamed g m' x
rewritten_unnamed size g m m' n xs x t linked r hangs off p l some = by_place (apart_or p n)
  where
    was : level_at m p ≢ 0
    was none = search (stays_shaped, linked_low, arith)

    by_place : (p ≡ n) ⊎ ((p < n) ⊎ (n < p)) → AllByRecursion (λ entry. entry.1 ≢ x)
        (entries_at m' p)
    by_place (inl at) = search arith
    by_place (inr apart) = subst (AllByRecursion (λ entry. entry.1 ≢ x))
        (sym (other_entries size g m m' n xs t r p l apart).0) (hangs p l was)

pub rewritten_hangs : (size : ℕ) (g : Shape) (m m' : Memory) (n : ℕ) (xs : Entries) (x : ℕ)
    → IsLinked size g m → g.linked n ≡ true → Rewritten size m m' n xs
    → Hangs g m x → (level_at m n ≢ 0 → AllByRecursion (λ entry. entry.1 ≢ x) xs) → Hangs g m' x
rewritten_hangs size g m m' n xs x t linked r hangs off = search (rewritten_unnamed, arith)

-- the state after a node has other entries
pub rewritten_state : (size : ℕ) (g : Shape) (m m' : Memory) (s s' : Amounts) (n : ℕ) (xs : Entries)
    → IsLinked size g m → ShowsState g m s
    → g.linked n ≡ true → Rewritten size m m' n xs → IsAmounts s'
    → (level_at m n ≡ 0 → (q : ℕ) → Covers m g.low n q → amount_of s' q ≡ gives q xs)
    → ((q a : ℕ) → g.linked a ≡ true → level_at m a ≡ 0 → (a < n) ⊎ (n < a) → Covers m g.low a q
    → amount_of s' q ≡ amount_of s q)
    → ShowsState g m' s'
rewritten_state size g m m' s s' n xs t st linked r formed inside outside = record {
  shows = λ q a l leaf over. by_place q a l (sym (shape.level_is a (low a l)) ∙ leaf)
      (record {
        from = over.from;
        to = rw (← shape.bound_is a (low a l))
            over.to;
      }) (apart_or a n);
  formed = formed;
}
  where
    low : (a : ℕ) → g.linked a ≡ true → a < size
    low = linked_low size g m t

    shape : StaysShaped size m m'
    shape = stays_shaped size m m' n xs (low n linked) r

    by_place : (q a : ℕ) → g.linked a ≡ true → level_at m a ≡ 0 → Covers m g.low a q → (a ≡ n)
        ⊎ ((a < n) ⊎ (n < a)) → amount_of s' q ≡ gives q (entries_at m' a)
    by_place q a l leaf over (inl at) = search (over, gives, arith)
    by_place q a l leaf over (inr apart) =
        outside q a l leaf apart over ∙ st.shows q a l leaf over
        ∙ ap (gives q) (sym (other_entries size g m m' n xs t r a l apart).0)
