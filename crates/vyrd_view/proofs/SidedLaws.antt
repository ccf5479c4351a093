-- The two sides, as a key gets new amounts.
use Rattle.vyrd_view.proofs.Prelude
use Prelude.{◌≡◌, ◌≢◌, ℕ, ◌+◌, ◌<◌, ◌≤◌, Bool, true, false, cond, not, List, [], ◌∷◌, Option, Some}
use Prelude.{None, refl, ap, ◌∙◌, sym, subst, arith, T, ◌==◌, below_all, nat_tests, sum_by-cons}
use Prelude.{IsAmounts, amount_of, with_amount, given, part_given, collected, first_of_and}
use Prelude.{second_of_and, amount_of-collected, IsAmounts-collected, same_of, is_same, isnt_same}
use Prelude.{below_of, not_below_of, Both, Sides, IsLeastApart, shown_at, specified_of}
use Rattle.std.specs.Prelude.{unwrap_or, filter}
use Rattle.std.specs.declared.cmp.Ordering.{Ordering}
use Rattle.std.specs.declared.cmp.Ordering.TheVariants.{Less, Equal, Greater}
use Rattle.std.specs.Ordering.{is_eq, nat_cmp, is_lt}
use Rattle.std.specs.FinMap.Entries.{find, put, by_order, is_sorted}
use Rattle.std.specs.Cmp.{unsigned_tied}
use Rattle.vyrd_base.proofs.AmountLaws.{amounts_are, same_amount}
use Rattle.vyrd_base.proofs.TestLaws.{flipped}
use Rattle.vyrd_table.specs.Entries.{IsEntries, value_of, with_value}
use Rattle.vyrd_table.specs.First.{IsFirst}
use Rattle.vyrd_table.proofs.EntryLaws.{no_entries, IsEntries-with_value, value_of-with_value}
use Rattle.vyrd_view.specs.TwoAmounts.{neither, is_neither, is_apart, apart_once, IsCount}
use Rattle.vyrd_view.specs.Laws.TwoAmounts.{only_neither}
use Rattle.vyrd_view.specs.Sided.{AreSettled, IsSettled, specified_pairs, apart_in}

pub settled_of : (s : Sides) → IsSettled s → AreSettled s
unfolding IsSettled
settled_of s settled = settled

pub is_settled : (s : Sides) → AreSettled s → IsSettled s
unfolding IsSettled
is_settled s settled = settled

-- ---- entries one by one

is_greater : (k q : ℕ) → T (is_lt (nat_cmp k q)) → k < q
is_greater k q low = grind (arith, nat_tests)

-- no key at or below those that rise above it
find_low : (k q : ℕ) (es : List (ℕ × Both)) → T (below_all nat_cmp k es) → q ≤ k
    → find nat_cmp q es ≡ None
find_low k q [] below low = refl
find_low k q (e ∷ es) below low =
    let high : k < e.0 = is_greater k e.0 (first_of_and _ _ below) in
    ap (λ b. cond b (Some e.1) (find nat_cmp q es)) (unsigned_tied q e.0
    ∙ isnt_same q e.0 (omega (arith, high, low)))
    ∙ find_low k q es (second_of_and (is_lt (nat_cmp k e.0)) _ below) low

value_low : (k q : ℕ) (es : List (ℕ × Both)) → T (below_all nat_cmp k es) → q ≤ k
    → value_of neither es q ≡ neither
value_low k q es below low = ap (λ o. unwrap_or o neither) (find_low k q es below low)

value_cons : (e : ℕ × Both) (es : List (ℕ × Both)) (q : ℕ) (b : Bool) → (q == e.0) ≡ b
    → value_of neither (e ∷ es) q ≡ cond b e.1 (value_of neither es q)
value_cons e es q b is = grind (arith, neither, value_of)

-- what is given to a key is its amount
given_value : (es : List (ℕ × Both)) (q : ℕ) → T (is_sorted nat_cmp es)
    → given q (specified_pairs es) ≡ (value_of neither es q).specified
given_value [] q rising = refl
given_value (e ∷ es) q rising =
    by_key (q == e.0) refl
    (given_value es q (second_of_and (below_all nat_cmp e.0 es) _ rising))
  where
    by_key : (b : Bool) → (q == e.0) ≡ b
        → given q (specified_pairs es) ≡ (value_of neither es q).specified
        → part_given q (e.0, e.1.specified) + given q (specified_pairs es)
        ≡ (value_of neither (e ∷ es) q).specified
    by_key b is rest = search (same_of, value_low, first_of_and, rising, value_cons, arith)

-- ---- how many differ

once_low : (k q : ℕ) (es : List (ℕ × Both)) → T (below_all nat_cmp k es) → q ≤ k
    → apart_once (value_of neither es q) ≡ 0
once_low k q es below low = ap apart_once (value_low k q es below low)

once_cons : (e : ℕ × Both) (es : List (ℕ × Both)) (q : ℕ) (b : Bool) → (q == e.0) ≡ b
    → apart_once (value_of neither (e ∷ es) q) ≡ apart_once (cond b e.1 (value_of neither es q))
once_cons e es q b is = ap apart_once (value_cons e es q b is)

-- the keys without one
abbrev without : ℕ → List (ℕ × Both) → List (ℕ × Both)
without k es = filter (λ entry. not (entry.0 == k)) es

apart_cons : (e : ℕ × Both) (es : List (ℕ × Both)) → apart_in (e ∷ es)
    ≡ apart_once e.1 + apart_in es
apart_cons e es = sum_by-cons (λ (entry : ℕ × Both). apart_once entry.1) e es

-- the sums of which the cases below speak
left_out : (p x y b c n : ℕ) → n ≡ b + c → p + y ≡ c → y ≡ 0 → x ≡ b → p + x ≡ n
left_out p x y b c n new rest none here = omega (arith, new, rest, none, here)

kept_in : (m p x y b c n : ℕ) → m ≡ b + p → n ≡ b + c → p + y ≡ c → x ≡ y → m + x ≡ n
kept_in m p x y b c n old new rest there = omega (arith, old, new, rest, there)

before_all : (m x a n : ℕ) → m ≡ a + n → x ≡ 0 → m + x ≡ n + a
before_all m x a n old none = omega (arith, old, none)

in_place : (m x a b c n : ℕ) → m ≡ a + c → n ≡ b + c → x ≡ b → m + x ≡ n + a
in_place m x a b c n old new here = omega (arith, old, new, here)

further_on : (m p x y a b c n : ℕ) → m ≡ b + p → n ≡ b + c → p + y ≡ c + a → x ≡ y
    → m + x ≡ n + a
further_on m p x y a b c n old new rest there = omega (arith, old, new, rest, there)

none_more : (p a : ℕ) → a ≡ 0 → p ≡ p + a
none_more p a none = omega (arith, none)

both_more : (p x a c w : ℕ) → p + x ≡ c + a → w + x ≡ c → p ≡ w + a
both_more p x a c w with_it without_it = omega (arith, with_it, without_it)

count_without : (es : List (ℕ × Both)) (k : ℕ) → T (is_sorted nat_cmp es)
    → apart_in (without k es) + apart_once (value_of neither es k) ≡ apart_in es
count_without [] k rising = refl
count_without (e ∷ es) k rising =
    by_test (e.0 == k) refl
    (count_without es k (second_of_and (below_all nat_cmp e.0 es) _ rising))
  where
    by_test : (b : Bool) → (e.0 == k) ≡ b
        → apart_in (without k es) + apart_once (value_of neither es k) ≡ apart_in es
        → apart_in (cond (not b) (e ∷ without k es) (without k es))
        + apart_once (value_of neither (e ∷ es) k) ≡ apart_in (e ∷ es)
    by_test true is rest =
        let same : e.0 ≡ k = same_of e.0 k is in
        left_out _ _ _ _ _ _ (apart_cons e es) rest
        (once_low e.0 k es (first_of_and _ _ rising) (omega (arith, same)))
        (once_cons e es k true (is_same k e.0 (sym same)))
    by_test false is rest =
        kept_in _ _ _ _ _ _ _ (apart_cons e (without k es)) (apart_cons e es) rest
        (once_cons e es k false (flipped e.0 k is))

count_put : (es : List (ℕ × Both)) (k : ℕ) (v : Both) → T (is_sorted nat_cmp es)
    → apart_in (put nat_cmp k v es) + apart_once (value_of neither es k)
    ≡ apart_in es + apart_once v
count_put [] k v rising = before_all _ _ _ _ (apart_cons (k, v) []) refl
count_put (e ∷ es) k v rising = by_cmp (nat_cmp k e.0) refl
    (count_put es k v (second_of_and (below_all nat_cmp e.0 es) _ rising))
  where
    tied : (o : Ordering) → nat_cmp k e.0 ≡ o → (k == e.0) ≡ is_eq o
    tied o is = sym (unsigned_tied k e.0) ∙ ap is_eq is

    by_cmp : (o : Ordering) → nat_cmp k e.0 ≡ o
        → apart_in (put nat_cmp k v es) + apart_once (value_of neither es k)
        ≡ apart_in es + apart_once v
        → apart_in (by_order o ((k, v) ∷ e ∷ es) ((e.0, v) ∷ es) (e ∷ put nat_cmp k v es))
        + apart_once (value_of neither (e ∷ es) k) ≡ apart_in (e ∷ es) + apart_once v
    by_cmp Less is rest =
        let low : k < e.0 = is_greater k e.0 (rw is tt) in
        before_all _ _ _ _ (apart_cons (k, v) (e ∷ es)) (once_cons e es k false (tied Less is)
        ∙ once_low e.0 k es (first_of_and _ _ rising) (omega (arith, low)))
    by_cmp Equal is rest = in_place _ _ _ _ _ _ (apart_cons (e.0, v) es) (apart_cons e es)
        (once_cons e es k true (tied Equal is))
    by_cmp Greater is rest = further_on _ _ _ _ _ _ _ _ (apart_cons e (put nat_cmp k v es))
        (apart_cons e es) rest (once_cons e es k false (tied Greater is))

-- so many differ once a key has other amounts
count_with : (es : List (ℕ × Both)) (k : ℕ) (v : Both) → T (is_sorted nat_cmp es)
    → apart_in (with_value is_neither es k v) ≡ apart_in (without k es) + apart_once v
count_with es k v rising =
    grind (arith, rising, none_more, only_neither, both_more, count_put, count_without)

once_is : (v : Both) → is_apart v ≡ true → apart_once v ≡ 1
once_is v apart = ap (λ b. cond b 1 0) apart

-- where one differs, they aren't none
pub some_apart : (es : List (ℕ × Both)) (k : ℕ) → T (is_sorted nat_cmp es)
    → is_apart (value_of neither es k) ≡ true → 0 < apart_in es
some_apart es k rising apart =
    omega (arith, count_without es k rising, once_is (value_of neither es k) apart)

-- and where they are none, none differs
none_apart : (es : List (ℕ × Both)) (q : ℕ) → T (is_sorted nat_cmp es) → apart_in es ≡ 0
    → is_apart (value_of neither es q) ≡ false
none_apart es q rising none = search (value_of, neither, some_apart, arith)

-- ---- the amounts of a key

pub shown_is : (s : Sides) (q : ℕ) → shown_at s q ≡ (value_of neither s.table.entries q).shown
unfolding shown_at
shown_is s q = refl

pub specified_is : (s : Sides) (q : ℕ) → IsEntries is_neither s.table.entries
    → amount_of (specified_of s) q ≡ (value_of neither s.table.entries q).specified
unfolding specified_of
specified_is s q formed = search (amount_of-collected, given_value, arith)

specified_formed : (s : Sides) → IsAmounts (specified_of s)
unfolding specified_of
specified_formed s = IsAmounts-collected (specified_pairs s.table.entries)

-- a key that has its amount already
pub with_same_amount : (s : Sides) (q a : ℕ) → AreSettled s → a ≡ amount_of (specified_of s) q
    → with_amount (specified_of s) q a ≡ specified_of s
with_same_amount s q a settled same = cc (same_amount (specified_of s) q (specified_formed s))

-- ---- sides on which there is nothing

module _ (s : Sides) (none : s.table.entries ≡ []) where
  pub fresh_settled : s.apart ≡ 0 → AreSettled s
  fresh_settled zero = search (no_entries, arith)

  pub fresh_shown : (q : ℕ) → shown_at s q ≡ 0
  fresh_shown q = shown_is s q ∙ ap (λ es. (value_of neither es q).shown) none

  pub fresh_specified : specified_of s ≡ []
  unfolding specified_of
  fresh_specified = ap (λ es. collected (specified_pairs es)) none

-- ---- a key gets new amounts

module _ (s s' : Sides) (q : ℕ) (both : Both) (settled : AreSettled s)
    (is : s'.table.entries ≡ with_value is_neither s.table.entries q both) where
  put_formed : IsEntries is_neither s'.table.entries
  put_formed = grind (arith, IsEntries-with_value is_neither s.table.entries q both settled.formed)

  put_value : (r : ℕ) → value_of neither s'.table.entries r
      ≡ cond (r == q) both (value_of neither s.table.entries r)
  put_value r = cc (value_of-with_value is_neither neither only_neither s.table.entries q both r)

  pub put_settles : (before : Both) → before ≡ value_of neither s.table.entries q
      → ((others : ℕ) → IsCount s.apart (others + apart_once before)
      → IsCount s'.apart (others + apart_once both)) → AreSettled s'
  put_settles before was recounted = record {
    formed = put_formed;
    counted =
        let others : ℕ = apart_in (without q _) in
        let old : apart_in s.table.entries ≡ others + apart_once before =
        cc (count_without s.table.entries q settled.formed.rising) in
        let new : apart_in s'.table.entries ≡ others + apart_once both = ap apart_in is
        ∙ count_with s.table.entries q both settled.formed.rising in
        subst (IsCount _) (sym new) (recounted _ (subst (IsCount _) old settled.counted));
  }

  pub put_shows : (r : ℕ) → shown_at s' r ≡ cond (r == q) both.shown (shown_at s r)
  put_shows r = search (shown_is, put_value, value_of, neither, arith)

  pub put_specifies : specified_of s' ≡ with_amount (specified_of s) q both.specified
  put_specifies = amounts_are (specified_of s) (specified_of s') q both.specified
      (specified_formed s) (specified_formed s') (λ r.
      specified_is s' r put_formed ∙ ap (λ (v : Both). v.specified) (put_value r)
      ∙ by_key r (r == q)
      ∙ ap (cond (r == q) both.specified) (sym (specified_is s r settled.formed)))
    where
      by_key : (r : ℕ) (b : Bool) → (cond b both (value_of neither s.table.entries r)).specified
          ≡ cond b both.specified (value_of neither s.table.entries r).specified
      by_key r true = refl
      by_key r false = refl

-- a key that differs is counted
pub before_counted : (s : Sides) (q : ℕ) (before : Both) → AreSettled s
    → before ≡ value_of neither s.table.entries q → is_apart before ≡ true → 0 < s.apart
before_counted s q before settled was apart = search (some_apart, below_of, not_below_of, arith)

-- ---- where the sides differ

amounts_apart : (v : Both) → is_apart v ≡ true → v.shown ≢ v.specified
amounts_apart v apart same = grind arith

amounts_same : (v : Both) → is_apart v ≡ false → v.shown ≡ v.specified
amounts_same v e = grind (arith, same_of)

module _ (s : Sides) (settled : AreSettled s) where
  agree_at : (q : ℕ) → is_apart (value_of neither s.table.entries q) ≡ false
      → shown_at s q ≡ amount_of (specified_of s) q
  agree_at q same = search (shown_is, amounts_same, value_of, neither, specified_is, arith)

  differ_at : (q : ℕ) → is_apart (value_of neither s.table.entries q) ≡ true
      → shown_at s q ≢ amount_of (specified_of s) q
  differ_at q apart same = search (amounts_apart, value_of, neither, shown_is, specified_is, arith)

  pub none_differs : s.apart ≡ 0 → IsLeastApart (shown_at s) (amount_of (specified_of s)) None
  none_differs zero = search (agree_at, none_apart, arith)

  pub first_differs : (o : Option ℕ) → IsFirst neither is_apart s.table.entries o
      → IsLeastApart (shown_at s) (amount_of (specified_of s)) o
  first_differs o first = search (agree_at, differ_at, value_of, neither, arith)
