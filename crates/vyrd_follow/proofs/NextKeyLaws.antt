-- How the keys at which two views differ are gone through, from one key of the changed part to the
-- next.
use Rattle.vyrd_follow.proofs.Prelude
use Prelude.{◌≡◌, ◌≢◌, ℕ, ◌+◌, ◌<◌, ◌≤◌, Bool, true, false, cond, List, [], ◌∷◌, ◌++◌, map, Option}
use Prelude.{Some, None, refl, ◌∙◌, arith, nat_lt, IfSome, append-nil, append_assoc, Amounts}
use Prelude.{IsAmounts, amount_of, given, with_amount, numbers_below, amount_of-with_amount}
use Prelude.{same_amounts, is_in, other_part, same_of, is_same, same_number, apart_of, isnt_same}
use Prelude.{below_of, not_below_of, given_map_push, differ_at, differences, comes_before}
use Rattle.vyrd_base.proofs.TestLaws.{is_below, isnt_below}
use Rattle.vyrd_follow.proofs.DifferenceLaws.{Rise, not_among, differences_rise, among_differences}
use Rattle.vyrd_follow.proofs.DifferenceLaws.{differences_left, no_differences_from_itself}

-- ---- how far the amounts have been brought up to date

-- the amounts of the keys before the next one are the other view's, and all others as they were
abbrev pub AreUpTo : Amounts → Amounts → Option ℕ → Amounts → Type 0
AreUpTo a b next shown =
    (q : ℕ) → amount_of shown q ≡ cond (comes_before next q) (amount_of b q) (amount_of a q)

-- no key from this one on that comes before the next one differs
abbrev pub AgreeFrom : Amounts → Amounts → ℕ → Option ℕ → Type 0
AgreeFrom a b from next =
    (q : ℕ) → from ≤ q → comes_before next q ≡ true → amount_of a q ≡ amount_of b q

-- keys to which neither gives anything
pub agree_where_none : (a b : Amounts) (old new : List (ℕ × ℕ)) (from : ℕ) (next : Option ℕ)
    → ((q : ℕ) → amount_of a q + given q new ≡ amount_of b q + given q old)
    → ((q : ℕ) → from ≤ q → comes_before next q ≡ true
    → (given q old ≡ 0) × (given q new ≡ 0))
    → AgreeFrom a b from next
agree_where_none a b old new from next turned none = search arith

-- once a key has been gone through
pub up_to_next : (a b shown later : Amounts) (key : ℕ) (next : Option ℕ)
    → AreUpTo a b (Some key) shown → later ≡ with_amount shown key (amount_of b key)
    → IfSome next (λ k. key + 1 ≤ k) → AgreeFrom a b (key + 1) next → AreUpTo a b next later
up_to_next a b shown later key next known then low agree = search
    (amount_of-with_amount, is_below, same_of, below_of, not_below_of, apart_of, arith)

-- ---- the next difference

module _ (a b shown : Amounts) (key : ℕ) (known : AreUpTo a b (Some key) shown) where
  -- the key has the amount that it had
  pub amount_kept : amount_of shown key ≡ amount_of a key
  amount_kept = cc (known key, isnt_below key key (omega arith))

  lesser_agree : (q : ℕ) → q < key → differ_at shown b q ≡ false
  lesser_agree q low = search (is_same, is_below, arith)

  -- a key that differs is the first that does
  first_is : (ks : List ℕ) → Rise ks → ((q : ℕ) → is_in q ks ≡ differ_at shown b q)
      → differ_at shown b key ≡ true → (rest : List ℕ) × (ks ≡ key ∷ rest)
  first_is [] rise same differs = let no : false ≡ true = same key ∙ differs in cc
  first_is (k ∷ ks) rise same differs = by_order (nat_lt k key) (nat_lt key k) refl refl
    where
      by_order : (t u : Bool) → nat_lt k key ≡ t → nat_lt key k ≡ u
          → (rest : List ℕ) × (k ∷ ks ≡ key ∷ rest)
      by_order true u e f = search (same_number, lesser_agree, below_of, arith)
      by_order false true e f = search (below_of, isnt_same, not_among, arith)
      by_order false false e f =
          let at : k ≡ key = omega (arith, not_below_of k key e, not_below_of key k f) in
          (ks, cc)

  pub first_left : amount_of shown key ≢ amount_of b key
      → (rest : List ℕ) × (differences shown b ≡ key ∷ rest)
  first_left other = search (first_is, differences_rise, among_differences, isnt_same, arith)

-- ---- the items

module _ {A : Type 0} (f : ℕ → A) (a b shown later : Amounts) (key : ℕ)
    (known : AreUpTo a b (Some key) shown) where
  -- an item is put for a key that differs
  pub items_put : (items said all : List A) → amount_of shown key ≢ amount_of b key
      → later ≡ with_amount shown key (amount_of b key) → said ≡ items ++ f key ∷ []
      → items ++ map f (differences shown b) ≡ all → said ++ map f (differences later b) ≡ all
  items_put items said all other then put is =
      let first = first_left a b shown key known other in
      let left : differences later b ≡ first.0 =
      cc (differences_left shown b key first.0 first.1) in
      cc (append_assoc items (f key ∷ []) (map f (differences later b)), first.1)

-- at the end
pub up_to_date : (a b shown : Amounts) → IsAmounts shown → IsAmounts b → AreUpTo a b None shown
    → shown ≡ b
up_to_date a b shown is it known = same_amounts shown b is it known

pub items_all : {A : Type 0} (f : ℕ → A) (b shown : Amounts) (items all : List A) → shown ≡ b
    → items ++ map f (differences shown b) ≡ all → items ≡ all
items_all f b shown items all same is = cc (append-nil items, no_differences_from_itself b)

-- no key is left
pub at_end : (next : Option ℕ) → ((key : ℕ) → next ≢ Some key) → next ≡ None
at_end next none = search arith

-- ---- one place more

-- keys before the next one have no pair in the places so far
pub place_gives_none : (f : ℕ → ℕ × ℕ) (j q : ℕ) → given q (map f (numbers_below j)) ≡ 0
    → (f j).0 ≢ q → given q (map f (numbers_below (j + 1))) ≡ 0
place_gives_none f j q none apart = grind (arith, apart, given_map_push, other_part)
