-- Laws of amounts by key.
use Rattle.vyrd_base.proofs.Prelude.{◌≡◌, ℕ, Bool, true, false, cond, not, [], ◌∷◌, Option, Some}
use Rattle.vyrd_base.proofs.Prelude.{None, refl, ap, ◌∙◌, sym, arith, ◌<◌, ◌≤◌, ◌++◌, T, ◌≢◌, ◌==◌}
use Rattle.vyrd_base.proofs.Prelude.{unwrap_or, filter, ◌&&◌, All, nat_cmp, eq_by_cmp, is_lt}
use Rattle.vyrd_base.proofs.Prelude.{unsigned_tied, nat_tests, AllByRecursion, Amounts, IsAmounts}
use Rattle.vyrd_base.proofs.Prelude.{amount_of, with_amount, same_of, apart_of}
use Rattle.std.proofs.lemmas.List.Elements.{recursion_from_All}
use Rattle.std.specs.declared.cmp.Ordering.TheVariants.{Less, Equal, Greater}
use Rattle.std.proofs.lemmas.Cmp.{nat_cmp_total}
use Rattle.std.proofs.lemmas.Option.{same_Some}
use Rattle.std.specs.FinMap.{nat_cmp-IsAntisymmetric}
use Rattle.std.specs.FinMap.Entries.{find, put, by_order, find-put, find-where_key, is_sorted-put}
use Rattle.std.specs.FinMap.Entries.{is_sorted-where_key, same_entries, below_all, is_sorted}

-- the test by which the keys other than k are kept
abbrev pub isnt : ℕ → ℕ → Bool
isnt k q = not (q == k)

found_in : (k q : ℕ) (b : Bool) (o : Option ℕ) → (q == k) ≡ b → unwrap_or (cond (not b) o None) 0
    ≡ cond b 0 (unwrap_or o 0)
found_in k q b o e = search arith

put_in : (a : ℕ) (b : Bool) (o : Option ℕ) → unwrap_or (cond b (Some a) o) 0
    ≡ cond b a (unwrap_or o 0)
put_in a b o = search arith

alike : (k q x : ℕ) → nat_cmp q x ≡ Equal → isnt k x ≡ isnt k q
alike k q x e = ap (isnt k) (sym (nat_cmp-IsAntisymmetric q x e))

-- the key has the new amount, and every other key its old one
pub amount_of-with_amount : (s : Amounts) (k a q : ℕ) → amount_of (with_amount s k a) q
    ≡ cond (q == k) a (amount_of s q)
amount_of-with_amount s k a q = by_zero (a == 0) refl
  where
    by_zero : (b : Bool) → (a == 0) ≡ b
        → amount_of (cond b (filter (λ entry. not (entry.0 == k)) s) (put nat_cmp k a s)) q
        ≡ cond (q == k) a (amount_of s q)
    by_zero true e = ap (λ o. unwrap_or o 0) (find-where_key nat_cmp (isnt k) q (alike k q) s)
        ∙ found_in k q (q == k) (find nat_cmp q s) refl ∙ ap (λ z. cond (q == k) z (amount_of s q))
        (sym (same_of a 0 e))
    by_zero false e = ap (λ o. unwrap_or o 0) (find-put nat_cmp nat_cmp_total q k a s
        ∙ ap (λ b. cond b (Some a) (find nat_cmp q s)) (unsigned_tied q k))
        ∙ put_in a (q == k) (find nat_cmp q s)

kept_filter : (P : ℕ × ℕ → Type 0) (p : ℕ × ℕ → Bool) (s : Amounts) → AllByRecursion P s
    → AllByRecursion P (filter p s)
kept_filter P p [] all = tt
kept_filter P p (e ∷ s) all =
    elim (p e) as (λ b. AllByRecursion P (cond b (e ∷ filter p s) (filter p s))) [
      | true ↦ (all.0, kept_filter P p s all.1)
      | false ↦ kept_filter P p s all.1
    ]

-- no amount is 0
abbrev pub AllSome : Amounts → Type 0
AllSome s = AllByRecursion (λ entry. entry.1 ≢ 0) s

kept_put : (k a : ℕ) (s : Amounts) → a ≢ 0 → AllSome s → AllSome (put nat_cmp k a s)
kept_put k a [] some all = (some, tt)
kept_put k a (e ∷ s) some all =
    elim (nat_cmp k e.0) as (λ o. AllSome
    (by_order o ((k, a) ∷ e ∷ s) ((e.0, a) ∷ s) (e ∷ put nat_cmp k a s))) [
      | Less ↦ (some, all)
      | Equal ↦ (some, all.1)
      | Greater ↦ (all.0, kept_put k a s some all.1)
    ]

-- no amounts at all
pub no_amounts : IsAmounts []
no_amounts = record { rising = tt; some = tt }

-- amounts stay amounts
pub IsAmounts-with_amount : (s : Amounts) (k a : ℕ) → IsAmounts s → IsAmounts (with_amount s k a)
IsAmounts-with_amount s k a is = by_zero (a == 0) refl
  where
    by_zero : (b : Bool) → (a == 0) ≡ b
        → IsAmounts (cond b (filter (λ entry. not (entry.0 == k)) s) (put nat_cmp k a s))
    by_zero true e = record {
      rising = is_sorted-where_key nat_cmp (isnt k) s is.rising;
      some = kept_filter (λ entry. entry.1 ≢ 0) (λ entry. isnt k entry.0) s is.some;
    }
    by_zero false e = record {
      rising = is_sorted-put nat_cmp nat_cmp_total k a s is.rising;
      some = kept_put k a s (apart_of a 0 e) is.some;
    }

-- what is found isn't 0
found_some : (s : Amounts) (q v : ℕ) → AllSome s → find nat_cmp q s ≡ Some v → v ≢ 0
found_some [] q v all e = cc
found_some (entry ∷ s) q v all e =
    (elim (eq_by_cmp nat_cmp q entry.0) as (λ b. cond b (Some entry.1) (find nat_cmp q s) ≡ Some v
    → v ≢ 0) [
      | true ↦ λ e'. λ zero'. all.0 (same_Some entry.1 v e' ∙ zero')
      | false ↦ found_some s q v all.1
    ]) e

same_found : (x y : Option ℕ) → ((v : ℕ) → x ≡ Some v → v ≢ 0) → ((v : ℕ) → y ≡ Some v → v ≢ 0)
    → unwrap_or x 0 ≡ unwrap_or y 0 → x ≡ y
same_found x y some_x some_y e = grind arith

-- amounts that agree at every key are the same
pub same_amounts : (s t : Amounts) → IsAmounts s → IsAmounts t
    → ((q : ℕ) → amount_of s q ≡ amount_of t q) → s ≡ t
same_amounts s t is it same = same_entries nat_cmp nat_cmp_total nat_cmp-IsAntisymmetric s t
    is.rising it.rising
    (λ q. same_found (find nat_cmp q s) (find nat_cmp q t) (λ v e. found_some s q v is.some e)
    (λ v e. found_some t q v it.some e) (same q))

-- amounts that are the old ones except for a key
pub amounts_are : (s t : Amounts) (q a : ℕ) → IsAmounts s → IsAmounts t
    → ((r : ℕ) → amount_of t r ≡ cond (r == q) a (amount_of s r)) → t ≡ with_amount s q a
amounts_are s t q a is it each = same_amounts t (with_amount s q a) it
    (IsAmounts-with_amount s q a is) (λ r. each r ∙ sym (amount_of-with_amount s q a r))

-- a key before those that rise is none of them
pub apart_from : (k q e : ℕ) → q ≤ k → T (is_lt (nat_cmp k e)) → (q == e) ≡ false
apart_from k q e le h = grind (arith, nat_tests)

less_of : (x k : ℕ) → x < k → nat_cmp x k ≡ Less
less_of x k low = grind (arith, nat_tests)

and_true : (a b : Bool) → T a → T b → T (a && b)
and_true a b p q = search arith

pub first_of_and : (a b : Bool) → T (a && b) → T a
first_of_and a b p = search arith

pub second_of_and : (a b : Bool) → T (a && b) → T b
second_of_and a b p = search arith

below_push : (x k a : ℕ) (s : Amounts) → x < k → T (below_all nat_cmp x s)
    → T (below_all nat_cmp x (s ++ (k, a) ∷ []))
below_push x k a [] low below = search (and_true, less_of, arith)
below_push x k a (e ∷ s) low below =
    and_true (is_lt (nat_cmp x e.0)) _ (first_of_and _ _ below)
    (below_push x k a s low (second_of_and (is_lt (nat_cmp x e.0)) _ below))

rising_push : (k a : ℕ) (s : Amounts) → AllByRecursion (λ entry. entry.0 < k) s
    → T (is_sorted nat_cmp s) → T (is_sorted nat_cmp (s ++ (k, a) ∷ []))
rising_push k a [] all rising = tt
rising_push k a (e ∷ s) all rising =
    and_true (below_all nat_cmp e.0 (s ++ (k, a) ∷ [])) _
    (below_push e.0 k a s all.0 (first_of_and _ _ rising))
    (rising_push k a s all.1 (second_of_and (below_all nat_cmp e.0 s) _ rising))

some_push : (k a : ℕ) (s : Amounts) → a ≢ 0 → AllSome s → AllSome (s ++ (k, a) ∷ [])
some_push k a [] some all = (some, tt)
some_push k a (e ∷ s) some all = (all.0, some_push k a s some all.1)

-- a greater key at the end, with an amount that isn't 0
pub IsAmounts-push : (s : Amounts) (k a : ℕ) → All (λ entry. entry.0 < k) s → a ≢ 0 → IsAmounts s
    → IsAmounts (s ++ (k, a) ∷ [])
IsAmounts-push s k a greater some is = record {
  rising = rising_push k a s (recursion_from_All (λ entry. entry.0 < k) s greater) is.rising;
  some = some_push k a s some is.some;
}

-- an amount that is set to what it is
pub same_amount : (s : Amounts) (q : ℕ) → IsAmounts s → with_amount s q (amount_of s q) ≡ s
same_amount s q is =
    same_amounts (with_amount s q (amount_of s q)) s (IsAmounts-with_amount s q (amount_of s q) is)
    is
    (λ r. amount_of-with_amount s q (amount_of s q) r ∙ by_key r (r == q) refl)
  where
    by_key : (r : ℕ) (same : Bool) → (r == q) ≡ same → cond same (amount_of s q) (amount_of s r)
        ≡ amount_of s r
    by_key r same e = search (same_of, arith)
