-- Laws of values by key.
use Rattle.vyrd_table.proofs.Prelude
use Prelude.{◌≡◌, ℕ, Bool, true, false, cond, not, List, [], ◌∷◌, Option, Some, None, refl, ap, ◌∙◌}
use Prelude.{sym, T, arith, length, ◌+◌, ◌≤◌, ◌==◌, filter, nat_cmp, is_lt, Ordering, Less, Equal}
use Prelude.{Greater, unsigned_tied, nat_tests, nat_cmp_total, find, put, by_order, find-put}
use Prelude.{below_all, is_sorted, first_of_and, second_of_and, IsEntries, value_of, with_value}
use Rattle.std.specs.Prelude.{is_some}
use Rattle.std.specs.Ordering.{eq_by_cmp, match_ordering}
use Rattle.std.specs.Map.{lookup, remove_entry}
use Rattle.std.specs.BTreeMap.{insert_entry, is_at}
use Rattle.std.proofs.lemmas.Option.{same_Some}
use Rattle.std.specs.FinMap.{nat_cmp-IsAntisymmetric}
use Rattle.std.specs.FinMap.Entries.{find-where_key, is_sorted-put, is_sorted-where_key}
use Rattle.std.specs.FinMap.Entries.{same_entries, length-put}
use Rattle.std.specs.List.{AllByRecursion}
use Rattle.vyrd_base.proofs.AmountLaws.{isnt}

alike : (k q x : ℕ) → nat_cmp q x ≡ Equal → isnt k x ≡ isnt k q
alike k q x e = ap (isnt k) (sym (nat_cmp-IsAntisymmetric q x e))

above_isnt : (k q : ℕ) → T (is_lt (nat_cmp k q)) → (q == k) ≡ false
above_isnt k q h = grind (arith, nat_tests)

flip : (k q : ℕ) (b : Bool) → (k == q) ≡ b → (q == k) ≡ b
flip k q b e = search arith

module _ {V : Type 0} where
  -- what `get` of an ordered map finds
  pub lookup-find : (q : ℕ) (es : List (ℕ × V)) → lookup (is_at (nat_cmp q)) es ≡ find nat_cmp q es
  lookup-find q es = search arith

  -- what `insert` leaves
  pub insert_entry-put : (k : ℕ) (v : V) (es : List (ℕ × V)) → insert_entry nat_cmp es k v
      ≡ put nat_cmp k v es
  insert_entry-put k v [] = refl
  insert_entry-put k v (e ∷ es) = by_cmp (nat_cmp k e.0) (insert_entry-put k v es)
    where
      by_cmp : (o : Ordering) → insert_entry nat_cmp es k v ≡ put nat_cmp k v es
          → match_ordering o ((k, v) ∷ e ∷ es) ((e.0, v) ∷ es) (e ∷ insert_entry nat_cmp es k v)
          ≡ by_order o ((k, v) ∷ e ∷ es) ((e.0, v) ∷ es) (e ∷ put nat_cmp k v es)
      by_cmp Less rest = refl
      by_cmp Equal rest = refl
      by_cmp Greater rest = ap (λ xs. e ∷ xs) rest

  -- keys above k are none of k
  kept_above : (k : ℕ) (es : List (ℕ × V)) → T (below_all nat_cmp k es)
      → filter (λ entry. not (entry.0 == k)) es ≡ es
  kept_above k [] h = refl
  kept_above k (e ∷ es) h =
      ap (λ b. cond (not b) (e ∷ filter (λ entry. not (entry.0 == k)) es)
      (filter (λ entry. not (entry.0 == k)) es))
      (above_isnt k e.0 (first_of_and _ _ h))
      ∙ ap (λ xs. e ∷ xs) (kept_above k es (second_of_and (is_lt (nat_cmp k e.0)) _ h))

  -- what `remove` leaves of keys that rise
  pub remove_entry-filter : (k : ℕ) (es : List (ℕ × V)) → T (is_sorted nat_cmp es)
      → remove_entry (is_at (nat_cmp k)) es ≡ filter (λ entry. not (entry.0 == k)) es
  remove_entry-filter k [] rising = refl
  remove_entry-filter k (e ∷ es) rising =
      by_test (remove_entry-filter k es (second_of_and (below_all nat_cmp e.0 es) _ rising))
      (k == e.0) refl
    where
      kept : List (ℕ × V)
      kept = filter (λ entry. not (entry.0 == k)) es

      by_test : remove_entry (is_at (nat_cmp k)) es ≡ kept → (b : Bool) → (k == e.0) ≡ b
          → cond (eq_by_cmp nat_cmp k e.0) es (e ∷ remove_entry (is_at (nat_cmp k)) es)
          ≡ cond (not (e.0 == k)) (e ∷ kept) kept
      by_test rest true is =
          search (is_at, kept_above, below_all, first_of_and, flip, arith)
      by_test rest false isnt_it =
          cc (unsigned_tied k e.0, flip k e.0 false isnt_it)

  pub kept_filter : (P : ℕ × V → Type 0) (p : ℕ × V → Bool) (s : List (ℕ × V)) → AllByRecursion P s
      → AllByRecursion P (filter p s)
  kept_filter P p [] all = tt
  kept_filter P p (e ∷ s) all =
      elim (p e) as (λ b. AllByRecursion P (cond b (e ∷ filter p s) (filter p s))) [
        | true ↦ (all.0, kept_filter P p s all.1)
        | false ↦ kept_filter P p s all.1
      ]

module _ {V : Type 0} (is_nothing : V → Bool) where
  -- what a key has once a value is set: the value, unless that is nothing
  abbrev pub given_value : V → Option V
  given_value v = cond (is_nothing v) None (Some v)

  found_in : (b : Bool) (o : Option V) → cond (not b) o None ≡ cond b None o
  found_in b o = search arith

  -- the key has the new value, and every other key its old one
  pub find-with_value : (s : List (ℕ × V)) (k : ℕ) (v : V) (q : ℕ)
      → find nat_cmp q (with_value is_nothing s k v)
      ≡ cond (q == k) (given_value v) (find nat_cmp q s)
  find-with_value s k v q = by_nothing (is_nothing v) refl
    where
      by_nothing : (b : Bool) → is_nothing v ≡ b
          → find nat_cmp q (cond b (filter (λ entry. not (entry.0 == k)) s) (put nat_cmp k v s))
          ≡ cond (q == k) (cond b None (Some v)) (find nat_cmp q s)
      by_nothing true e = find-where_key nat_cmp (isnt k) q (alike k q) s
          ∙ found_in (q == k) (find nat_cmp q s)
      by_nothing false e = cc (find-put nat_cmp nat_cmp_total q k v s, unsigned_tied q k)

  -- no value is nothing
  abbrev pub AllSome : List (ℕ × V) → Type 0
  AllSome s = AllByRecursion (λ entry. is_nothing entry.1 ≡ false) s

  kept_put : (k : ℕ) (v : V) (s : List (ℕ × V)) → is_nothing v ≡ false → AllSome s
      → AllSome (put nat_cmp k v s)
  kept_put k v [] some all = (some, tt)
  kept_put k v (e ∷ s) some all =
      elim (nat_cmp k e.0) as
      (λ o. AllSome (by_order o ((k, v) ∷ e ∷ s) ((e.0, v) ∷ s) (e ∷ put nat_cmp k v s))) [
        | Less ↦ (some, all)
        | Equal ↦ (some, all.1)
        | Greater ↦ (all.0, kept_put k v s some all.1)
      ]

  pub no_entries : IsEntries {V = V} is_nothing []
  no_entries = record { rising = tt; some = tt }

  pub IsEntries-put : (s : List (ℕ × V)) (k : ℕ) (v : V) → is_nothing v ≡ false
      → IsEntries is_nothing s → IsEntries is_nothing (put nat_cmp k v s)
  IsEntries-put s k v some is =
      record {
        rising = is_sorted-put nat_cmp nat_cmp_total k v s is.rising;
        some =
            kept_put k v s some is.some;
      }

  pub IsEntries-with_value : (s : List (ℕ × V)) (k : ℕ) (v : V) → IsEntries is_nothing s
      → IsEntries is_nothing (with_value is_nothing s k v)
  IsEntries-with_value s k v is = by_nothing (is_nothing v) refl
    where
      by_nothing : (b : Bool) → is_nothing v ≡ b
          → IsEntries is_nothing
          (cond b (filter (λ entry. not (entry.0 == k)) s) (put nat_cmp k v s))
      by_nothing true e = record {
        rising = is_sorted-where_key nat_cmp (isnt k) s is.rising;
        some = kept_filter (λ entry. is_nothing entry.1 ≡ false) (λ entry. isnt k entry.0) s
            is.some;
      }
      by_nothing false e = IsEntries-put s k v e is

  -- entries that have the same of each key are the same
  pub same_by_key : (s t : List (ℕ × V)) → IsEntries is_nothing s → IsEntries is_nothing t
      → ((q : ℕ) → find nat_cmp q s ≡ find nat_cmp q t) → s ≡ t
  same_by_key s t is it same = same_entries nat_cmp nat_cmp_total nat_cmp-IsAntisymmetric s t
      is.rising it.rising same

  -- entries that are the old ones except for a key
  pub entries_are : (s t : List (ℕ × V)) (q : ℕ) (v : V) → IsEntries is_nothing s
      → IsEntries is_nothing t
      → ((r : ℕ) → find nat_cmp r t ≡ cond (r == q) (given_value v) (find nat_cmp r s)) → t
      ≡ with_value is_nothing s q v
  entries_are s t q v is it each = search
      (same_by_key, IsEntries-with_value, find-with_value, arith)

  -- an ordered map's `insert` of a value that isn't nothing, and its `remove`
  pub insert-with_value : (es : List (ℕ × V)) (k : ℕ) (v : V) → is_nothing v ≡ false
      → insert_entry nat_cmp es k v ≡ with_value is_nothing es k v
  insert-with_value es k v some = cc (insert_entry-put k v es)

  pub remove-with_value : (es : List (ℕ × V)) (k : ℕ) (v : V) → is_nothing v ≡ true
      → T (is_sorted nat_cmp es)
      → remove_entry (is_at (nat_cmp k)) es ≡ with_value is_nothing es k v
  remove-with_value es k v none rising = cc (remove_entry-filter k es rising)

  -- what is found isn't nothing
  found_some : (s : List (ℕ × V)) (q : ℕ) (v : V) → AllSome s → find nat_cmp q s ≡ Some v
      → is_nothing v ≡ false
  found_some [] q v all e = cc
  found_some (entry ∷ s) q v all e =
      (elim (eq_by_cmp nat_cmp q entry.0) as (λ b. cond b (Some entry.1) (find nat_cmp q s) ≡ Some v
      → is_nothing v ≡ false) [
        | true ↦ λ e'. ap is_nothing (sym (same_Some entry.1 v e')) ∙ all.0
        | false ↦ found_some s q v all.1
      ]) e

  -- so a key whose value is nothing isn't found
  pub not_found : (nothing : V) (s : List (ℕ × V)) (q : ℕ) → IsEntries is_nothing s
      → is_nothing (value_of nothing s q) ≡ true → find nat_cmp q s ≡ None
  not_found nothing s q is none = search (found_some, arith)

  -- how many keys there are once a key has come
  pub length-put_new : (s : List (ℕ × V)) (k : ℕ) (v : V) → IsEntries is_nothing s
      → find nat_cmp k s ≡ None → length (put nat_cmp k v s) ≡ length s + 1
  length-put_new s k v is none = cc (length-put nat_cmp nat_cmp_total k v s is.rising)

  -- and no fewer, whether the key is new or not
  pub put_more : (s : List (ℕ × V)) (k : ℕ) (v : V) → IsEntries is_nothing s → length s
      ≤ length (put nat_cmp k v s)
  put_more s k v is =
      by_found (is_some (find nat_cmp k s)) (length-put nat_cmp nat_cmp_total k v s is.rising)
    where
      by_found : (b : Bool) → length (put nat_cmp k v s) ≡ cond b (length s) (length s + 1)
          → length s ≤ length (put nat_cmp k v s)
      by_found true e = omega (arith, e)
      by_found false e = omega (arith, e)

  -- and one more at most
  pub put_less : (s : List (ℕ × V)) (k : ℕ) (v : V) → IsEntries is_nothing s
      → length (put nat_cmp k v s) ≤ length s + 1
  put_less s k v is =
      by_found (is_some (find nat_cmp k s)) (length-put nat_cmp nat_cmp_total k v s is.rising)
    where
      by_found : (b : Bool) → length (put nat_cmp k v s) ≡ cond b (length s) (length s + 1)
          → length (put nat_cmp k v s) ≤ length s + 1
      by_found true e = omega (arith, e)
      by_found false e = omega (arith, e)

  -- the key has the value that is set, and every other key the one that it had
  pub value_of-with_value : (nothing : V) → ((v : V) → is_nothing v ≡ true → v ≡ nothing)
      → (s : List (ℕ × V)) (k : ℕ) (v : V) (q : ℕ)
      → value_of nothing (with_value is_nothing s k v) q ≡ cond (q == k) v (value_of nothing s q)
  value_of-with_value nothing only s k v q = search (find-with_value, arith)

  -- entries in which each key has the same value are the same
  pub same_values : (nothing : V) → is_nothing nothing ≡ true → (s t : List (ℕ × V))
      → IsEntries is_nothing s → IsEntries is_nothing t
      → ((q : ℕ) → value_of nothing s q ≡ value_of nothing t q) → s ≡ t
  same_values nothing passes s t is it same = search (same_by_key, found_some, arith)
