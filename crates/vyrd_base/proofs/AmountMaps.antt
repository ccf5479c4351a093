-- The words of a `BTreeMap` are those of amounts.
use Rattle.vyrd_base.proofs.Prelude.{◌≡◌, ℕ, Bool, true, false, cond, not, List, [], ◌∷◌, refl, ap}
use Rattle.vyrd_base.proofs.Prelude.{◌∙◌, arith, T, ◌==◌, ◌≢◌, filter, nat_cmp, eq_by_cmp, is_lt}
use Rattle.vyrd_base.proofs.Prelude.{unsigned_tied, nat_tests, Amounts, with_amount, isnt_same}
use Rattle.std.specs.Ordering.{match_ordering}
use Rattle.std.specs.declared.cmp.Ordering.{Ordering}
use Rattle.std.specs.Map.{lookup, remove_entry}
use Rattle.std.specs.BTreeMap.{insert_entry, is_at}
use Rattle.std.specs.FinMap.Entries.{find, put, by_order, below_all, is_sorted}
use Rattle.vyrd_base.proofs.AmountLaws.{first_of_and, second_of_and}

-- what `get` finds
pub lookup-find : (q : ℕ) (es : Amounts) → lookup (is_at (nat_cmp q)) es ≡ find nat_cmp q es
lookup-find q es = search arith

-- what `insert` leaves
pub insert_entry-put : (k v : ℕ) (es : Amounts) → insert_entry nat_cmp es k v ≡ put nat_cmp k v es
insert_entry-put k v [] = refl
insert_entry-put k v (e ∷ es) = by_cmp (nat_cmp k e.0) (insert_entry-put k v es)
  where
    by_cmp : (o : Ordering) → insert_entry nat_cmp es k v ≡ put nat_cmp k v es
        → match_ordering o ((k, v) ∷ e ∷ es) ((e.0, v) ∷ es) (e ∷ insert_entry nat_cmp es k v)
        ≡ by_order o ((k, v) ∷ e ∷ es) ((e.0, v) ∷ es) (e ∷ put nat_cmp k v es)
    by_cmp o rest = search arith

above_isnt : (k q : ℕ) → T (is_lt (nat_cmp k q)) → (q == k) ≡ false
above_isnt k q h = grind (arith, nat_tests)

-- keys above k are none of k
kept_above : (k : ℕ) (es : Amounts) → T (below_all nat_cmp k es)
    → filter (λ entry. not (entry.0 == k)) es ≡ es
kept_above k [] h = refl
kept_above k (e ∷ es) h =
    ap (λ b. cond (not b) (e ∷ filter (λ entry. not (entry.0 == k)) es)
    (filter (λ entry. not (entry.0 == k)) es))
    (above_isnt k e.0 (first_of_and _ _ h))
    ∙ ap (λ xs. e ∷ xs) (kept_above k es (second_of_and (is_lt (nat_cmp k e.0)) _ h))

flip : (k q : ℕ) (b : Bool) → (k == q) ≡ b → (q == k) ≡ b
flip k q b e = search arith

-- what `remove` leaves of keys that rise
pub remove_entry-filter : (k : ℕ) (es : Amounts) → T (is_sorted nat_cmp es)
    → remove_entry (is_at (nat_cmp k)) es ≡ filter (λ entry. not (entry.0 == k)) es
remove_entry-filter k [] rising = refl
remove_entry-filter k (e ∷ es) rising = by_test
    (remove_entry-filter k es (second_of_and (below_all nat_cmp e.0 es) _ rising)) (k == e.0) refl
  where
    kept : List (ℕ × ℕ)
    kept = filter (λ entry. not (entry.0 == k)) es

    by_test : remove_entry (is_at (nat_cmp k)) es ≡ kept → (b : Bool) → (k == e.0) ≡ b
        → cond (eq_by_cmp nat_cmp k e.0) es (e ∷ remove_entry (is_at (nat_cmp k)) es)
        ≡ cond (not (e.0 == k)) (e ∷ kept) kept
    by_test rest true is = search (is_at, kept_above, below_all, first_of_and, flip, arith)
    by_test rest false isnt = cc (unsigned_tied k e.0, flip k e.0 false isnt)

-- an insert of an amount that isn't 0, and a remove
pub insert-with_amount : (es : Amounts) (k v : ℕ) → v ≢ 0 → insert_entry nat_cmp es k v
    ≡ with_amount es k v
insert-with_amount es k v some = grind (arith, insert_entry-put, isnt_same)

pub remove-with_amount : (es : Amounts) (k : ℕ) → T (is_sorted nat_cmp es)
    → remove_entry (is_at (nat_cmp k)) es ≡ with_amount es k 0
remove-with_amount es k rising = remove_entry-filter k es rising
