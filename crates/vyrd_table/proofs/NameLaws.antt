-- How many names places and entries have, and that there are no more keys than names.
use Rattle.vyrd_table.proofs.Prelude
use Prelude.{◌≡◌, ℕ, zero, suc, ◌+◌, ◌<◌, ◌≤◌, Bool, true, false, cond, List, [], ◌∷◌, length, set}
use Prelude.{replicate, refl, ap, ◌∙◌, arith, T, filter, count_by, nat_cmp, is_lt, Ordering, Less}
use Prelude.{Equal, Greater, put, by_order, below_all, is_sorted, sum_by-cons, nat_tests}
use Prelude.{first_of_and, second_of_and, isnt_same, IsEntries, with_value, is_named, one_name}
use Prelude.{place_at, entries_in, names_in}

is_greater : (k q : ℕ) → T (is_lt (nat_cmp k q)) → k < q
is_greater k q low = grind (arith, nat_tests)

module _ {V : Type 0} where
  named_by : (p : ℕ × V) → cond (is_named p) 1 0 ≡ one_name p.0
  named_by p = search arith

  pub counted : (p : ℕ × V) (s : List (ℕ × V)) → count_by is_named (p ∷ s)
      ≡ one_name p.0 + count_by is_named s
  counted p s = sum_by-cons _ p s ∙ ap (λ n. n + count_by is_named s) (named_by p)

  -- what an ordered map's `insert` adds
  pub names_put : (k : ℕ) (v : V) (s : List (ℕ × V)) → count_by is_named (put nat_cmp k v s)
      ≤ count_by is_named s + one_name k
  names_put k v [] = let c = counted (k, v) [] in omega (arith, c)
  names_put k v (e ∷ s) = by_cmp (nat_cmp k e.0) (names_put k v s)
    where
      by_cmp : (o : Ordering) → count_by is_named (put nat_cmp k v s)
          ≤ count_by is_named s + one_name k
          → count_by is_named (by_order o ((k, v) ∷ e ∷ s) ((e.0, v) ∷ s) (e ∷ put nat_cmp k v s))
          ≤ count_by is_named (e ∷ s) + one_name k
      by_cmp Less rest = let c = counted (k, v) (e ∷ s) in omega (arith, c)
      by_cmp Equal rest = let c = counted (e.0, v) s in let d = counted e s in omega (arith, c, d)
      by_cmp Greater rest = search (counted, put, arith)

  names_filter : (p : ℕ × V → Bool) (s : List (ℕ × V)) → count_by is_named (filter p s)
      ≤ count_by is_named s
  names_filter p [] = omega arith
  names_filter p (e ∷ s) = by_test (p e) (names_filter p s)
    where
      by_test : (b : Bool) → count_by is_named (filter p s) ≤ count_by is_named s
          → count_by is_named (cond b (e ∷ filter p s) (filter p s)) ≤ count_by is_named (e ∷ s)
      by_test true rest = search (counted, arith)
      by_test false rest = let d = counted e s in omega (arith, d, rest)

  pub names_with_value : (is_nothing : V → Bool) (s : List (ℕ × V)) (k : ℕ) (v : V)
      → count_by is_named (with_value is_nothing s k v) ≤ count_by is_named s + one_name k
  names_with_value is_nothing s k v = search (put, one_name, names_filter, names_put, arith)

  -- nothing adds none
  pub names_taken_out : (is_nothing : V → Bool) (s : List (ℕ × V)) (k : ℕ) (v : V) → is_nothing v
      ≡ true
      → count_by is_named (with_value is_nothing s k v) ≤ count_by is_named s
  names_taken_out is_nothing s k v none = search (names_filter, put, arith)

  -- what a place that is written adds
  pub names_set : (places : List (ℕ × V)) (i : ℕ) (p : ℕ × V) → count_by is_named (set places i p)
      ≤ count_by is_named places + one_name p.0
  names_set [] i p = omega arith
  names_set (x ∷ places) zero p = search (counted, arith)
  names_set (x ∷ places) (suc i) p =
      let c = counted x (set places i p) in let d = counted x places in
      let rest = names_set places i p in omega (arith, c, d, rest)

  -- and nothing, if its name stays
  pub names_stay : (nothing : V) (places : List (ℕ × V)) (i : ℕ) (p : ℕ × V)
      → (place_at nothing places i).0 ≡ p.0
      → count_by is_named (set places i p) ≤ count_by is_named places
  names_stay nothing [] i p same = omega arith
  names_stay nothing (x ∷ places) zero p same = grind arith
  names_stay nothing (x ∷ places) (suc i) p same =
      let c = counted x (set places i p) in let d = counted x places in
      let rest = names_stay nothing places i p same in omega (arith, c, d, rest)

  -- the entries have no more names than the places and the rest
  names_entries : (is_nothing : V → Bool) (places rest : List (ℕ × V))
      → count_by is_named (entries_in is_nothing places rest)
      ≤ count_by is_named places + count_by is_named rest
  unfolding entries_in
  names_entries is_nothing [] rest = omega arith
  names_entries is_nothing (p ∷ places) rest = by_taken (is_nothing p.1)
      (names_entries is_nothing places rest)
    where
      by_taken : (b : Bool) → count_by is_named (entries_in is_nothing places rest)
          ≤ count_by is_named places + count_by is_named rest
          → count_by is_named
          (cond b (entries_in is_nothing places rest)
          (put nat_cmp p.0 p.1 (entries_in is_nothing places rest)))
          ≤ count_by is_named (p ∷ places) + count_by is_named rest
      by_taken true others = let c = counted p places in omega (arith, c, others)
      by_taken false others = search (counted, names_put, entries_in, arith)

  -- keys that rise above one are all named
  all_named : (k : ℕ) (s : List (ℕ × V)) → T (below_all nat_cmp k s) → length s
      ≤ count_by is_named s
  all_named k [] below = omega arith
  all_named k (e ∷ s) below =
      let c = counted e s in
      let high : k < e.0 = is_greater k e.0 (first_of_and _ _ below) in
      let one : one_name e.0 ≡ 1 =
      ap {B = ℕ} (λ b. cond b 0 1) (isnt_same e.0 0 (omega (arith, high))) in
      let rest = all_named k s (second_of_and (is_lt (nat_cmp k e.0)) _ below) in
      omega (arith, c, one, rest)

  -- so of keys that rise at most one is not
  keys_named : (s : List (ℕ × V)) → T (is_sorted nat_cmp s) → length s ≤ 1 + count_by is_named s
  keys_named [] rising = omega arith
  keys_named (e ∷ s) rising = search (counted, all_named, first_of_and, arith)

  pub keys_fewer : (is_nothing : V → Bool) (places rest : List (ℕ × V))
      → IsEntries is_nothing (entries_in is_nothing places rest)
      → length (entries_in is_nothing places rest) ≤ names_in places rest
  keys_fewer is_nothing places rest is = search (keys_named, entries_in, names_entries, arith)

  -- new places have the name of 0
  pub new_unnamed : (n : ℕ) (nothing : V) → count_by is_named (replicate n (0, nothing)) ≡ 0
  new_unnamed zero nothing = refl
  new_unnamed (suc n) nothing =
      let c = counted (0, nothing) (replicate n (0, nothing)) in
      omega (arith, c, new_unnamed n nothing)

-- a key has one name at most
pub one_at_most : (key : ℕ) → one_name key ≤ 1
one_at_most key = grind arith
