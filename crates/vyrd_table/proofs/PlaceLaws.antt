-- What the places of a table and the rest have of each key, and how that changes with one key.
use Rattle.vyrd_table.proofs.Prelude
use Prelude.{◌≡◌, ◌≢◌, ℕ, zero, suc, ◌+◌, ◌-◌, ◌*◌, ◌^◌, ◌<◌, ◌≤◌, Bool, true, false, cond, not}
use Prelude.{List, [], ◌∷◌, Option, Some, None, length, set, replicate, refl, ap, ◌∙◌, sym, subst}
use Prelude.{arith, ◌==◌, nat_lt, unwrap_or, option_or, nat_cmp, find, put, find-put, unsigned_tied}
use Prelude.{nat_cmp_total, same_of, is_same, isnt_same, below_of, IsEntries, value_of, with_value}
use Prelude.{first_place, is_taken, place_at, IsFoundAt, ArePlaces, entries_in}
use Rattle.std.proofs.Common.{◌%◌, length-set, get_or-set_same, get_or-set_other, slice_index_or}
use Rattle.std.proofs.lemmas.List.{length-replicate, get_or_default}
use Rattle.std.proofs.lemmas.Nat.{shr_below}
use Rattle.vyrd_base.proofs.TestLaws.{apart_of, not_below_of}
use Rattle.vyrd_table.specs.Places.{IsWithin}
use Rattle.vyrd_table.proofs.EntryLaws.{given_value, find-with_value, IsEntries-put}
use Rattle.vyrd_table.proofs.EntryLaws.{IsEntries-with_value, entries_are, no_entries, not_found}
use Rattle.vyrd_table.proofs.EntryLaws.{put_more}

-- of 64 - shift bits, a key's first place is one of the places that may be first
pub places_within : (shift bits q : ℕ) → shift + bits ≡ 64 → first_place shift q < 2 ^ bits
unfolding first_place
places_within shift bits q sum =
    let low : (q * 11400714819323198485) % 18446744073709551616 < 18446744073709551616 =
    omega arith in
    let is : 2 ^ (bits + shift) ≡ 18446744073709551616 = ap (λ n. 2 ^ n)
    (let e : bits + shift ≡ 64 = omega (arith, sum) in e) in
    shr_below _ _ _ (omega (arith, low, is))

module _ {V : Type 0} (nothing : V) (is_nothing : V → Bool) where
  -- what the first place with a key and a value has of it
  abbrev pub held : List (ℕ × V) → ℕ → Option V
  held [] q = None
  held (p ∷ places) q =
      cond (is_nothing p.1) (held places q) (cond (q == p.0) (Some p.1) (held places q))

  -- where a key stands in the table, if it stands anywhere
  abbrev pub StandsAt : List (ℕ × V) → ℕ → Option ℕ → Type 0
  StandsAt places key None = (i : ℕ) → is_taken is_nothing (place_at nothing places i) ≡ true
      → (place_at nothing places i).0 ≢ key
  StandsAt places key (Some i) = (is_taken is_nothing (place_at nothing places i) ≡ true)
      × ((place_at nothing places i).0 ≡ key)

  -- a place where another key stands, or none
  pub skipped : (p : ℕ × V) (places : List (ℕ × V)) (q : ℕ)
      → (is_taken is_nothing p ≡ true → p.0 ≢ q) → held (p ∷ places) q ≡ held places q
  skipped p places q other = search (isnt_same, arith)

  pub find_in : (places rest : List (ℕ × V)) (q : ℕ)
      → find nat_cmp q (entries_in is_nothing places rest)
      ≡ option_or (held places q) (find nat_cmp q rest)
  unfolding entries_in
  find_in [] rest q = refl
  find_in (p ∷ places) rest q = by_taken (is_nothing p.1) (find_in places rest q)
    where
      by_taken : (b : Bool) → find nat_cmp q (entries_in is_nothing places rest)
          ≡ option_or (held places q) (find nat_cmp q rest)
          → find nat_cmp q
          (cond b (entries_in is_nothing places rest)
          (put nat_cmp p.0 p.1 (entries_in is_nothing places rest)))
          ≡ option_or (cond b (held places q) (cond (q == p.0) (Some p.1) (held places q)))
          (find nat_cmp q rest)
      by_taken true others = others
      by_taken false others =
          cc (
            find-put nat_cmp nat_cmp_total q p.0 p.1
                (entries_in is_nothing places rest),
            unsigned_tied q p.0,
            by_key (q == p.0),
          )
        where
          by_key : (b : Bool)
              → cond b (Some p.1) (find nat_cmp q (entries_in is_nothing places rest))
              ≡ option_or (cond b (Some p.1) (held places q)) (find nat_cmp q rest)
          by_key true = refl
          by_key false = others

  pub entries_formed : (places rest : List (ℕ × V)) → IsEntries is_nothing rest
      → IsEntries is_nothing (entries_in is_nothing places rest)
  unfolding entries_in
  entries_formed [] rest formed = formed
  entries_formed (p ∷ places) rest formed =
      by_taken (is_nothing _) refl (entries_formed places rest formed)
    where
      by_taken : (b : Bool) → is_nothing p.1 ≡ b
          → IsEntries is_nothing (entries_in is_nothing places rest)
          → IsEntries is_nothing
          (cond b (entries_in is_nothing places rest)
          (put nat_cmp p.0 p.1 (entries_in is_nothing places rest)))
      by_taken true e others = others
      by_taken false e others = search (IsEntries-put, entries_in, arith)

  -- the rest has no more keys than the whole
  pub rest_fewer : (places rest : List (ℕ × V)) → IsEntries is_nothing rest → length rest
      ≤ length (entries_in is_nothing places rest)
  unfolding entries_in
  rest_fewer [] rest formed = omega arith
  rest_fewer (p ∷ places) rest formed = by_taken (is_nothing _) (rest_fewer places rest formed)
    where
      by_taken : (b : Bool) → length rest ≤ length (entries_in is_nothing places rest)
          → length rest
          ≤ length
          (cond b (entries_in is_nothing places rest)
          (put nat_cmp p.0 p.1 (entries_in is_nothing places rest)))
      by_taken true fewer = fewer
      by_taken false fewer =
          grind (
            arith,
            put_more is_nothing (entries_in is_nothing places rest) p.0 p.1
                (entries_formed places rest formed),
          )

  pub held_none : (places : List (ℕ × V)) (q : ℕ) → StandsAt places q None → held places q ≡ None
  held_none [] q none = refl
  held_none (p ∷ places) q none = skipped p _ q (none zero) ∙ held_none places q (λ i. none (suc i))

  held_one : (passes : is_nothing nothing ≡ true) (places : List (ℕ × V)) (q i : ℕ)
      → StandsAt places q (Some i)
      → ((j : ℕ) → j ≢ i → is_taken is_nothing (place_at nothing places j) ≡ true
      → (place_at nothing places j).0 ≢ q)
      → held places q ≡ Some (place_at nothing places i).1
  held_one passes [] q i here others = cc
  held_one passes (p ∷ places) q zero here others = by_taken (is_nothing _) refl
    where
      by_taken : (b : Bool) → is_nothing p.1 ≡ b
          → cond b (held places q) (cond (q == p.0) (Some p.1) (held places q)) ≡ Some p.1
      by_taken true e = cc
      by_taken false e = cc (is_same q p.0 (sym here.1))
  held_one passes (p ∷ places) q (suc i) here others = skipped p _ q (others zero (omega arith))
      ∙ held_one passes places q i here
      (λ j other. others (suc j) (λ same. other (omega (arith, same))))

  held_set : (places : List (ℕ × V)) (i : ℕ) (p : ℕ × V) (r : ℕ)
      → (is_taken is_nothing (place_at nothing places i) ≡ true → (place_at nothing places i).0 ≢ r)
      → (is_taken is_nothing p ≡ true → p.0 ≢ r)
      → held (set places i p) r ≡ held places r
  held_set [] i p r old new = refl
  held_set (x ∷ places) zero p r old new = skipped p _ r new ∙ sym (skipped x _ r old)
  held_set (x ∷ places) (suc i) p r old new = cc (held_set places i p r old new)

  module _ (passes : is_nothing nothing ≡ true) (only : (v : V) → is_nothing v ≡ true → v ≡ nothing)
    where
      module _ (shift : ℕ) (places rest : List (ℕ × V))
          (table : ArePlaces nothing is_nothing shift places rest) where
        -- a key has a value in one place alone
        pub single : (i j : ℕ) → is_taken is_nothing (place_at nothing places i) ≡ true
            → is_taken is_nothing (place_at nothing places j) ≡ true
            → (place_at nothing places i).0 ≡ (place_at nothing places j).0 → i ≡ j
        single i j taken_i taken_j same = by_order (nat_lt i j) (nat_lt j i) refl refl
          where
            by_order : (a b : Bool) → nat_lt i j ≡ a → nat_lt j i ≡ b → i ≡ j
            by_order true b e f =
                let here : first_place shift (place_at nothing places i).0
                ≡ first_place shift (place_at nothing places j).0 = ap (first_place shift) same in
                let reach = table.within i taken_i in
                absurd (table.first j taken_j i (omega (arith, reach.0, here)) (below_of i j e)
                same)
            by_order false true e f =
                let here : first_place shift (place_at nothing places i).0
                ≡ first_place shift (place_at nothing places j).0 = ap (first_place shift) same in
                let reach = table.within j taken_j in
                absurd (table.first i taken_i j (omega (arith, reach.0, here)) (below_of j i f)
                (sym same))
            by_order false false e f = omega (arith, not_below_of i j e, not_below_of j i f)

        -- of the places of a key, none but the one that is found has a value
        pub others_of : (q i : ℕ) → IsFoundAt nothing shift places q (Some i) → (j : ℕ) → j ≢ i
            → is_taken is_nothing (place_at nothing places j) ≡ true
            → (place_at nothing places j).0 ≢ q
        others_of q i found j other taken same = by_order (nat_lt j i) refl
          where
            by_order : (b : Bool) → nat_lt j i ≡ b → ⊥
            by_order true e = let reach = table.within j taken in
                found.2 j (omega (arith, reach.0, ap (first_place shift) same)) (below_of j i e)
                same
            by_order false e =
                let within = found.0 in
                table.first j taken i (omega (arith, within.0, ap (first_place shift) same))
                (omega (arith, not_below_of j i e, other)) (found.1 ∙ sym same)

        -- if no place of a key has its name, it has no value in the table
        pub nowhere_of : (q : ℕ) → IsFoundAt nothing shift places q None → StandsAt places q None
        nowhere_of q missing i taken same =
            let reach = table.within i taken in
            let at : first_place shift (place_at nothing places i).0 ≡ first_place shift q =
            ap (first_place shift) same in
            missing i (omega (arith, reach.0, at), omega (arith, reach.1, at)) same

        -- and where the place that is found has none
        nowhere_else : (q i : ℕ) → IsFoundAt nothing shift places q (Some i)
            → is_nothing (place_at nothing places i).1 ≡ true → StandsAt places q None
        nowhere_else q i found free j taken = by_place (j == i) refl
          where
            by_place : (b : Bool) → (j == i) ≡ b → (place_at nothing places j).0 ≢ q
            by_place true e =
                let no : is_taken is_nothing (place_at nothing places j) ≡ false =
                ap (λ k. is_taken is_nothing (place_at nothing places k)) (same_of j i e)
                ∙ ap not free in absurd cc
            by_place false e = others_of q i found j (apart_of j i e) taken

        -- what there is of a key that isn't found, and of one that is
        pub find_missing : (q : ℕ) → IsFoundAt nothing shift places q None
            → find nat_cmp q (entries_in is_nothing places rest) ≡ find nat_cmp q rest
        find_missing q missing = find_in places rest q
            ∙ ap (λ o. option_or o (find nat_cmp q rest))
            (held_none places q (nowhere_of q missing))

        pub rest_found : (q i : ℕ) → IsFoundAt nothing shift places q (Some i) → find nat_cmp q rest
            ≡ None
        rest_found q i found =
            let within : IsWithin shift (place_at nothing places i).0 i =
            subst (λ k. IsWithin shift k i) (sym found.1) found.0 in
            ap (λ k. find nat_cmp k rest) (sym found.1) ∙ table.away i within

        pub find_found : (q i : ℕ) → IsFoundAt nothing shift places q (Some i)
            → find nat_cmp q (entries_in is_nothing places rest)
            ≡ given_value is_nothing (place_at nothing places i).1
        find_found q i found = by_nothing (is_nothing (place_at nothing places i).1) refl
          where
            by_nothing : (b : Bool) → is_nothing (place_at nothing places i).1 ≡ b
                → find nat_cmp q (entries_in is_nothing places rest)
                ≡ cond b None (Some (place_at nothing places i).1)
            by_nothing true e = find_in places rest q
                ∙ ap (λ o. option_or o (find nat_cmp q rest))
                (held_none places q (nowhere_else q i found e)) ∙ rest_found q i found
            by_nothing false e = find_in places rest q
                ∙ ap (λ o. option_or o (find nat_cmp q rest))
                (held_one passes places q i (ap not e, found.1) (others_of q i found))

        pub value_found : (q i : ℕ) → IsFoundAt nothing shift places q (Some i)
            → value_of nothing (entries_in is_nothing places rest) q ≡ (place_at nothing places i).1
        value_found q i found = ap (λ o. unwrap_or o nothing) (find_found q i found)
            ∙ by_nothing (is_nothing (place_at nothing places i).1) refl
          where
            by_nothing : (b : Bool) → is_nothing (place_at nothing places i).1 ≡ b
                → unwrap_or (cond b None (Some (place_at nothing places i).1)) nothing
                ≡ (place_at nothing places i).1
            by_nothing true e = sym (only (place_at nothing places i).1 e)
            by_nothing false e = refl

        pub value_missing : (q : ℕ) → IsFoundAt nothing shift places q None
            → value_of nothing (entries_in is_nothing places rest) q ≡ value_of nothing rest q
        value_missing q missing = ap (λ o. unwrap_or o nothing) (find_missing q missing)

      -- ---- a place has a new value of its key, or of a key that stood nowhere

      module _ (shift : ℕ) (places rest : List (ℕ × V))
          (table : ArePlaces nothing is_nothing shift places rest) (i q : ℕ) (v : V)
          (low : i < length places)
          (within : IsWithin shift q i) (before : (j : ℕ) → first_place shift q ≤ j → j < i
          → (place_at nothing places j).0 ≢ q)
          (others : (j : ℕ) → j ≢ i → is_taken is_nothing (place_at nothing places j) ≡ true
          → (place_at nothing places j).0 ≢ q)
          (own : is_taken is_nothing (place_at nothing places i) ≡ true
          → (place_at nothing places i).0 ≡ q) (none : find nat_cmp q rest ≡ None) where
        abbrev written : List (ℕ × V)
        written = set places i (q, v)

        here : place_at nothing written i ≡ (q, v)
        here = get_or-set_same places i (q, v) (0, nothing) low

        there : (j : ℕ) → j ≢ i → place_at nothing written j ≡ place_at nothing places j
        there j other = get_or-set_other places i j (q, v) (0, nothing) other

        own_key : (j : ℕ) → (j == i) ≡ true → (place_at nothing written j).0 ≡ q
        own_key j e = ap (λ k. (place_at nothing written k).0) (same_of j i e)
            ∙ ap (λ (p : ℕ × V). p.0) here

        other_key : (j : ℕ) → (j == i) ≡ false → is_taken is_nothing (place_at nothing written j)
            ≡ true → (place_at nothing written j).0 ≢ q
        other_key j e taken =
            let at = there j (apart_of j i e) in
            λ same. others j (apart_of j i e) (sym (ap (is_taken is_nothing) at) ∙ taken)
            (sym (ap (λ (p : ℕ × V). p.0) at) ∙ same)

        reach : (j : ℕ) → is_taken is_nothing (place_at nothing written j) ≡ true
            → IsWithin shift (place_at nothing written j).0 j
        reach j taken = by_place (j == i) refl
          where
            by_place : (b : Bool) → (j == i) ≡ b → IsWithin shift (place_at nothing written j).0 j
            by_place true e =
                let same : j ≡ i = same_of j i e in
                let is : first_place shift (place_at nothing written j).0 ≡ first_place shift q =
                ap (first_place shift) (own_key j e) in
                (omega (arith, is, same, within.0), omega (arith, is, same, within.1))
            by_place false e =
                let at = there j (apart_of j i e) in
                let bounds = table.within j (sym (ap (is_taken is_nothing) at) ∙ taken) in
                let is : first_place shift (place_at nothing written j).0
                ≡ first_place shift (place_at nothing places j).0 =
                ap (λ (p : ℕ × V). first_place shift p.0) at in
                (omega (arith, is, bounds.0), omega (arith, is, bounds.1))

        first : (j : ℕ) → is_taken is_nothing (place_at nothing written j) ≡ true → (k : ℕ)
            → first_place shift (place_at nothing written j).0 ≤ k → k < j
            → (place_at nothing written k).0 ≢ (place_at nothing written j).0
        first j taken k high low_k = by_places (j == i) (k == i) refl refl
          where
            by_places : (c d : Bool) → (j == i) ≡ c → (k == i) ≡ d
                → (place_at nothing written k).0 ≢ (place_at nothing written j).0
            by_places true true e f = absurd (omega (arith, same_of j i e, same_of k i f, low_k))
            by_places true false e f =
                let at = there k (apart_of k i f) in
                let is : first_place shift (place_at nothing written j).0 ≡ first_place shift q =
                ap (first_place shift) (own_key j e) in
                λ same. before k (omega (arith, high, is)) (omega (arith, low_k, same_of j i e))
                (sym (ap (λ (p : ℕ × V). p.0) at) ∙ same ∙ own_key j e)
            by_places false true e f = λ same. other_key j e taken (sym same ∙ own_key k f)
            by_places false false e f =
                let at_j = there j (apart_of j i e) in
                let at_k = there k (apart_of k i f) in
                let is : first_place shift (place_at nothing written j).0
                ≡ first_place shift (place_at nothing places j).0 =
                ap (λ (p : ℕ × V). first_place shift p.0) at_j in
                λ same. table.first j (sym (ap (is_taken is_nothing) at_j) ∙ taken) k
                (omega (arith, high, is)) low_k
                (sym (ap (λ (p : ℕ × V). p.0) at_k) ∙ same ∙ ap (λ (p : ℕ × V). p.0) at_j)

        away : (j : ℕ) → IsWithin shift (place_at nothing written j).0 j
            → find nat_cmp (place_at nothing written j).0 rest ≡ None
        away j near = by_place (j == i) refl
          where
            by_place : (b : Bool) → (j == i) ≡ b → find nat_cmp (place_at nothing written j).0 rest
                ≡ None
            by_place true e = ap (λ k. find nat_cmp k rest) (own_key j e) ∙ none
            by_place false e =
                let at = there j (apart_of j i e) in
                ap (λ (p : ℕ × V). find nat_cmp p.0 rest) at
                ∙ table.away j (subst (λ (p : ℕ × V). IsWithin shift p.0 j) at near)

        pub written_places : ArePlaces nothing is_nothing shift (set places i (q, v)) rest
        written_places = record {
          shifted = table.shifted;
          within = reach;
          first = first;
          room = λ r. omega (arith, table.room r, length-set places i (q, v));
          size = length-set places i (q, v) ∙ table.size;
          away = away;
          formed = table.formed;
        }

        found_again : IsFoundAt nothing shift written q (Some i)
        found_again = (
          within,
          ap (λ (p : ℕ × V). p.0) here,
          λ j high low_j. λ same. before j high low_j
              (sym (ap (λ (p : ℕ × V). p.0) (there j (omega (arith, low_j)))) ∙ same),
        )

        pub written_entries : entries_in is_nothing (set places i (q, v)) rest
            ≡ with_value is_nothing (entries_in is_nothing places rest) q v
        written_entries = entries_are is_nothing (entries_in is_nothing places rest)
            (entries_in is_nothing written rest) q v (entries_formed places rest table.formed)
            (entries_formed written rest table.formed) (λ r. by_key r (r == q) refl)
          where
            by_key : (r : ℕ) (b : Bool) → (r == q) ≡ b
                → find nat_cmp r (entries_in is_nothing written rest)
                ≡ cond b (given_value is_nothing v)
                (find nat_cmp r (entries_in is_nothing places rest))
            by_key r true e = ap (λ k. find nat_cmp k (entries_in is_nothing written rest))
                (same_of r q e)
                ∙ find_found shift written rest written_places q i found_again
                ∙ ap (λ (p : ℕ × V). given_value is_nothing p.1) here
            by_key r false e =
                let apart : r ≢ q = apart_of r q e in
                find_in written rest r
                ∙ ap (λ o. option_or o (find nat_cmp r rest))
                (held_set places i (q, v) r (λ taken same. apart (sym same ∙ own taken))
                (λ taken same. apart (sym same)))
                ∙ sym (find_in places rest r)

      -- what stands where a key was found is the key's value
      pub read_value : (shift : ℕ) (places rest : List (ℕ × V)) (i q : ℕ) (pair : ℕ × V)
          → ArePlaces nothing is_nothing shift places rest
          → IsFoundAt nothing shift places q (Some i) → pair ≡ slice_index_or places i pair → pair.1
          ≡ value_of nothing (entries_in is_nothing places rest) q
      read_value shift places rest i q pair table found is =
          let low : i < length places = omega (arith, table.room q, found.0.1) in
          ap (λ (p : ℕ × V). p.1) (is ∙ get_or_default places i pair (0, nothing) low)
          ∙ sym (value_found shift places rest table q i found)

      module _ (shift : ℕ) (places rest : List (ℕ × V)) (i q : ℕ) (v : V)
          (table : ArePlaces nothing is_nothing shift places rest)
          (found : IsFoundAt nothing shift places q (Some i)) where
        pub found_entries : entries_in is_nothing (set places i (q, v)) rest
            ≡ with_value is_nothing (entries_in is_nothing places rest) q v
        found_entries =
            written_entries shift places rest table i q v (omega (arith, table.room q, found.0.1))
            found.0 found.2
            (others_of shift places rest table q i found) (λ taken. found.1)
            (rest_found shift places rest table q i found)

      -- a free place for a key that no place of its has the name of, and that isn't among the rest
      module _ (shift : ℕ) (places rest : List (ℕ × V)) (i q : ℕ) (v : V)
          (table : ArePlaces nothing is_nothing shift places rest)
          (missing : IsFoundAt nothing shift places q None) (from : first_place shift q ≤ i)
          (to : i < first_place shift q + 4)
          (free : is_taken is_nothing (place_at nothing places i) ≡ false)
          (none : is_nothing (value_of nothing rest q) ≡ true) where
        not_taken : is_taken is_nothing (place_at nothing places i) ≡ true
            → (place_at nothing places i).0 ≡ q
        not_taken taken = cc

        pub free_places : ArePlaces nothing is_nothing shift (set places i (q, v)) rest
        free_places = written_places shift places rest table i q v (omega (arith, table.room q, to))
            (from, to)
            (λ j high low. missing j (high, omega (arith, low, to)))
            (λ j other. nowhere_of shift places rest table q missing j) not_taken
            (not_found is_nothing nothing rest q table.formed none)

        pub free_entries : entries_in is_nothing (set places i (q, v)) rest
            ≡ with_value is_nothing (entries_in is_nothing places rest) q v
        free_entries =
            written_entries shift places rest table i q v (omega (arith, table.room q, to))
            (from, to)
            (λ j high low. missing j (high, omega (arith, low, to)))
            (λ j other. nowhere_of shift places rest table q missing j) not_taken
            (not_found is_nothing nothing rest q table.formed none)

      -- the rest has a new value of a key that no place of its has the name of
      module _ (shift : ℕ) (places rest : List (ℕ × V)) (q : ℕ) (v : V)
          (table : ArePlaces nothing is_nothing shift places rest)
          (missing : IsFoundAt nothing shift places q None) where
        pub rest_places : ArePlaces nothing is_nothing shift places (with_value is_nothing rest q v)
        rest_places = record {
          shifted = table.shifted;
          within = table.within;
          first = table.first;
          room = table.room;
          size = table.size;
          away = λ i within.
              find-with_value is_nothing rest q v (place_at nothing places i).0
              ∙ ap (λ b. cond b (given_value is_nothing v)
              (find nat_cmp (place_at nothing places i).0 rest))
              (isnt_same (place_at nothing places i).0 q
              (λ same. missing i (subst (λ k. IsWithin shift k i) same within) same))
              ∙ table.away i within;
          formed = IsEntries-with_value is_nothing rest q v table.formed;
        }

        pub rest_entries : entries_in is_nothing places (with_value is_nothing rest q v)
            ≡ with_value is_nothing (entries_in is_nothing places rest) q v
        rest_entries = entries_are is_nothing (entries_in is_nothing places rest)
            (entries_in is_nothing places (with_value is_nothing rest q v)) q v
            (entries_formed places rest table.formed)
            (entries_formed places (with_value is_nothing rest q v)
            (IsEntries-with_value is_nothing rest q v table.formed))
            (λ r. by_key r (r == q) refl)
          where
            by_key : (r : ℕ) (b : Bool) → (r == q) ≡ b
                → find nat_cmp r (entries_in is_nothing places (with_value is_nothing rest q v))
                ≡ cond b (given_value is_nothing v)
                (find nat_cmp r (entries_in is_nothing places rest))
            by_key r true e =
                find_in places (with_value is_nothing rest q v) r
                ∙ ap (λ o. option_or o (find nat_cmp r (with_value is_nothing rest q v)))
                (ap (held places) (same_of r q e)
                ∙ held_none places q (nowhere_of shift places rest table q missing))
                ∙ find-with_value is_nothing rest q v r
                ∙ ap (λ b. cond b (given_value is_nothing v) (find nat_cmp r rest)) e
            by_key r false e =
                find_in places (with_value is_nothing rest q v) r
                ∙ ap (option_or (held places r)) (find-with_value is_nothing rest q v r
                ∙ ap (λ b. cond b (given_value is_nothing v) (find nat_cmp r rest)) e)
                ∙ sym (find_in places rest r)

      -- ---- a new table

      all_free : (n i : ℕ) → is_taken is_nothing (place_at nothing (replicate n (0, nothing)) i)
          ≡ false
      all_free zero i = ap not passes
      all_free (suc n) zero = ap not passes
      all_free (suc n) (suc i) = all_free n i

      pub new_places : (shift bits : ℕ) → 1 ≤ bits → shift + bits ≡ 64
          → ArePlaces nothing is_nothing shift (replicate (2 ^ bits + 3) (0, nothing)) []
      new_places shift bits some sum = record {
        shifted = omega (arith, sum, some);
        within = λ i taken. absurd (let no = all_free (2 ^ bits + 3) i in cc);
        first = λ i taken. absurd (let no = all_free (2 ^ bits + 3) i in cc);
        room = λ q. omega (
          arith,
          places_within shift bits q sum,
          length-replicate {A = ℕ × V} (2 ^ bits + 3)
              (0, nothing),
        );
        size = length-replicate {A = ℕ × V} (2 ^ bits + 3) (0, nothing)
            ∙ ap (λ n. 2 ^ n + 3) (let e : bits ≡ 64 - shift = omega (arith, sum) in e);
        away = λ i within. refl;
        formed = no_entries is_nothing;
      }

      pub new_entries : (n : ℕ) → entries_in is_nothing (replicate n (0, nothing)) [] ≡ []
      unfolding entries_in
      new_entries zero = refl
      new_entries (suc n) =
          ap (λ b. cond b (entries_in is_nothing (replicate n (0, nothing)) [])
          (put nat_cmp 0 nothing (entries_in is_nothing (replicate n (0, nothing)) []))) passes
          ∙ new_entries n
