-- What places have whose keys come to a table one by one.
use Rattle.vyrd_table.proofs.Prelude
use Prelude.{◌≡◌, ◌≢◌, ℕ, zero, suc, ◌+◌, ◌<◌, ◌≤◌, Bool, true, false, cond, not, List, [], ◌∷◌}
use Prelude.{Option, Some, None, length, refl, ap, ◌∙◌, sym, arith, take, T, ◌==◌, count_by}
use Prelude.{option_or, nat_cmp, is_lt, find, put, below_all, is_sorted, unsigned_tied, nat_tests}
use Prelude.{sum_by-cons, first_of_and, second_of_and, same_of, IsEntries, with_value, is_taken}
use Prelude.{is_named, one_name, place_at, ArePlaces, AreNew, entries_in}
use Rattle.std.proofs.lemmas.List.Sums.{count_by_more_no, count_by_more_yes, sum_by-take-le}
use Rattle.vyrd_table.proofs.EntryLaws.{given_value, find-with_value, IsEntries-with_value}
use Rattle.vyrd_table.proofs.EntryLaws.{same_by_key, no_entries, length-put_new, put_less}
use Rattle.vyrd_table.proofs.PlaceLaws.{held, skipped, find_in, entries_formed, held_none, single}

is_greater : (k q : ℕ) → T (is_lt (nat_cmp k q)) → k < q
is_greater k q low = grind (arith, nat_tests)

or_none : {A : Type 0} (o : Option A) → option_or o None ≡ o
or_none o = search arith

module _ {V : Type 0} (nothing : V) (is_nothing : V → Bool) where
  -- what one place has of a key
  abbrev held_by : ℕ × V → ℕ → Option V
  held_by p q = cond (is_nothing p.1) None (cond (q == p.0) (Some p.1) None)

  -- one place more
  held_more : (pairs : List (ℕ × V)) (n q : ℕ) → n < length pairs
      → held nothing is_nothing (take (suc n) pairs) q
      ≡ option_or (held nothing is_nothing (take n pairs) q) (held_by (place_at nothing pairs n) q)
  held_more [] n q low = absurd (omega arith)
  held_more (p ∷ pairs) zero q low = refl
  held_more (p ∷ pairs) (suc n) q low =
      by_place (is_nothing _) (q == p.0) (held_more pairs n q (omega (arith, low)))
    where
      by_place : (b same : Bool)
          → held nothing is_nothing (take (suc n) pairs) q
          ≡ option_or (held nothing is_nothing (take n pairs) q)
          (held_by (place_at nothing pairs n) q)
          → cond b (held nothing is_nothing (take (suc n) pairs) q)
          (cond same (Some p.1) (held nothing is_nothing (take (suc n) pairs) q))
          ≡ option_or
          (cond b (held nothing is_nothing (take n pairs) q)
          (cond same (Some p.1) (held nothing is_nothing (take n pairs) q)))
          (held_by (place_at nothing pairs n) q)
      by_place true same more = more
      by_place false true more = refl
      by_place false false more = more

  held_take_none : (pairs : List (ℕ × V)) (n q : ℕ)
      → ((i : ℕ) → i < n → is_taken is_nothing (place_at nothing pairs i) ≡ true
      → (place_at nothing pairs i).0 ≢ q) → held nothing is_nothing (take n pairs) q ≡ None
  held_take_none [] zero q none = refl
  held_take_none [] (suc n) q none = refl
  held_take_none (p ∷ pairs) zero q none = refl
  held_take_none (p ∷ pairs) (suc n) q none =
      skipped nothing is_nothing p (take n pairs) q (none zero (omega arith))
      ∙ held_take_none pairs n q (λ i low. none (suc i) (omega (arith, low)))

  module _ (base pairs : List (ℕ × V)) (n : ℕ) (low : n < length pairs)
      (formed : IsEntries is_nothing base) where
    abbrev before : List (ℕ × V)
    before = entries_in is_nothing (take n pairs) base

    find_more : (q : ℕ) → find nat_cmp q (entries_in is_nothing (take (suc n) pairs) base)
        ≡ option_or
        (option_or (held nothing is_nothing (take n pairs) q)
        (held_by (place_at nothing pairs n) q)) (find nat_cmp q base)
    find_more q = find_in nothing is_nothing (take (suc n) pairs) base q
        ∙ ap (λ o. option_or o (find nat_cmp q base)) (held_more pairs n q low)

    entries_free : is_nothing (place_at nothing pairs n).1 ≡ true
        → entries_in is_nothing (take (suc n) pairs) base
        ≡ entries_in is_nothing (take n pairs) base
    entries_free free = same_by_key is_nothing (entries_in is_nothing (take (suc n) pairs) base)
        (entries_in is_nothing (take n pairs) base)
        (entries_formed nothing is_nothing (take (suc n) pairs) base formed)
        (entries_formed nothing is_nothing (take n pairs) base formed)
        (λ q. find_more q
        ∙ ap (λ o. option_or (option_or (held nothing is_nothing (take n pairs) q) o)
        (find nat_cmp q base))
        (ap (λ b. cond b None
        (cond (q == (place_at nothing pairs n).0) (Some (place_at nothing pairs n).1) None)) free)
        ∙ ap (λ o. option_or o (find nat_cmp q base))
        (or_none (held nothing is_nothing (take n pairs) q))
        ∙ sym (find_in nothing is_nothing (take n pairs) base q))

    entries_taken : is_nothing (place_at nothing pairs n).1 ≡ false
        → AreNew nothing is_nothing base pairs
        → entries_in is_nothing (take (suc n) pairs) base
        ≡ with_value is_nothing (entries_in is_nothing (take n pairs) base)
        (place_at nothing pairs n).0 (place_at nothing pairs n).1
    entries_taken taken new =
        same_by_key is_nothing (entries_in is_nothing (take (suc n) pairs) base)
        (with_value is_nothing (entries_in is_nothing (take n pairs) base)
        (place_at nothing pairs n).0 (place_at nothing pairs n).1)
        (entries_formed nothing is_nothing (take (suc n) pairs) base formed)
        (IsEntries-with_value is_nothing (entries_in is_nothing (take n pairs) base)
        (place_at nothing pairs n).0 (place_at nothing pairs n).1
        (entries_formed nothing is_nothing (take n pairs) base formed))
        (λ q. find_more q
        ∙ ap (λ b. option_or (option_or (held nothing is_nothing (take n pairs) q)
        (cond b None
        (cond (q == (place_at nothing pairs n).0) (Some (place_at nothing pairs n).1) None)))
        (find nat_cmp q base)) taken
        ∙ by_key q (q == (place_at nothing pairs n).0) refl
        ∙ sym (find-with_value is_nothing (entries_in is_nothing (take n pairs) base)
        (place_at nothing pairs n).0 (place_at nothing pairs n).1 q))
      where
        k : ℕ
        k = (place_at nothing pairs n).0

        unseen : held nothing is_nothing (take n pairs) (place_at nothing pairs n).0 ≡ None
        unseen = held_take_none pairs n (place_at nothing pairs n).0
            (λ i before_n taken_i same. let is : i ≡ n =
            new.single i n taken_i (ap not taken) same in absurd (omega (arith, is, before_n)))

        by_key : (q : ℕ) (b : Bool) → (q == (place_at nothing pairs n).0) ≡ b
            → option_or
            (option_or (held nothing is_nothing (take n pairs) q)
            (cond b (Some (place_at nothing pairs n).1) None)) (find nat_cmp q base)
            ≡ cond b (given_value is_nothing (place_at nothing pairs n).1)
            (find nat_cmp q (entries_in is_nothing (take n pairs) base))
        by_key q true e =
            ap (λ o. option_or (option_or o (Some (place_at nothing pairs n).1))
            (find nat_cmp q base))
            (ap (held nothing is_nothing (take n pairs)) (same_of q (place_at nothing pairs n).0 e)
            ∙ unseen)
            ∙ sym (ap (λ b. cond b None (Some (place_at nothing pairs n).1)) taken)
        by_key q false e =
            ap (λ o. option_or o (find nat_cmp q base))
            (or_none (held nothing is_nothing (take n pairs) q))
            ∙ sym (find_in nothing is_nothing (take n pairs) base q)

  -- none of the pairs
  pub none_come : (pairs base : List (ℕ × V)) → base ≡ entries_in is_nothing (take 0 pairs) base
  unfolding entries_in
  none_come pairs base = search arith

  -- all of them
  pub all_come : (pairs base : List (ℕ × V)) (n : ℕ) → length pairs ≤ n
      → entries_in is_nothing (take n pairs) base ≡ entries_in is_nothing pairs base
  all_come pairs base n all = ap (λ ps. entries_in is_nothing ps base) (whole pairs n all)
    where
      whole : (pairs : List (ℕ × V)) (n : ℕ) → length pairs ≤ n → take n pairs ≡ pairs
      whole [] zero all = refl
      whole [] (suc n) all = refl
      whole (p ∷ pairs) zero all = absurd (omega (arith, all))
      whole (p ∷ pairs) (suc n) all = ap (λ ps. p ∷ ps) (whole pairs n (omega (arith, all)))

  -- a key that comes isn't there before
  pub unseen_before : (base pairs : List (ℕ × V)) (n : ℕ)
      → is_taken is_nothing (place_at nothing pairs n) ≡ true → AreNew nothing is_nothing base pairs
      → find nat_cmp (place_at nothing pairs n).0 (entries_in is_nothing (take n pairs) base) ≡ None
  unseen_before base pairs n taken new =
      find_in nothing is_nothing (take n pairs) base (place_at nothing pairs n).0
      ∙ ap (λ o. option_or o (find nat_cmp (place_at nothing pairs n).0 base))
      (held_take_none pairs n (place_at nothing pairs n).0 (λ i before_n taken_i same.
      let is : i ≡ n = new.single i n taken_i taken same in
      absurd (omega (arith, is, before_n))))
      ∙ new.absent n taken

  -- one pair more: its key gets its value, unless that is nothing
  pub entries_more : (base pairs : List (ℕ × V)) (n : ℕ) → n < length pairs
      → IsEntries is_nothing base → AreNew nothing is_nothing base pairs
      → entries_in is_nothing (take (n + 1) pairs) base
      ≡ cond (is_nothing (place_at nothing pairs n).1) (entries_in is_nothing (take n pairs) base)
      (with_value is_nothing (entries_in is_nothing (take n pairs) base)
      (place_at nothing pairs n).0 (place_at nothing pairs n).1)
  entries_more base pairs n low formed new =
      ap (λ m. entries_in is_nothing (take m pairs) base) (let one : n + 1 ≡ suc n = omega arith in
      one)
      ∙ by_taken (is_nothing (place_at nothing pairs n).1) refl
    where
      by_taken : (b : Bool) → is_nothing (place_at nothing pairs n).1 ≡ b
          → entries_in is_nothing (take (suc n) pairs) base
          ≡ cond b (entries_in is_nothing (take n pairs) base)
          (with_value is_nothing (entries_in is_nothing (take n pairs) base)
          (place_at nothing pairs n).0 (place_at nothing pairs n).1)
      by_taken true e = entries_free base pairs n low formed e
      by_taken false e = entries_taken base pairs n low formed e new

  -- no more keys than what was there and the places that are taken
  pub no_more : (pairs base : List (ℕ × V)) → IsEntries is_nothing base
      → length (entries_in is_nothing pairs base)
      ≤ length base + count_by (is_taken is_nothing) pairs
  unfolding entries_in
  no_more [] base formed = omega arith
  no_more (p ∷ pairs) base formed =
      let counted : count_by (is_taken is_nothing) (p ∷ pairs)
      ≡ cond (is_taken is_nothing p) 1 0 + count_by (is_taken is_nothing) pairs =
      sum_by-cons (λ x. cond (is_taken is_nothing x) 1 0) p pairs in
      omega (arith, counted, by_taken (is_nothing p.1) (no_more pairs base formed))
    where
      by_taken : (b : Bool) → length (entries_in is_nothing pairs base)
          ≤ length base + count_by (is_taken is_nothing) pairs
          → length
          (cond b (entries_in is_nothing pairs base)
          (put nat_cmp p.0 p.1 (entries_in is_nothing pairs base)))
          ≤ length base + (cond (not b) 1 0 + count_by (is_taken is_nothing) pairs)
      by_taken true more = omega (arith, more)
      by_taken false more =
          omega (
            arith,
            more,
            put_less is_nothing (entries_in is_nothing pairs base) p.0 p.1
                (entries_formed nothing is_nothing pairs base formed),
          )

  -- and if the keys are new, just as many
  pub length_in : (pairs base : List (ℕ × V)) → IsEntries is_nothing base
      → AreNew nothing is_nothing base pairs
      → length (entries_in is_nothing pairs base)
      ≡ length base + count_by (is_taken is_nothing) pairs
  unfolding entries_in
  length_in [] base formed new = omega arith
  length_in (p ∷ pairs) base formed new =
      let counted : count_by (is_taken is_nothing) (p ∷ pairs)
      ≡ cond (is_taken is_nothing p) 1 0 + count_by (is_taken is_nothing) pairs =
      sum_by-cons (λ x. cond (is_taken is_nothing x) 1 0) p pairs in
      by_taken (is_nothing p.1) refl (length_in pairs base formed (record {
        single = λ i j taken_i taken_j same. let is : suc i ≡ suc j =
            new.single (suc i) (suc j) taken_i taken_j same in omega (arith, is);
        absent = λ i taken. new.absent (suc i) taken;
      })) ∙ ap (λ m. length base + m) (sym counted)
    where
      by_taken : (b : Bool) → is_nothing p.1 ≡ b → length (entries_in is_nothing pairs base)
          ≡ length base + count_by (is_taken is_nothing) pairs
          → length
          (cond b (entries_in is_nothing pairs base)
          (put nat_cmp p.0 p.1 (entries_in is_nothing pairs base)))
          ≡ length base + (cond (not b) 1 0 + count_by (is_taken is_nothing) pairs)
      by_taken true e more = omega (arith, more)
      by_taken false e more =
          let none : held nothing is_nothing pairs p.0 ≡ None =
          held_none nothing is_nothing pairs p.0
          (λ i taken same. let is : suc i ≡ 0 = new.single (suc i) 0 taken (ap not e) same in
          absurd (omega (arith, is))) in
          let unseen : find nat_cmp p.0 (entries_in is_nothing pairs base) ≡ None =
          find_in nothing is_nothing pairs base p.0
          ∙ ap (λ o. option_or o (find nat_cmp p.0 base)) none ∙ new.absent 0 (ap not e) in
          omega (
            arith,
            more,
            length-put_new is_nothing (entries_in is_nothing pairs base) p.0 p.1
                (entries_formed nothing is_nothing pairs base formed) unseen,
          )

  -- how many of the first places are taken
  pub count_more : (pairs : List (ℕ × V)) (n : ℕ) → n < length pairs
      → count_by (is_taken is_nothing) (take (n + 1) pairs)
      ≡ count_by (is_taken is_nothing) (take n pairs) + cond
      (is_nothing (place_at nothing pairs n).1) 0 1
  count_more pairs n low = by_taken (is_nothing (place_at nothing pairs n).1) refl
    where
      by_taken : (b : Bool) → is_nothing (place_at nothing pairs n).1 ≡ b
          → count_by (is_taken is_nothing) (take (n + 1) pairs)
          ≡ count_by (is_taken is_nothing) (take n pairs) + cond b 0 1
      by_taken true e =
          let more = count_by_more_no (is_taken is_nothing) pairs n (0, nothing) low (ap not e) in
          omega (arith, more)
      by_taken false e = count_by_more_yes (is_taken is_nothing) pairs n (0, nothing) low (ap not e)

  pub count_few : (pairs : List (ℕ × V)) (n : ℕ) → count_by (is_taken is_nothing) (take n pairs)
      ≤ count_by (is_taken is_nothing) pairs
  count_few pairs n = sum_by-take-le (λ p. cond (is_taken is_nothing p) 1 0) pairs n

  -- and how many have a name
  pub names_more : (pairs : List (ℕ × V)) (n : ℕ) → n < length pairs
      → count_by is_named (take (n + 1) pairs)
      ≡ count_by is_named (take n pairs) + one_name (place_at nothing pairs n).0
  names_more pairs n low = by_name ((place_at nothing pairs n).0 == 0) refl
    where
      by_name : (b : Bool) → ((place_at nothing pairs n).0 == 0) ≡ b
          → count_by is_named (take (n + 1) pairs) ≡ count_by is_named (take n pairs) + cond b 0 1
      by_name true e = let more = count_by_more_no is_named pairs n (0, nothing) low (ap not e) in
          omega (arith, more)
      by_name false e = count_by_more_yes is_named pairs n (0, nothing) low (ap not e)

  -- keys that rise are new where there are none
  above_at : (k : ℕ) (s : List (ℕ × V)) (i : ℕ) → is_nothing nothing ≡ true
      → T (below_all nat_cmp k s)
      → is_taken is_nothing (place_at nothing s i) ≡ true → k < (place_at nothing s i).0
  above_at k [] i passes below taken = grind arith
  above_at k (e ∷ s) zero passes below taken = is_greater k e.0 (first_of_and _ _ below)
  above_at k (e ∷ s) (suc i) passes below taken = above_at k s i passes
      (second_of_and (is_lt (nat_cmp k e.0)) _ below) taken

  rising_single : (s : List (ℕ × V)) → is_nothing nothing ≡ true → T (is_sorted nat_cmp s)
      → (i j : ℕ)
      → is_taken is_nothing (place_at nothing s i) ≡ true
      → is_taken is_nothing (place_at nothing s j) ≡ true
      → (place_at nothing s i).0 ≡ (place_at nothing s j).0 → i ≡ j
  rising_single [] passes rising i j taken_i taken_j same = grind arith
  rising_single (e ∷ s) passes rising zero zero taken_i taken_j same = refl
  rising_single (e ∷ s) passes rising zero (suc j) taken_i taken_j same =
      grind (arith, above_at e.0 s j passes (first_of_and _ _ rising) taken_j)
  rising_single (e ∷ s) passes rising (suc i) zero taken_i taken_j same =
      grind (arith, above_at e.0 s i passes (first_of_and _ _ rising) taken_i)
  rising_single (e ∷ s) passes rising (suc i) (suc j) taken_i taken_j same =
      cc (rising_single s passes (second_of_and (below_all nat_cmp e.0 s) _ rising) i j taken_i
      taken_j same)

  pub entries_new : (s : List (ℕ × V)) → is_nothing nothing ≡ true → IsEntries is_nothing s
      → AreNew nothing is_nothing [] s
  entries_new s passes is = search (rising_single, arith)

  held_entries : (s : List (ℕ × V)) → IsEntries is_nothing s → (q : ℕ) → held nothing is_nothing s q
      ≡ find nat_cmp q s
  held_entries [] is q = refl
  held_entries (e ∷ s) is q =
      let rest : IsEntries is_nothing s =
      record { rising = second_of_and (below_all nat_cmp e.0 s) _ is.rising; some = is.some.1 } in
      cc (is.some.0, held_entries s rest q, unsigned_tied q e.0)

  pub entries_again : (s : List (ℕ × V)) → IsEntries is_nothing s → entries_in is_nothing s [] ≡ s
  entries_again s is = same_by_key is_nothing (entries_in is_nothing s []) s
      (entries_formed nothing is_nothing s [] (no_entries is_nothing)) is
      (λ q. find_in nothing is_nothing s [] q ∙ or_none (held nothing is_nothing s q)
      ∙ held_entries s is q)

  -- the keys in the places of a table aren't among the rest
  pub places_new : (passes : is_nothing nothing ≡ true) (only : (v : V) → is_nothing v ≡ true → v
      ≡ nothing) (shift : ℕ) (places rest : List (ℕ × V))
      → ArePlaces nothing is_nothing shift places rest → AreNew nothing is_nothing rest places
  places_new passes only shift places rest table = search arith

pub names_few : {V : Type 0} (pairs : List (ℕ × V)) (n : ℕ) → count_by is_named (take n pairs)
    ≤ count_by is_named pairs
names_few pairs n = sum_by-take-le (λ p. cond (is_named p) 1 0) pairs n
