-- What parts give to a key, whose amount is the sum of it.
use Rattle.vyrd_base.proofs.Prelude
use Prelude.{◌≡◌, ◌≢◌, ℕ, zero, suc, ◌+◌, ◌*◌, ◌<◌, ◌≤◌, Bool, cond, List, [], ◌∷◌, ◌++◌, length}
use Prelude.{get_or, set, refl, ap, ◌∙◌, sym, arith, T, ◌==◌, flat_map, Some, unwrap_or, nat_cmp}
use Prelude.{is_lt, unsigned_tied, numbers_from, Amounts, IsAmounts, amount_of, plus_amount}
use Prelude.{collected, part_given, given, same_of, same_number, isnt_same}
use Rattle.std.specs.FinMap.Entries.{find, below_all}
use Rattle.vyrd_base.proofs.AmountLaws.{amount_of-with_amount, IsAmounts-with_amount, apart_from}
use Rattle.vyrd_base.proofs.AmountLaws.{first_of_and, second_of_and}

pub amount_of-plus : (s : Amounts) (k a q : ℕ) → amount_of (plus_amount s k a) q ≡ amount_of s q
    + part_given q (k, a)
amount_of-plus s k a q = grind (arith, amount_of-with_amount, same_of)

pub amount_of-collected : (parts : List (ℕ × ℕ)) (q : ℕ) → amount_of (collected parts) q
    ≡ given q parts
amount_of-collected [] q = refl
amount_of-collected (part ∷ parts) q =
    omega (arith, amount_of-plus (collected parts) part.0 part.1 q, amount_of-collected parts q)

pub IsAmounts-collected : (parts : List (ℕ × ℕ)) → IsAmounts (collected parts)
IsAmounts-collected [] = record { rising = tt; some = tt }
IsAmounts-collected (part ∷ parts) = IsAmounts-with_amount (collected parts) part.0
    (amount_of (collected parts) part.0 + part.1)
    (IsAmounts-collected parts)

pub given-append : (q : ℕ) (xs ys : List (ℕ × ℕ)) → given q (xs ++ ys) ≡ given q xs + given q ys
given-append q [] ys = omega arith
given-append q (x ∷ xs) ys = omega (arith, given-append q xs ys)

-- what numbers in a row give, if each gives this much at most
pub given_at_most : (f : ℕ → List (ℕ × ℕ)) (most q k n : ℕ) → ((j : ℕ) → given q (f j) ≤ most)
    → given q (flat_map f (numbers_from k n)) ≤ n * most
given_at_most f most q k zero each = omega arith
given_at_most f most q k (suc n) each =
    omega (
      arith,
      given-append q (f k) (flat_map f (numbers_from (k + 1) n)),
      each k,
      given_at_most
          f most q (k + 1) n each,
    )

-- what numbers in a row give, where none of them gives anything
pub given_nothing : (f : ℕ → List (ℕ × ℕ)) (q k n : ℕ)
    → ((j : ℕ) → k ≤ j → j < k + n → given q (f j) ≡ 0)
    → given q (flat_map f (numbers_from k n)) ≡ 0
given_nothing f q k zero each = refl
given_nothing f q k (suc n) each =
    omega (
      arith,
      given-append q (f k) (flat_map f (numbers_from (k + 1) n)),
      each k (omega arith) (omega arith),
      given_nothing f q (k + 1) n (λ j from to. each j (omega arith) (omega arith)),
    )

-- ---- what a pair gives

-- one pair gives way to another
pub given-set : (q : ℕ) (pairs : List (ℕ × ℕ)) (i : ℕ) (pair d : ℕ × ℕ) → i < length pairs
    → given q (set pairs i pair) + part_given q (get_or pairs i d) ≡ given q pairs
    + part_given q pair
given-set q [] i pair d low = absurd (omega arith)
given-set q (p ∷ pairs) zero pair d low = omega arith
given-set q (p ∷ pairs) (suc i) pair d low = omega (arith, given-set q pairs i pair d (omega arith))

-- what a pair gives to its own key, and to another
pub own_part : (k a : ℕ) → part_given k (k, a) ≡ a
own_part k a = ap (λ b. cond b a 0) (same_number k)

pub other_part : (q k a : ℕ) → q ≢ k → part_given q (k, a) ≡ 0
other_part q k a apart = ap (λ b. cond b a 0) (isnt_same q k apart)

-- at most its amount
pub part_at_most : (q k a : ℕ) → part_given q (k, a) ≤ a
part_at_most q k a = grind arith

pub one_at_most : (q k a : ℕ) → given q ((k, a) ∷ []) ≤ a
one_at_most q k a = omega (arith, part_at_most q k a)

-- nothing gives nothing
pub nothing_given : (q k : ℕ) → part_given q (k, 0) ≡ 0
nothing_given q k = grind arith

-- ---- keys that rise

-- amounts of greater keys give a key nothing
none_below : (q k : ℕ) (s : Amounts) → q ≤ k → T (below_all nat_cmp k s) → given q s ≡ 0
none_below q k [] le below = refl
none_below q k (e ∷ s) le below =
    omega (
      arith,
      ap (λ b. cond b e.1 0) (apart_from k q e.0 le (first_of_and _ _ below)),
      none_below q k s le (second_of_and (is_lt (nat_cmp k e.0)) _ below),
    )

-- amounts give each key what it has
pub given_amount : (s : Amounts) → IsAmounts s → (q : ℕ) → given q s ≡ amount_of s q
given_amount [] is q = refl
given_amount (e ∷ s) is q =
    let rest : IsAmounts s =
    record { rising = second_of_and (below_all nat_cmp e.0 s) _ is.rising; some = is.some.1 } in
    by_key (q == e.0) refl (given_amount s rest q)
    ∙ sym (cc (unsigned_tied q e.0))
  where
    by_key : (b : Bool) → (q == e.0) ≡ b → given q s ≡ amount_of s q → cond b e.1 0 + given q s
        ≡ unwrap_or (cond b (Some e.1) (find nat_cmp q s)) 0
    by_key b f same = search (none_below, same_of, first_of_and, given, arith)
