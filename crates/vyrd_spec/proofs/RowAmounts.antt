-- The amounts of a row, key by key.
use Rattle.vyrd_spec.proofs.Prelude
use Prelude.{◌≡◌, ◌≢◌, ℕ, zero, suc, ◌+◌, ◌<◌, ◌≤◌, Bool, true, false, cond, List, [], ◌∷◌, ◌++◌}
use Prelude.{length, map, get_or, set, replicate, refl, ap, ◌∙◌, sym, arith, get_or-set_same}
use Prelude.{get_or-set_other, ◌==◌, nat_lt, AllByRecursion, get_or_past, All-from_recursion}
use Prelude.{numbers_below, Amounts, IsAmounts, amount_of, with_amount, given, part_given}
use Prelude.{amount_of-with_amount, IsAmounts-with_amount, IsAmounts-push, same_amounts}
use Prelude.{numbers_below-push, given-append, amount_of-collected, given_amount, same_of, apart_of}
use Prelude.{below_of, not_below_of, is_below, isnt_below, row_amounts, row_formed}

abbrev numbered : (ℕ → ℕ) → ℕ → List (ℕ × ℕ)
numbered f n = map {B = ℕ × ℕ} (λ h. (h, f h)) (numbers_below n)

abbrev pair_by : (ℕ → ℕ) → ℕ → ℕ × ℕ
pair_by f h = (h, f h)

map_push : (f : ℕ → ℕ) (ks : List ℕ) (n : ℕ) → map (pair_by f) (ks ++ n ∷ []) ≡ map (pair_by f) ks
    ++ pair_by f n ∷ []
map_push f [] n = refl
map_push f (k ∷ ks) n = ap (λ xs. pair_by f k ∷ xs) (map_push f ks n)

-- one number more
one_more : (f : ℕ → ℕ) (q n : ℕ) → cond (nat_lt q n) (f q) 0 + part_given q (n, f n)
    ≡ cond (nat_lt q (suc n)) (f q) 0
one_more f q n = grind (arith, below_of, same_of, is_below, isnt_below, not_below_of, apart_of)

given_numbered : (f : ℕ → ℕ) (q n : ℕ) → given q (numbered f n) ≡ cond (nat_lt q n) (f q) 0
given_numbered f q zero = cc (isnt_below q 0 (omega arith))
given_numbered f q (suc n) =
    let one : suc n ≡ n + 1 = omega arith in
    ap (λ k. given q (numbered f k)) one ∙ ap (λ ks. given q (map (pair_by f) ks))
    (numbers_below-push n) ∙ ap (given q) (map_push f _ n) ∙ given-append q _ _
    ∙ (let z : given q (numbered f n) + (part_given q (n, f n) + 0) ≡ given q (numbered f n)
    + part_given q (n, f n) = omega arith in z) ∙ ap (λ m. m + part_given q (n, f n))
    (given_numbered f q n) ∙ one_more f q n

-- the amount of a key is its element
pub row_amount : (row : List ℕ) (q : ℕ) → amount_of (row_amounts row) q ≡ get_or row q 0
unfolding row_amounts
row_amount row q = amount_of-collected _ q ∙ given_numbered _ q _ ∙ by_place (nat_lt q _) refl
  where
    by_place : (b : Bool) → nat_lt q (length row) ≡ b → cond b (get_or row q 0) 0 ≡ get_or row q 0
    by_place true e = refl
    by_place false e = sym (get_or_past _ q 0 (not_below_of q _ e))

-- a key has a new amount
pub row_set : (row : List ℕ) (h a : ℕ) → h < length row → row_amounts (set row h a)
    ≡ with_amount (row_amounts row) h a
row_set row h a low = same_amounts _ _ (row_formed _) (IsAmounts-with_amount _ h a (row_formed _))
    (λ q. row_amount _ q ∙ by_key q (q == h) refl ∙ sym (amount_of-with_amount _ h a q))
  where
    by_key : (q : ℕ) (b : Bool) → (q == h) ≡ b → get_or (set row h a) q 0 ≡ cond (q == h) a
        (amount_of (row_amounts row) q)
    by_key q true e = cc (same_of q h e, get_or-set_same row h a 0 low)
    by_key q false e = cc (get_or-set_other row h q a 0 (apart_of q h e), row_amount row q)

-- all amounts are 0
nothing_there : (n q : ℕ) → get_or {A = ℕ} (replicate n 0) q 0 ≡ 0
nothing_there zero q = refl
nothing_there (suc n) zero = refl
nothing_there (suc n) (suc q) = nothing_there n q

pub nothing_in_row : (n : ℕ) → row_amounts (replicate n 0) ≡ []
nothing_in_row n = search (same_amounts, row_formed, row_amount, nothing_there, arith)

-- a view has the amounts of the keys below n
pub record HasBelow (row : List ℕ) (n : ℕ) (view : Amounts) : Type 0 where
  pub below : AllByRecursion (λ p. p.0 < n) view
  pub formed : IsAmounts view
  pub shown : (q : ℕ) → amount_of view q ≡ cond (nat_lt q n) (get_or row q 0) 0

raised : (n : ℕ) (s : Amounts) → AllByRecursion (λ p. p.0 < n) s
    → AllByRecursion (λ p. p.0 < n + 1) s
raised n [] all = tt
raised n (e ∷ s) all = (omega (arith, all.0), raised n s all.1)

pushed : (n a : ℕ) (s : Amounts) → AllByRecursion (λ p. p.0 < n) s
    → AllByRecursion (λ p. p.0 < n + 1) (s ++ (n, a) ∷ [])
pushed n a [] all = (omega arith, tt)
pushed n a (e ∷ s) all = (omega (arith, all.0), pushed n a s all.1)

pub has_pushed : (row : List ℕ) (n a : ℕ) (view : Amounts) → get_or row n 0 ≡ a → a ≢ 0
    → HasBelow row n view
    → HasBelow row (n + 1) (view ++ (n, a) ∷ [])
has_pushed row n a view is some has = record {
  below = pushed n a view has.below;
  formed = formed;
  shown = λ q.
      sym (given_amount (view ++ (n, a) ∷ []) formed q) ∙ given-append q view ((n, a) ∷ [])
      ∙ (let z : given q view + (part_given q (n, a) + 0) ≡ given q view + part_given q (n, a) =
      omega arith in z)
      ∙ ap (λ m. m + part_given q (n, a)) (given_amount view has.formed q ∙ has.shown q)
      ∙ ap (λ v. cond (nat_lt q n) (get_or row q 0) 0 + part_given q (n, v)) (sym is)
      ∙ one_more (λ h. get_or row h 0) q n
      ∙ ap (λ m. cond (nat_lt q m) (get_or row q 0) 0)
      (let one : suc n ≡ n + 1 = omega arith in one);
}
  where
    formed : IsAmounts (view ++ (n, a) ∷ [])
    formed = IsAmounts-push view n a (All-from_recursion (λ p. p.0 < n) view has.below) some
        has.formed

pub has_skipped : (row : List ℕ) (n : ℕ) (view : Amounts) → get_or row n 0 ≡ 0 → HasBelow row n view
    → HasBelow row (n + 1) view
has_skipped row n view none has = grind (arith, raised n view has.below, has.formed)

pub has_all : (row : List ℕ) (n : ℕ) (view : Amounts) → length row ≤ n → HasBelow row n view
    → view ≡ row_amounts row
has_all row n view all has = same_amounts view (row_amounts row) has.formed (row_formed row)
    (λ q. has.shown q ∙ by_place q (nat_lt q n) refl ∙ sym (row_amount row q))
  where
    by_place : (q : ℕ) (b : Bool) → nat_lt q n ≡ b → cond b (get_or row q 0) 0 ≡ get_or row q 0
    by_place q true e = refl
    by_place q false e = sym (get_or_past row q 0 (omega (arith, all, not_below_of q n e)))
