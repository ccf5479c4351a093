-- Keys that are gathered as amounts of 1.
use Rattle.vyrd_follow.proofs.Prelude.{◌≡◌, ◌≢◌, ℕ, ◌+◌, ◌*◌, ◌<◌, Bool, cond, List, ◌∙◌, sym}
use Rattle.vyrd_follow.proofs.Prelude.{subst, arith, ◌==◌, slice_index, Amounts, amount_of}
use Rattle.vyrd_follow.proofs.Prelude.{with_amount, node_word, amount_of-with_amount, same_of}
use Rattle.vyrd_follow.proofs.Prelude.{apart_of, same_number}

-- a key that is put is there
pub put_there : (s : Amounts) (k : ℕ) → amount_of (with_amount s k 1) k ≢ 0
put_there s k none = grind (arith, amount_of-with_amount s k 1 k, same_number k)

-- and so are those that were there
pub still_there : (s : Amounts) (k q : ℕ) → amount_of s q ≢ 0 → amount_of (with_amount s k 1) q ≢ 0
still_there s k q there none = by_test (q == k) (sym (amount_of-with_amount s k 1 q) ∙ none)
  where
    by_test : (b : Bool) → cond b 1 (amount_of s q) ≡ 0 → ⊥
    by_test b e = search (there, arith)

-- the key of one entry more
pub entries_there : (words : List ℕ) (node i : ℕ) (s t : Amounts)
    → t ≡ with_amount s (slice_index words (12 * node + 4 + i)) 1
    → ((j : ℕ) → j < i → amount_of s (node_word words node (4 + j)) ≢ 0)
    → (j : ℕ) → j < i + 1 → amount_of t (node_word words node (4 + j)) ≢ 0
entries_there words node i s t is before j low = search
    (same_of, put_there, still_there, apart_of, arith)

-- a key that was there before two more were put
pub there_then : (s t u : Amounts) (k l q : ℕ) → t ≡ with_amount s k 1 → u ≡ with_amount t l 1
    → amount_of s q ≢ 0 → amount_of u q ≢ 0
there_then s t u k l q first second there = grind (arith, there, still_there)

-- the two themselves
pub first_there : (s t u : Amounts) (k l : ℕ) → t ≡ with_amount s k 1 → u ≡ with_amount t l 1
    → amount_of u k ≢ 0
first_there s t u k l first second = grind (arith, still_there, put_there)

pub second_there : (t u : Amounts) (l : ℕ) → u ≡ with_amount t l 1 → amount_of u l ≢ 0
second_there t u l second = subst (λ v. amount_of v l ≢ 0) (sym second) (put_there t l)
