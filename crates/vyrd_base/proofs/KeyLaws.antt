-- The keys before a pair amid amounts are below its own.
use Rattle.vyrd_base.proofs.Prelude.{ℕ, ◌<◌, T, [], ◌∷◌, ◌++◌, arith, All, nat_cmp, is_lt}
use Rattle.vyrd_base.proofs.Prelude.{AllByRecursion, nat_tests, Amounts, IsAmounts}
use Rattle.std.specs.FinMap.Entries.{below_all, is_sorted}
use Rattle.std.proofs.lemmas.List.Elements.{All-from_recursion}
use Rattle.vyrd_base.proofs.AmountLaws.{first_of_and, second_of_and}

lesser : (x k : ℕ) → T (is_lt (nat_cmp x k)) → x < k
lesser x k h = grind (arith, nat_tests)

lesser_than_later : (x k a : ℕ) (s rest : Amounts) → T (below_all nat_cmp x (s ++ (k, a) ∷ rest))
    → x < k
lesser_than_later x k a [] rest h = lesser x k (first_of_and _ _ h)
lesser_than_later x k a (e ∷ s) rest h = lesser_than_later x k a s rest (second_of_and _ _ h)

keys_before : (s : Amounts) (k a : ℕ) (rest : Amounts) → T (is_sorted nat_cmp (s ++ (k, a) ∷ rest))
    → AllByRecursion (λ p. p.0 < k) s
keys_before [] k a rest rising = tt
keys_before (e ∷ s) k a rest rising = (
  lesser_than_later e.0 k a s rest (first_of_and _ _ rising),
  keys_before s k a rest (second_of_and (below_all nat_cmp e.0 (s ++ (k, a) ∷ rest)) _ rising),
)

pub lesser_keys : (s : Amounts) (k a : ℕ) (rest : Amounts) → IsAmounts (s ++ (k, a) ∷ rest)
    → All (λ p. p.0 < k) s
lesser_keys s k a rest is = All-from_recursion (λ p. p.0 < k) s (keys_before s k a rest is.rising)
