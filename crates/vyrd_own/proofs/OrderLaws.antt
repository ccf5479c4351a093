-- The nearest keys.
use Rattle.vyrd_own.proofs.Prelude.{◌≡◌, ℕ, Bool, true, false, cond, not, [], ◌∷◌, ◌++◌, refl, ap}
use Rattle.vyrd_own.proofs.Prelude.{◌∙◌, sym, arith, filter, reverse, ◌&&◌, nat_le, slice_index_or}
use Rattle.vyrd_own.proofs.Prelude.{nat_cmp, is_le, is_lt, nat_tests, reverse-append, map-append}
use Rattle.vyrd_own.proofs.Prelude.{Amounts, keys_of, most, least_from, greatest_to}

-- the keys of the entries that are kept
keys-filter : (p q : ℕ → Bool) → ((k : ℕ) → p k ≡ q k) → (es : Amounts)
    → keys_of (filter (λ e. p e.0) es) ≡ filter q (keys_of es)
keys-filter p q same [] = refl
keys-filter p q same (e ∷ es) = by_test (p e.0) (q e.0) (same e.0) (keys-filter p q same es)
  where
    by_test : (a b : Bool) → a ≡ b → keys_of (filter (λ e. p e.0) es) ≡ filter q (keys_of es)
        → keys_of (cond a (e ∷ filter (λ e. p e.0) es) (filter (λ e. p e.0) es))
        ≡ cond b (e.0 ∷ filter q (keys_of es)) (filter q (keys_of es))
    by_test true true s rest = ap (λ ks. e.0 ∷ ks) rest
    by_test false false s rest = rest
    by_test true false s rest = cc
    by_test false true s rest = cc

from_test : (key k : ℕ) → (is_le (nat_cmp key k) && true) ≡ nat_le key k
from_test key k = grind (arith, nat_tests)

to_test : (key k : ℕ) → not (is_lt (nat_cmp key k)) ≡ nat_le k key
to_test key k = grind (arith, nat_tests)

least-keys : (key : ℕ) (es found : Amounts) → found ≡ filter (λ e. is_le (nat_cmp key e.0) && true)
    es → least_from key es ≡ slice_index_or (keys_of found) 0 most
least-keys key es found is = ap (λ ks. slice_index_or ks 0 most)
    (sym (keys-filter (λ k. is_le _ && true) (λ k. nat_le _ k) (from_test _) es)
    ∙ ap keys_of (sym is))

greatest-keys : (key : ℕ) (es found : Amounts) → found ≡ filter (λ e. not (is_lt (nat_cmp key e.0)))
    es → greatest_to key es ≡ slice_index_or (reverse (keys_of found)) 0 most
greatest-keys key es found is = ap (λ ks. slice_index_or (reverse ks) 0 most)
    (sym (keys-filter (λ k. not _) (λ k. nat_le k _) (to_test _) es) ∙ ap keys_of (sym is))

pub least_none : (key : ℕ) (es found : Amounts)
    → found ≡ filter (λ e. is_le (nat_cmp key e.0) && true) es → found ≡ []
    → most ≡ least_from key es
least_none key es found is none = cc (least-keys key es found is)

pub least_found : (key : ℕ) (es found rest : Amounts) (k a : ℕ)
    → found ≡ filter (λ e. is_le (nat_cmp key e.0) && true) es → found ≡ (k, a) ∷ rest
    → k ≡ least_from key es
least_found key es found rest k a is some = cc (least-keys key es found is)

pub greatest_none : (key : ℕ) (es found : Amounts)
    → found ≡ filter (λ e. not (is_lt (nat_cmp key e.0))) es → found ≡ []
    → most ≡ greatest_to key es
greatest_none key es found is none = cc (greatest-keys key es found is)

last-key : (rest : Amounts) (k a : ℕ) → slice_index_or (reverse (keys_of (rest ++ (k, a) ∷ []))) 0
    most ≡ k
last-key rest k a =
    ap (λ ks. slice_index_or (reverse ks) 0 most)
    (map-append (λ (e : ℕ × ℕ). e.0) rest ((k, a) ∷ []))
    ∙ ap (λ ks. slice_index_or ks 0 most) (reverse-append (keys_of rest) (k ∷ []))

pub greatest_found : (key : ℕ) (es found rest : Amounts) (k a : ℕ)
    → found ≡ filter (λ e. not (is_lt (nat_cmp key e.0))) es → found ≡ rest ++ (k, a) ∷ []
    → k ≡ greatest_to key es
greatest_found key es found rest k a is some = grind (arith, found, greatest-keys, last-key)
