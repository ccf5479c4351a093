-- The amounts that a state shows, told key by key, and the words at the start.
use Rattle.vyrd_words.proofs.Prelude.{◌≡◌, ℕ, zero, suc, ◌+◌, ◌<◌, cond, [], ◌∷◌, ◌++◌, length}
use Rattle.vyrd_words.proofs.Prelude.{take, drop, get_or, refl, ap, ◌∙◌, sym, arith, ◌≢◌, ◌==◌, not}
use Rattle.vyrd_words.proofs.Prelude.{take_more, Amounts, IsAmounts, with_amount, isnt_same}
use Rattle.std.proofs.Common.{T}
use Rattle.std.specs.Prelude.{filter}
use Rattle.std.specs.Ordering.{nat_cmp, is_lt}
use Rattle.std.specs.declared.cmp.Ordering.TheVariants.{Greater}
use Rattle.std.specs.FinMap.Entries.{put, by_order, below_all, is_sorted}
use Rattle.std.specs.List.{AllByRecursion}
use Rattle.std.proofs.lemmas.Bool.Decides.{nat_tests}
use Rattle.vyrd_base.proofs.AmountLaws.{first_of_and, second_of_and}

above : (x k : ℕ) → T (is_lt (nat_cmp x k)) → nat_cmp k x ≡ Greater
above x k h = grind (arith, nat_tests)

below_at : (x k a : ℕ) (s t : Amounts) → T (below_all nat_cmp x (s ++ (k, a) ∷ t))
    → T (is_lt (nat_cmp x k))
below_at x k a [] t below = first_of_and _ _ below
below_at x k a (e ∷ s) t below = below_at x k a s t (second_of_and (is_lt (nat_cmp x e.0)) _ below)

-- a key above all others is put at the end
put_last : (k a : ℕ) (s t : Amounts) → T (is_sorted nat_cmp (s ++ (k, a) ∷ t)) → put nat_cmp k a s
    ≡ s ++ (k, a) ∷ []
put_last k a [] t rising = refl
put_last k a (e ∷ s) t rising =
    ap (λ o. by_order o ((k, a) ∷ e ∷ s) ((e.0, a) ∷ s) (e ∷ put nat_cmp k a s))
    (above e.0 k (below_at e.0 k a s t (first_of_and _ _ rising)))
    ∙ ap (λ es. e ∷ es)
    (put_last k a s t (second_of_and (below_all nat_cmp e.0 (s ++ (k, a) ∷ t)) _ rising))

split_here : (s : Amounts) (i : ℕ) (d : ℕ × ℕ) → i < length s → s ≡ take i s ++ get_or s i d
    ∷ drop (suc i) s
split_here [] i d low = absurd (omega (arith, low))
split_here (e ∷ s) zero d low = refl
split_here (e ∷ s) (suc i) d low = ap (λ es. e ∷ es) (split_here s i d (omega (arith, low)))

some_at : (s : Amounts) (i : ℕ) (d : ℕ × ℕ) → i < length s → AllByRecursion (λ entry. entry.1 ≢ 0) s
    → (get_or s i d).1 ≢ 0
some_at [] i d low all = absurd (omega (arith, low))
some_at (e ∷ s) zero d low all = all.0
some_at (e ∷ s) (suc i) d low all = some_at s i d (omega (arith, low)) all.1

-- the amounts up to a key, with this one
pub told_more : (s : Amounts) (i : ℕ) (d : ℕ × ℕ) → i < length s → IsAmounts s
    → with_amount (take i s) (get_or s i d).0 (get_or s i d).1 ≡ take (i + 1) s
told_more s i d low is =
    let e : ℕ × ℕ = get_or s i d in
    ap (λ b. cond b (filter (λ entry. not (entry.0 == e.0)) (take i s))
    (put nat_cmp e.0 e.1 (take i s))) (isnt_same e.1 0 (some_at s i d low is.some))
    ∙ put_last _ _ _ (drop (suc i) s) (rw (← split_here s i d low) is.rising)
    ∙ sym (take_more s i d low)
