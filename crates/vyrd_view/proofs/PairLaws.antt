-- What is kept, and what one pair of it gives.
use Rattle.vyrd_view.proofs.Prelude.{◌≡◌, ℕ, zero, suc, ◌<◌, ◌≤◌, Bool, true, false, List, [], ◌∷◌}
use Rattle.vyrd_view.proofs.Prelude.{◌++◌, length, get_or, refl, arith, nat_lt, get_or_past}
use Rattle.vyrd_view.proofs.Prelude.{own_part, below_of, not_below_of, EachAtMost, Amounts, given}
use Rattle.vyrd_view.proofs.Prelude.{part_given, ComparedKept}

-- each pair gives at most what all give
pub part-le-given : (q : ℕ) (pairs : List (ℕ × ℕ)) (i : ℕ) (d : ℕ × ℕ) → i < length pairs
    → part_given q (get_or pairs i d) ≤ given q pairs
part-le-given q [] i d low = absurd (omega arith)
part-le-given q (p ∷ pairs) zero d low = omega arith
part-le-given q (p ∷ pairs) (suc i) d low = omega (arith, part-le-given q pairs i d (omega arith))

-- where nothing is given to any key, no pair gives anything
pub nothing_at_most : (most : ℕ) (pairs : List (ℕ × ℕ)) → ((q : ℕ) → given q pairs ≡ 0)
    → EachAtMost most pairs
nothing_at_most most pairs none i = by_place (nat_lt i (length pairs)) refl
  where
    pair : ℕ × ℕ
    pair = get_or pairs i (0, 0)

    by_place : (b : Bool) → nat_lt i (length pairs) ≡ b → (get_or pairs i (0, 0)).1 ≤ most
    by_place true e =
        grind (
          arith,
          part-le-given pair.0 pairs i (0, 0) (below_of i (length pairs) e),
          own_part
              pair.0 pair.1,
          none pair.0,
        )
    by_place false e = grind (arith, get_or_past pairs i (0, 0) (not_below_of i (length pairs) e))

-- one pair more
pub each-push : (most : ℕ) (pairs : List (ℕ × ℕ)) (pair : ℕ × ℕ) → pair.1 ≤ most
    → EachAtMost most pairs → EachAtMost most (pairs ++ pair ∷ [])
each-push most [] pair small each zero = small
each-push most [] pair small each (suc i) = omega arith
each-push most (p ∷ pairs) pair small each zero = each zero
each-push most (p ∷ pairs) pair small each (suc i) =
    each-push most pairs pair small (λ j. each (suc j)) i

-- what is kept, field by field
pub all_kept : (kept : ComparedKept) (pairs : List (ℕ × ℕ)) (specified : Amounts) (refused : Bool)
    → kept.pairs ≡ pairs → kept.specified ≡ specified
    → kept.refused ≡ refused
    → kept ≡ record { pairs = pairs; specified = specified; refused = refused }
all_kept kept pairs specified refused p s r = search (refused, arith)
