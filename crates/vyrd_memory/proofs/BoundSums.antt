-- The sum of the bounds, one operation more.
use Rattle.vyrd_memory.proofs.Prelude.{◌≡◌, ℕ, zero, suc, ◌+◌, ◌<◌, List, [], ◌∷◌, take, ap, arith}
use Rattle.vyrd_memory.proofs.Prelude.{get_or, length, Header, Op, bound_of, bounds_of}

pub bounds_of-more : (h : Header) (ops : List Op) (i : ℕ) (d : Op) → i < length ops
    → bounds_of h (take (i + 1) ops) ≡ bounds_of h (take i ops) + bound_of h (get_or ops i d).method
bounds_of-more h [] i d low = absurd (omega (arith, low))
bounds_of-more h (op ∷ ops) zero d low = omega arith
bounds_of-more h (op ∷ ops) (suc i) d low = let e : suc i + 1 ≡ suc (i + 1) = omega arith in
    omega (
      arith,
      ap (λ n. bounds_of h (take n (op ∷ ops))) e,
      bounds_of-more h ops i d
          (omega arith),
    )

-- a sum that has come so far, with the bound of one operation more
pub sum_more : (h : Header) (ops : List Op) (i sum bound : ℕ) (d : Op)
    → sum ≡ bounds_of h (take i ops)
    → bound ≡ bound_of h (get_or ops i d).method → i < length ops
    → sum + bound ≡ bounds_of h (take (i + 1) ops)
sum_more h ops i sum bound d so_far more low = cc (bounds_of-more h ops i d low)
