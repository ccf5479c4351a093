-- Parts that are added to amounts, in whatever order.
use Rattle.vyrd_base.proofs.Prelude.{◌≡◌, ℕ, ◌+◌, List, [], ◌∷◌, ◌++◌, refl, ap, ◌∙◌, sym, arith}
use Rattle.vyrd_base.proofs.Prelude.{flat_map, numbers_below, Amounts, IsAmounts, amount_of}
use Rattle.vyrd_base.proofs.Prelude.{plus_amount, collected, given, added}
use Rattle.std.proofs.lemmas.List.Concat.{flat_map-append}
use Rattle.vyrd_base.proofs.PlaceLaws.{numbers_below-push}
use Rattle.vyrd_base.proofs.AmountLaws.{IsAmounts-with_amount, same_amounts}
use Rattle.vyrd_base.proofs.SumLaws.{given-append, amount_of-plus, amount_of-collected}
use Rattle.vyrd_base.proofs.SumLaws.{IsAmounts-collected}

pub amount_of-added : (parts : List (ℕ × ℕ)) (s : Amounts) (q : ℕ) → amount_of (added s parts) q
    ≡ amount_of s q + given q parts
amount_of-added [] s q = omega arith
amount_of-added (part ∷ parts) s q =
    omega (
      arith,
      amount_of-added parts (plus_amount s part.0 part.1) q,
      amount_of-plus s part.0
          part.1 q,
    )

pub IsAmounts-added : (parts : List (ℕ × ℕ)) (s : Amounts) → IsAmounts s → IsAmounts (added s parts)
IsAmounts-added [] s is = is
IsAmounts-added (part ∷ parts) s is = IsAmounts-added parts (plus_amount s _ _)
    (IsAmounts-with_amount s _ _ is)

pub added-append : (xs ys : List (ℕ × ℕ)) (s : Amounts) → added s (xs ++ ys) ≡ added (added s xs) ys
added-append [] ys s = refl
added-append (x ∷ xs) ys s = added-append xs ys (plus_amount s x.0 x.1)

-- further parts
pub collected-append : (xs ys : List (ℕ × ℕ)) → collected (xs ++ ys) ≡ added (collected xs) ys
collected-append xs ys =
    same_amounts (collected (xs ++ ys)) (added (collected xs) ys) (IsAmounts-collected (xs ++ ys))
    (IsAmounts-added ys (collected xs) (IsAmounts-collected xs))
    (λ q. omega (
      arith,
      amount_of-collected (xs ++ ys) q,
      given-append q xs ys,
      amount_of-added ys
          (collected xs) q,
      amount_of-collected xs q,
    ))

-- all parts, added to nothing
pub added-collected : (parts : List (ℕ × ℕ)) → added [] parts ≡ collected parts
added-collected parts = sym (collected-append [] parts)

append_none : (xs : List (ℕ × ℕ)) → xs ++ [] ≡ xs
append_none [] = refl
append_none (x ∷ xs) = ap (λ ys. x ∷ ys) (append_none xs)

-- the parts of one number more
pub parts-push : (f : ℕ → List (ℕ × ℕ)) (n : ℕ) → flat_map f (numbers_below (n + 1))
    ≡ flat_map f (numbers_below n) ++ f n
parts-push f n =
    cc (numbers_below-push n, flat_map-append f (numbers_below n) (n ∷ []), append_none (f n))

-- the amounts with the parts of one number more
pub collected-push : (f : ℕ → List (ℕ × ℕ)) (n : ℕ) (s t : Amounts)
    → s ≡ collected (flat_map f (numbers_below n)) → t ≡ added s (f n)
    → t ≡ collected (flat_map f (numbers_below (n + 1)))
collected-push f n s t is more = more ∙ ap (λ x. added x (f n)) is
    ∙ sym (ap collected (parts-push f n) ∙ collected-append (flat_map f (numbers_below n)) (f n))

pub added-push : (f : ℕ → List (ℕ × ℕ)) (n : ℕ) (r s t : Amounts)
    → s ≡ added r (flat_map f (numbers_below n)) → t ≡ added s (f n)
    → t ≡ added r (flat_map f (numbers_below (n + 1)))
added-push f n r s t is more = search (more, added, parts-push, added-append, arith)
