-- How many nodes are looked at for the value of an expression.
use Rattle.vyrd_own.proofs.Prelude.{◌≡◌, ℕ, Bool, true, false, List, [], ◌∷◌, ◌++◌, length, ◌+◌}
use Rattle.vyrd_own.proofs.Prelude.{◌≤◌, arith, length-append, if◌then◌else◌, State, Expr, number}
use Rattle.vyrd_own.proofs.Prelude.{shown, hidden, least, greatest, negation, infix_of, choice}
use Rattle.vyrd_own.proofs.Prelude.{holds, value, counted, looked_at}
use Rattle.vyrd_base.specs.Own.Expressions.{at, count, first, last, size}
use Rattle.vyrd_own.specs.Prices.{nodes_of}

one_more : (parts : List Expr) (e : Expr) → length (parts ++ e ∷ []) ≡ length parts + 1
one_more parts e = omega (arith, length-append parts (e ∷ []))

pub of_infix : (left right : List Expr) (e : Expr) → length (left ++ right ++ e ∷ [])
    ≡ length left + length right + 1
of_infix left right e = search (length-append, left, arith)

-- no more nodes are looked at than there are
pub looked_few : (s : State) (values : List ℕ) (e : Expr) → looked_at s values e ≤ nodes_of e
looked_few s values (number n) = omega arith
looked_few s values (at i) = omega arith
looked_few s values count = omega arith
looked_few s values (shown e) =
    omega (arith, one_more (counted s values e) (shown e), looked_few s values e)
looked_few s values (hidden e) =
    omega (arith, one_more (counted s values e) (hidden e), looked_few s values e)
looked_few s values (least e) =
    omega (arith, one_more (counted s values e) (least e), looked_few s values e)
looked_few s values (greatest e) =
    omega (arith, one_more (counted s values e) (greatest e), looked_few s values e)
looked_few s values (first i) = omega arith
looked_few s values (last i) = omega arith
looked_few s values (size i) = omega arith
looked_few s values (negation e) =
    omega (arith, one_more (counted s values e) (negation e), looked_few s values e)
looked_few s values (infix_of op a b) =
    omega (
      arith,
      of_infix (counted s values a) (counted s values b) (infix_of op a b),
      looked_few s values a,
      looked_few s values b,
    )
looked_few s values (choice test a b) =
    by_test (holds (value s values test)) (looked_few s values test) (looked_few s values a)
    (looked_few s values b)
  where
    by_test : (says : Bool) → looked_at s values test ≤ nodes_of test
        → looked_at s values a ≤ nodes_of a → looked_at s values b ≤ nodes_of b
        → length (counted s values test
        ++ (if says then counted s values a else counted s values b) ++ choice test a b ∷ [])
        ≤ 1 + nodes_of test + nodes_of a + nodes_of b
    by_test true t l r = search (of_infix, counted, values, arith)
    by_test false t l r = search (of_infix, counted, values, arith)
