-- The expressions of nodes, one after the other.
use Rattle.vyrd_own.proofs.Prelude.{◌≡◌, ℕ, List, [], ◌∷◌, ◌++◌, length, refl, ap, ◌∙◌, sym, suc}
use Rattle.vyrd_own.proofs.Prelude.{zero, arith, take, get_or, ◌<◌, ◌+◌, length-append, ◌-◌, ◌≤◌}
use Rattle.vyrd_own.proofs.Prelude.{drop, take-append-drop, length-take-le, Node, Expr, number}
use Rattle.vyrd_own.proofs.Prelude.{earlier, expr_at, exprs_from, exprs_of, expr_of}

-- one node more
from_more : (exprs : List Expr) (nodes : List Node) (node : Node)
    → exprs_from exprs (nodes ++ node ∷ []) ≡ exprs_from exprs nodes
    ++ expr_at (exprs_from exprs nodes) node ∷ []
from_more exprs [] node = refl
from_more exprs (n ∷ nodes) node = from_more (exprs ++ expr_at exprs n ∷ []) nodes node

-- the last of a list
last_more : (exprs : List Expr) (e : Expr) → earlier (exprs ++ e ∷ [])
    (length (exprs ++ e ∷ []) - 1) ≡ e
last_more exprs e = ap (earlier (exprs ++ e ∷ [])) (index exprs) ∙ at_end exprs
  where
    index : (xs : List Expr) → length (xs ++ e ∷ []) - 1 ≡ length xs
    index xs = omega (arith, length-append xs (e ∷ []))

    at_end : (xs : List Expr) → earlier (xs ++ e ∷ []) (length xs) ≡ e
    at_end [] = refl
    at_end (x ∷ xs) = at_end xs

-- the expression of all nodes is that of the last, after those before it
pub expr_last : (front nodes : List Node) (node : Node) → nodes ≡ front ++ node ∷ [] → expr_of nodes
    ≡ expr_at (exprs_of front) node
unfolding expr_of exprs_of
expr_last front nodes node is = search (from_more, last_more, arith)

-- there is no node
pub expr_none : (nodes : List Node) → nodes ≡ [] → expr_of nodes ≡ number 0
unfolding expr_of exprs_of
expr_none nodes is = ap (λ ns. earlier (exprs_from [] ns) (length (exprs_from [] ns) - 1)) is

-- the first expressions are those of the first nodes
length_from : (exprs : List Expr) (nodes : List Node) → length (exprs_from exprs nodes)
    ≡ length exprs + length nodes
length_from exprs [] = omega arith
length_from exprs (n ∷ nodes) =
    omega (
      arith,
      length_from (exprs ++ expr_at exprs n ∷ []) nodes,
      length-append exprs
          (expr_at exprs n ∷ []),
    )

kept_at : (exprs : List Expr) (nodes : List Node) (i : ℕ) → i < length exprs
    → earlier (exprs_from exprs nodes) i ≡ earlier exprs i
kept_at exprs [] i low = refl
kept_at exprs (n ∷ nodes) i low = kept_at (exprs ++ expr_at _ n ∷ []) nodes i
    (omega (arith, length-append exprs (expr_at exprs n ∷ []))) ∙ inside exprs i low
  where
    inside : (xs : List Expr) (j : ℕ) → j < length xs → earlier (xs ++ expr_at exprs n ∷ []) j
        ≡ earlier xs j
    inside [] j h = absurd (omega arith)
    inside (x ∷ xs) zero h = refl
    inside (x ∷ xs) (suc j) h = inside xs j (omega arith)

from_split : (exprs : List Expr) (nodes others : List Node) → exprs_from exprs (nodes ++ others)
    ≡ exprs_from (exprs_from exprs nodes) others
from_split exprs [] others = refl
from_split exprs (n ∷ nodes) others = from_split (exprs ++ expr_at exprs n ∷ []) nodes others

-- an earlier expression is that of the nodes up to its own
pub earlier_is : (front upto : List Node) (i : ℕ) → i < length front → upto ≡ take (i + 1) front
    → expr_of upto ≡ earlier (exprs_of front) i
unfolding expr_of exprs_of
earlier_is front upto i low is =
    ap (λ ns. earlier (exprs_from [] ns) (length (exprs_from [] ns) - 1)) is
    ∙ ap (earlier (exprs_from [] (take (i + 1) front))) index
    ∙ sym (kept_at (exprs_from [] (take (i + 1) front)) (drop (i + 1) front) i below)
    ∙ ap (λ es. earlier es i) (sym (from_split [] (take (i + 1) front) (drop (i + 1) front))
    ∙ ap (exprs_from []) (take-append-drop (i + 1) front))
  where
    count : length (exprs_from [] (take (i + 1) front)) ≡ i + 1
    count = length_from [] (take (i + 1) front)
        ∙ omega (arith, length-take-le (i + 1) front (omega arith))

    index : length (exprs_from [] (take (i + 1) front)) - 1 ≡ i
    index = omega (arith, count)

    below : i < length (exprs_from [] (take (i + 1) front))
    below = omega (arith, count)

-- the first nodes up to one of them
take_to : (front : List Node) (i : ℕ) (other node : Node) → i < length front
    → get_or front i other ≡ node → take (suc i) front ≡ take i front ++ node ∷ []
take_to [] i other node low is = absurd (omega arith)
take_to (n ∷ front) zero other node low is = ap (λ x. x ∷ []) is
take_to (n ∷ front) (suc i) other node low is = cc (take_to front i other node (omega arith) is)

-- an earlier expression is that of its node
pub earlier_at : (front : List Node) (i : ℕ) (other node : Node) → i < length front
    → get_or front i other ≡ node
    → earlier (exprs_of front) i ≡ expr_at (exprs_of (take i front)) node
earlier_at front i other node low is =
    let next : i + 1 ≡ suc i = omega arith in
    sym (earlier_is _ (take _ _) i low refl)
    ∙ expr_last _ _ _ (cc (take_to front i other node low is))

-- past the nodes there is no expression
pub earlier_none : (front : List Node) (i : ℕ) → length front ≤ i → earlier (exprs_of front) i
    ≡ number 0
unfolding exprs_of
earlier_none front i past = beyond (exprs_from [] front) i (omega (arith, length_from [] front))
  where
    beyond : (xs : List Expr) (j : ℕ) → length xs ≤ j → earlier xs j ≡ number 0
    beyond [] j h = refl
    beyond (x ∷ xs) zero h = absurd (omega arith)
    beyond (x ∷ xs) (suc j) h = beyond xs j (omega arith)

pub length_zero : (nodes : List Node) → length nodes ≡ 0 → nodes ≡ []
length_zero [] e = refl
length_zero (n ∷ nodes) e = absurd (omega arith)
