-- What one more node adds.
use Rattle.vyrd_own_text.proofs.Prelude.{◌≡◌, ℕ, ◌+◌, ◌<◌, List, [], ◌∷◌, ◌++◌, length, refl, ap}
use Rattle.vyrd_own_text.proofs.Prelude.{◌∙◌, sym, arith, suc, zero, length-append, ◌-◌, Expr, Adds}
use Rattle.vyrd_own.specs.declared.node.Node.{Node}
use Rattle.vyrd_own.specs.Nodes.{expr_at, exprs_from, earlier, exprs_of, expr_of}

from-snoc : (exprs : List Expr) (nodes : List Node) (node : Node)
    → exprs_from exprs (nodes ++ node ∷ []) ≡ exprs_from exprs nodes
    ++ expr_at (exprs_from exprs nodes) node ∷ []
from-snoc exprs [] node = refl
from-snoc exprs (n ∷ nodes) node = from-snoc (exprs ++ expr_at exprs n ∷ []) nodes node

from-length : (exprs : List Expr) (nodes : List Node) → length (exprs_from exprs nodes)
    ≡ length exprs + length nodes
from-length exprs [] = omega arith
from-length exprs (n ∷ nodes) = from-length (exprs ++ expr_at exprs n ∷ []) nodes
    ∙ omega (arith, length-append exprs (expr_at exprs n ∷ []))

pub exprs-length : (nodes : List Node) → length (exprs_of nodes) ≡ length nodes
unfolding exprs_of
exprs-length nodes = from-length [] nodes ∙ omega arith

pub exprs-snoc : (nodes : List Node) (node : Node) → exprs_of (nodes ++ node ∷ []) ≡ exprs_of nodes
    ++ expr_at (exprs_of nodes) node ∷ []
unfolding exprs_of
exprs-snoc nodes node = from-snoc [] nodes node

pub expr_of-last : (nodes : List Node) → earlier (exprs_of nodes) (length nodes - 1) ≡ expr_of nodes
unfolding expr_of
expr_of-last nodes = ap (λ n. earlier (exprs_of nodes) (n - 1)) (sym (exprs-length nodes))

earlier-front : (xs : List Expr) (x : Expr) (i : ℕ) → i < length xs → earlier (xs ++ x ∷ []) i
    ≡ earlier xs i
earlier-front [] x i h = absurd (omega arith)
earlier-front (y ∷ xs) x zero h = refl
earlier-front (y ∷ xs) x (suc i) h = earlier-front xs x i (omega arith)

earlier-back : (xs : List Expr) (x : Expr) → earlier (xs ++ x ∷ []) (length xs) ≡ x
earlier-back [] x = refl
earlier-back (y ∷ xs) x = earlier-back xs x

pub expr_of-snoc : (nodes : List Node) (node : Node) → expr_of (nodes ++ node ∷ [])
    ≡ expr_at (exprs_of nodes) node
expr_of-snoc nodes node =
    let n : length (nodes ++ node ∷ []) - 1 ≡ length (exprs_of nodes) =
    omega (arith, length-append nodes (node ∷ []), exprs-length nodes) in
    sym (expr_of-last (nodes ++ node ∷ []))
    ∙ ap (earlier (exprs_of (nodes ++ node ∷ []))) n
    ∙ ap (λ es. earlier es (length (exprs_of nodes))) (exprs-snoc nodes node)
    ∙ earlier-back (exprs_of nodes) (expr_at (exprs_of nodes) node)

pub Adds-snoc : (nodes : List Node) (node : Node) → Adds nodes (nodes ++ node ∷ [])
Adds-snoc nodes node = record {
  more = omega (arith, length-append nodes (node ∷ []));
  same = λ i h. ap (λ es. earlier es i) (exprs-snoc nodes node) ∙ earlier-front (exprs_of nodes)
      (expr_at (exprs_of nodes) node) i (omega (arith, exprs-length nodes));
}
