-- An expression as a list of nodes, in which each speaks of earlier ones.
use Rattle.std.specs.Prelude.{ℕ, ◌-◌, List, [], ◌∷◌, ◌++◌, length, slice_index_or}
use Rattle.vyrd_own.specs.declared.node.Node.{Node}
use Rattle.vyrd_own.specs.declared.node.Node.TheVariants.{Number, At, Count, Shown, Hidden, Least}
use Rattle.vyrd_own.specs.declared.node.Node.TheVariants.{Greatest}
use Rattle.vyrd_own.specs.declared.node.Node.TheVariants.{First, Last, Size, Not, Infix, Choice}
use Rattle.vyrd_base.specs.Own.Expressions.{Expr, number, at, count, shown, hidden, least, greatest}
use Rattle.vyrd_base.specs.Own.Expressions.{first, last, size, negation, infix_of, choice}

-- the earlier expression of that number; one that isn't there is 0
abbrev pub earlier : List Expr → ℕ → Expr
earlier exprs i = slice_index_or exprs i (number 0)

-- the expression of a node, after those of the nodes before it
abbrev pub expr_at : List Expr → Node → Expr
expr_at exprs (Number n) = number n
expr_at exprs (At i) = at i
expr_at exprs Count = count
expr_at exprs (Shown a) = shown (earlier exprs a)
expr_at exprs (Hidden a) = hidden (earlier exprs a)
expr_at exprs (Least a) = least (earlier exprs a)
expr_at exprs (Greatest a) = greatest (earlier exprs a)
expr_at exprs (First i) = first i
expr_at exprs (Last i) = last i
expr_at exprs (Size i) = size i
expr_at exprs (Not a) = negation (earlier exprs a)
expr_at exprs (Infix op a b) = infix_of op (earlier exprs a) (earlier exprs b)
expr_at exprs (Choice test a b) = choice (earlier exprs test) (earlier exprs a) (earlier exprs b)

-- the expressions of all nodes, after some
abbrev pub exprs_from : List Expr → List Node → List Expr
exprs_from exprs [] = exprs
exprs_from exprs (node ∷ nodes) = exprs_from (exprs ++ expr_at exprs node ∷ []) nodes

-- the expressions of all nodes
unfoldable pub exprs_of : List Node → List Expr
exprs_of nodes = exprs_from [] nodes

-- the expression of the last node
unfoldable pub expr_of : List Node → Expr
expr_of nodes = earlier (exprs_of nodes) (length (exprs_of nodes) - 1)
