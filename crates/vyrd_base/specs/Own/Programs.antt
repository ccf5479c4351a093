-- A specification as it is written. Names that an expression speaks of are numbers in it: what has
-- a name where it stands, from 0 on.
use Rattle.std.specs.Prelude.{ℕ, List, Option}
use Rattle.vyrd_base.specs.Own.Expressions.{Expr}

-- a line that changes something: an amount, a register, a list
pub data Change : Type 0 where
  of_shown : Expr → Expr → Change
  of_hidden : Expr → Expr → Change
  of_register : ℕ → Expr → Change
  append : ℕ → Expr → Change
  prepend : ℕ → Expr → Change
  drop_first : ℕ → Change
  drop_last : ℕ → Change
  clear : ℕ → Change
  clear_shown : Change

-- a case as it is written
pub record Case : Type 0 where
  pub allow : Expr
  pub changes : List Change

-- a method as it is written: its names are those of its parameters, and then those of its `let`s
pub record Method : Type 0 where
  pub name : List ℕ
  pub names : List (List ℕ)
  pub arity : ℕ
  pub lets : List Expr
  pub answer : Option Expr
  pub cases : List Case

-- a specification as it is written
pub record Written : Type 0 where
  pub constant_names : List (List ℕ)
  pub constants : List ℕ
  pub register_names : List (List ℕ)
  pub registers : List ℕ
  pub list_names : List (List ℕ)
  pub lists : List (List ℕ)
  pub hidden : List (ℕ × ℕ)
  pub words : ℕ
  pub shows : List (Expr × Expr)
  pub methods : List Method
