-- The one spelling of an expression. What is made of parts stands in brackets, with one space
-- between words.
use Rattle.std.specs.Prelude.{ℕ, ◌==◌, Bool, List, [], ◌++◌, codes, decimal}
use Rattle.std.specs.Prelude.{slice_index_or, if◌then◌else◌}
use Rattle.vyrd_base.specs.declared.own.op.Op.{Op}
use Rattle.vyrd_base.specs.declared.own.op.Op.TheVariants.{Plus, Minus, Times, Over, Rest, Equal}
use Rattle.vyrd_base.specs.declared.own.op.Op.TheVariants.{Unequal}
use Rattle.vyrd_base.specs.declared.own.op.Op.TheVariants.{Below, AtMost, Above, AtLeast, And, Or}
use Rattle.vyrd_base.specs.Own.Expressions.{Expr, number, at, count, shown, hidden, least, greatest}
use Rattle.vyrd_base.specs.Own.Expressions.{first}
use Rattle.vyrd_base.specs.Own.Expressions.{last, size, negation, infix_of, choice, most}

-- what an expression may speak of: values by their names, in the order of the values; lists by
-- their names, in the order of the lists; and the state, or not
pub record Scope : Type 0 where
  pub names : List (List ℕ)
  pub lists : List (List ℕ)
  pub reads : Bool

-- an operation between its two spaces
abbrev pub op_word : Op → List ℕ
op_word Plus = codes " + "
op_word Minus = codes " - "
op_word Times = codes " * "
op_word Over = codes " / "
op_word Rest = codes " % "
op_word Equal = codes " == "
op_word Unequal = codes " != "
op_word Below = codes " < "
op_word AtMost = codes " <= "
op_word Above = codes " > "
op_word AtLeast = codes " >= "
op_word And = codes " and "
op_word Or = codes " or "

-- a number: the greatest has the name `none`
abbrev pub number_word : ℕ → List ℕ
number_word n = if n == most then codes "none" else decimal n

-- a name by its place
abbrev pub name_at : List (List ℕ) → ℕ → List ℕ
name_at names i = slice_index_or names i []

-- an expression
abbrev pub spelled : Scope → Expr → List ℕ
spelled s (number n) = number_word n
spelled s (at i) = name_at s.names i
spelled s count = codes "count"
spelled s (shown key) = codes "[" ++ spelled s key ++ codes "]"
spelled s (hidden key) = codes "{" ++ spelled s key ++ codes "}"
spelled s (least key) = codes "(least " ++ spelled s key ++ codes ")"
spelled s (greatest key) = codes "(greatest " ++ spelled s key ++ codes ")"
spelled s (first i) = codes "(first " ++ name_at s.lists i ++ codes ")"
spelled s (last i) = codes "(last " ++ name_at s.lists i ++ codes ")"
spelled s (size i) = codes "(length " ++ name_at s.lists i ++ codes ")"
spelled s (negation e) = codes "(not " ++ spelled s e ++ codes ")"
spelled s (infix_of op a b) = codes "(" ++ spelled s a ++ op_word op ++ spelled s b ++ codes ")"
spelled s (choice test a b) = codes "(if " ++ spelled s test ++ codes " then " ++ spelled s a
    ++ codes " else " ++ spelled s b ++ codes ")"
