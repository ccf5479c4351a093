-- Expressions and their values.
use Rattle.std.specs.Prelude.{ℕ, ◌+◌, ◌-◌, ◌*◌, ◌/◌, ◌%◌, ◌==◌, ◌&&◌, ◌||◌, Bool, true, false}
use Rattle.std.specs.Prelude.{not, nat_lt, nat_le, min, List, [], length, filter, reverse}
use Rattle.std.specs.Prelude.{slice_index}
use Rattle.std.specs.Prelude.{slice_index_or, if◌then◌else◌}
use Rattle.vyrd_base.specs.Amounts.{Amounts, amount_of, keys_of}
use Rattle.vyrd_base.specs.States.{State}
use Rattle.vyrd_base.specs.declared.own.op.Op.{Op}
use Rattle.vyrd_base.specs.declared.own.op.Op.TheVariants.{Plus, Minus, Times, Over, Rest, Equal}
use Rattle.vyrd_base.specs.declared.own.op.Op.TheVariants.{Unequal}
use Rattle.vyrd_base.specs.declared.own.op.Op.TheVariants.{Below, AtMost, Above, AtLeast, And, Or}

-- An expression. `at i` stands for a name: it is value number i of those that have names there.
-- `first i`, `last i` and `size i` speak of list number i.
pub data Expr : Type 0 where
  number : ℕ → Expr
  at : ℕ → Expr
  count : Expr
  shown : Expr → Expr
  hidden : Expr → Expr
  least : Expr → Expr
  greatest : Expr → Expr
  first : ℕ → Expr
  last : ℕ → Expr
  size : ℕ → Expr
  negation : Expr → Expr
  infix_of : Op → Expr → Expr → Expr
  choice : Expr → Expr → Expr → Expr

-- the greatest number of 64 bits, which is also `none`
abbrev pub most : ℕ
most = 18446744073709551615

-- 1 for what holds and 0 for what doesn't
abbrev pub flag : Bool → ℕ
flag true = 1
flag false = 0

-- what isn't 0 is true
abbrev pub holds : ℕ → Bool
holds value = not (value == 0)

-- the value of an operation: `+` and `*` stop at 2^64 - 1, `-` stops at 0, and a division by 0
-- gives 0
abbrev pub operated : Op → ℕ → ℕ → ℕ
operated Plus a b = min (a + b) most
operated Minus a b = a - b
operated Times a b = min (a * b) most
operated Over a b = if b == 0 then 0 else a / b
operated Rest a b = if b == 0 then 0 else a % b
operated Equal a b = flag (a == b)
operated Unequal a b = flag (not (a == b))
operated Below a b = flag (nat_lt a b)
operated AtMost a b = flag (nat_le a b)
operated Above a b = flag (nat_lt b a)
operated AtLeast a b = flag (nat_le b a)
operated And a b = flag (holds a && holds b)
operated Or a b = flag (holds a || holds b)

-- the keys from this one on, and the keys up to it, in their order
abbrev pub keys_from : ℕ → Amounts → List ℕ
keys_from key amounts = filter (λ k. nat_le key k) (keys_of amounts)

abbrev pub keys_to : ℕ → Amounts → List ℕ
keys_to key amounts = filter (λ k. nat_le k key) (keys_of amounts)

-- the least key from this one on, and the greatest up to it, or `none`
abbrev pub least_from : ℕ → Amounts → ℕ
least_from key amounts = slice_index_or (keys_from key amounts) 0 most

abbrev pub greatest_to : ℕ → Amounts → ℕ
greatest_to key amounts = slice_index_or (reverse (keys_to key amounts)) 0 most

-- the list of that number; one that isn't there is empty
abbrev pub list_at : State → ℕ → List ℕ
list_at s i = slice_index_or s.lists i []

-- the first and the last of a list, or `none`
abbrev pub first_of : List ℕ → ℕ
first_of list = slice_index_or list 0 most

abbrev pub last_of : List ℕ → ℕ
last_of list = slice_index_or (reverse list) 0 most

-- The value of an expression, where `values` are those that have names. A name that isn't there has
-- the value 0.
abbrev pub value : State → List ℕ → Expr → ℕ
value s values (number n) = n
value s values (at i) = slice_index values i
value s values count = length s.shown
value s values (shown e) = amount_of s.shown (value s values e)
value s values (hidden e) = amount_of s.hidden (value s values e)
value s values (least e) = least_from (value s values e) s.shown
value s values (greatest e) = greatest_to (value s values e) s.shown
value s values (first i) = first_of (list_at s i)
value s values (last i) = last_of (list_at s i)
value s values (size i) = length (list_at s i)
value s values (negation e) = flag (not (holds (value s values e)))
value s values (infix_of op a b) = operated op (value s values a) (value s values b)
value s values (choice test a b) =
    if holds (value s values test) then value s values a else value s values b
