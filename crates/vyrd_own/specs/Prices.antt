-- What the calls of a specification cost at most, in steps. One step is a node of an expression
-- that is looked at, with the amount that it looks up; a value that is put at hand; a case or a
-- line that is gone through; an effect or an amount that is gone through on the way into the state;
-- or an amount that is looked up or set there. What one look-up costs is a matter of the table.
-- Memory that is asked for isn't counted, nor what moves as a list grows, nor what is cleared.
use Rattle.std.specs.Prelude.{ℕ, ◌+◌, ◌*◌, max, List, [], ◌∷◌, length}
use Rattle.std.specs.Option.{option_map_or}
use Rattle.vyrd_base.specs.Own.Expressions.{Expr, number, at, count, shown, hidden, least, greatest}
use Rattle.vyrd_base.specs.Own.Expressions.{first, last, size, negation, infix_of, choice}
use Rattle.vyrd_base.specs.Own.Programs.{Change, of_shown, of_hidden, of_register, append, prepend}
use Rattle.vyrd_base.specs.Own.Programs.{drop_first, drop_last, clear, clear_shown, Case, Method}
use Rattle.vyrd_base.specs.Own.Programs.{Written}
use Rattle.vyrd_base.specs.States.{State}
use Rattle.vyrd_own.specs.Reads.{counted}

-- how many nodes an expression has, as a tree
abbrev pub nodes_of : Expr → ℕ
nodes_of (number n) = 1
nodes_of (at i) = 1
nodes_of count = 1
nodes_of (shown e) = 1 + nodes_of e
nodes_of (hidden e) = 1 + nodes_of e
nodes_of (least e) = 1 + nodes_of e
nodes_of (greatest e) = 1 + nodes_of e
nodes_of (first i) = 1
nodes_of (last i) = 1
nodes_of (size i) = 1
nodes_of (negation e) = 1 + nodes_of e
nodes_of (infix_of op a b) = 1 + nodes_of a + nodes_of b
nodes_of (choice test a b) = 1 + nodes_of test + nodes_of a + nodes_of b

-- How many of them are looked at for the value of the expression: of a choice, those of its test
-- and of the part that the test leads to.
abbrev pub looked_at : State → List ℕ → Expr → ℕ
looked_at s values e = length (counted s values e)

-- the `let`s: for each the nodes of its expression, and its value
abbrev pub lets_price : List Expr → ℕ
lets_price [] = 0
lets_price (e ∷ lets) = 1 + nodes_of e + lets_price lets

-- what has a name in a method is put at hand: each constant, register and argument, and the `let`s
abbrev pub hand_price : Written → Method → State → List ℕ → ℕ
hand_price w m s args =
    length w.constants + length s.registers + length args + lets_price m.lets

-- the nodes of the expressions of a line
abbrev pub line_nodes : Change → ℕ
line_nodes (of_shown key new) = nodes_of key + nodes_of new
line_nodes (of_hidden key new) = nodes_of key + nodes_of new
line_nodes (of_register i new) = nodes_of new
line_nodes (append i new) = nodes_of new
line_nodes (prepend i new) = nodes_of new
line_nodes (drop_first i) = 0
line_nodes (drop_last i) = 0
line_nodes (clear i) = 0
line_nodes clear_shown = 0

-- the lines of a case, each with the nodes of its expressions
abbrev pub lines_price : List Change → ℕ
lines_price [] = 0
lines_price (line ∷ lines) = 1 + line_nodes line + lines_price lines

-- Cases, one after the other: each with the nodes of its condition, and then either its lines, if
-- it allows the reply, or the cases after it.
abbrev pub cases_price : List Case → ℕ
cases_price [] = 0
cases_price (case ∷ cases) =
    1 + nodes_of case.allow + max (lines_price case.changes) (cases_price cases)

-- to find out what a call with its reply does: what is at hand, the reply, and the cases
abbrev pub effects_price : Written → Method → State → List ℕ → ℕ
effects_price w m s args = hand_price w m s args + 1 + cases_price m.cases

-- To set so many amounts, all of them or none: each is gone through twice, and each time all of
-- them are, for the last that is set for its key. Besides, its key is looked up, set twice and
-- taken out again, at most.
abbrev pub sets_price : ℕ → ℕ
sets_price n = n * (2 * n + 6)

-- To do so many effects, all of them or none: each is gone through four times, for the amounts, for
-- room in the lists, for the registers and for the lists. Each may set an amount.
abbrev pub put_price : ℕ → ℕ
put_price n = 4 * n + sets_price n

-- how many lines a case has at most
abbrev pub longest_case : List Case → ℕ
longest_case [] = 0
longest_case (case ∷ cases) = max (length case.changes) (longest_case cases)

-- a step: what the call does is found out, and done
abbrev pub step_price : Written → Method → State → List ℕ → ℕ
step_price w m s args = effects_price w m s args + put_price (longest_case m.cases)

-- an answer: what is at hand, and its nodes; where a method has none, there is nothing to do
abbrev pub answer_price : Written → Method → State → List ℕ → ℕ
answer_price w m s args = option_map_or (λ e. hand_price w m s args + nodes_of e) m.answer 0
