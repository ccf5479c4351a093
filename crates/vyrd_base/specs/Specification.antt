-- The specification of the built-in structures: which replies a mutator may give in a state and
-- which
-- state comes next, and what an observer answers. A state is told by the amounts that it shows.
use Rattle.std.specs.Prelude.{ℕ, [], Option}
use Rattle.vyrd_base.specs.declared.subject.Method.{Method}
use Rattle.vyrd_base.specs.declared.subject.Args.{Args}
use Rattle.vyrd_base.specs.Amounts.{Amounts}
use Rattle.vyrd_base.specs.States.{State, showing}
use Rattle.vyrd_base.specs.Subjects.{by_method}

-- nothing is there
abbrev pub start : State
start = showing []

-- What the state shows after a call of the method with this reply, or none if the reply is refused.
-- An observer has no next state: it never commits.
abbrev pub next_state : Method → Args → ℕ → Amounts → Option Amounts
next_state = by_method (λ M s. s.next)

-- what an execution that commits nothing answers in a state
abbrev pub answer_in : Amounts → Method → Args → ℕ
answer_in state = by_method (λ M s. s.answer state)
