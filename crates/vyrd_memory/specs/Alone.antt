-- An operation that is played alone, from words that represent a state, does what the specification
-- says.
use Rattle.std.specs.Prelude.{◌≡◌, ◌↔◌, ℕ, ◌+◌, ◌==◌, Bool, true, false, List, map, Option, Some}
use Rattle.std.specs.Prelude.{None, IsSome, IsSomeAnd, if◌then◌else◌}
use Rattle.vyrd_base.specs.declared.header.Header.{Header}
use Rattle.vyrd_base.specs.declared.log.Kind.{Kind}
use Rattle.vyrd_base.specs.declared.log.Kind.TheVariants.{Return}
use Rattle.vyrd_base.specs.Places.{numbers_below}
use Rattle.vyrd_base.specs.Layout.{plain_words, lock_words}
use Rattle.vyrd_base.specs.Subjects.{is_observer}
use Rattle.vyrd_base.specs.Amounts.{Amounts}
use Rattle.vyrd_base.specs.Specification.{next_state, answer_in}
use Rattle.vyrd_base.specs.Represented.{state_of_words}
use Rattle.vyrd_memory.specs.declared.act.Act.TheVariants.{Load, Store, Take, Give, Mark, Done}
use Rattle.vyrd_memory.specs.declared.op.Op.{Op}
use Rattle.vyrd_memory.specs.Scripts.{Script, stop, step}

-- what each cell holds
abbrev pub Memory : Type 0
Memory = ℕ → ℕ

-- the memory with this value in the cell
abbrev pub with_cell : Memory → ℕ → ℕ → Memory
with_cell memory cell value other = if other == cell then value else memory other

-- the plain words and then the locks
abbrev pub words_in : Header → Memory → List ℕ
words_in h memory = map memory (numbers_below (plain_words h + lock_words h))

-- the state that the memory represents, with all locks free
abbrev pub state_in : Header → Memory → Option Amounts
state_in h memory = state_of_words h (words_in h memory)

-- what an operation ends with: its reply and the memory
pub record Outcome : Type 0 where
  pub reply : ℕ
  pub memory : Memory

-- what follows a mark: a return ends the operation
abbrev pub after_kind : Kind → Memory → Option Outcome → Option Outcome
after_kind (Return reply) memory later = Some (record { reply = reply; memory = memory })
after_kind _ memory later = later

-- The outcome of the caller's operation when nobody else acts. There is none if it takes a lock
-- that is held, or ends without a return.
abbrev pub alone : ℕ → Script → Memory → Option Outcome
alone c stop memory = None
alone c (step (Load cell) rest) memory = alone c (rest (memory cell)) memory
alone c (step (Store cell value) rest) memory = alone c (rest 0) (with_cell memory cell value)
alone c (step (Take lock) rest) memory =
    if memory lock == 0 then alone c (rest 0) (with_cell memory lock (c + 1)) else None
alone c (step (Give lock) rest) memory = alone c (rest 0) (with_cell memory lock 0)
alone c (step (Mark kind) rest) memory = after_kind kind memory (alone c (rest 0) memory)
alone c (step Done rest) memory = None

-- there is an outcome, and its reply is 0 exactly when this is so
abbrev pub GivesUpWhere : Type 0 → Option Outcome → Type 0
GivesUpWhere P end = IsSomeAnd end (λ outcome. outcome.reply ≡ 0 ↔ P)

-- what the specification says of an operation: an observer answers in the state and changes
-- nothing, and a mutator leads on
abbrev pub state_after : Bool → Op → ℕ → Amounts → Option Amounts
state_after true op reply state =
    if reply == answer_in state op.method op.args then Some state else None
state_after false op reply state = next_state op.method op.args reply state

-- the operation with this script, played alone from a memory that represents a state, does what the
-- specification says
pub record MeetsSpecification (h : Header) (op : Op) (script : Script) (c : ℕ) (memory : Memory)
    (state : Amounts) : Type 0 where
  pub outcome : Outcome
  pub ends : alone c script memory ≡ Some outcome
  pub after : state_in h outcome.memory ≡ state_after (is_observer op.method) op outcome.reply state
  pub goes_on : IsSome (state_in h outcome.memory)

-- so it does whoever calls it, and from whatever state
abbrev pub IsRightAlone : Header → Op → Script → Type 0
IsRightAlone h op script =
    (c : ℕ) (memory : Memory) (state : Amounts) → state_in h memory ≡ Some state
    → MeetsSpecification h op script c memory state
