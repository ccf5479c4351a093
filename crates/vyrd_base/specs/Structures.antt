-- A structure that is built in, as one value: its name and its methods, which calls of them are
-- well
-- formed and which executions commit, the specification, and what its words show. Each has a file
-- of
-- its own, in which its tables are written out, method by method.
use Rattle.std.specs.Prelude.{ℕ, zero, suc, Bool, List, Option, None}
use Rattle.vyrd_base.specs.declared.subject.Args.{Args}
use Rattle.vyrd_base.specs.declared.subject.Commits.{Commits}
use Rattle.vyrd_base.specs.Amounts.{Amounts}

-- A structure whose methods are these. Its size is how many buckets, chunks, nodes or buffers there
-- are.
pub record Structure (Method : Type 0) : Type 0 where
  -- the name that the first line of a log has
  pub name : List ℕ
  -- whether a header of its logs may have this version, this size and this number of callers
  pub limits : ℕ → ℕ → ℕ → Bool
  -- its methods, and the name of each in the line of a call
  pub methods : List Method
  pub called : Method → List ℕ
  -- how many arguments a method has, from 1 to 3
  pub arity : Method → ℕ
  -- whether the arguments are in their ranges, for this size
  pub takes : ℕ → Method → Args → Bool
  -- how often an execution of the method commits
  pub commits : Method → Commits
  -- the state after a call with this reply, or none if the reply is refused
  pub next : Method → Args → ℕ → Amounts → Option Amounts
  -- what an execution that commits nothing answers in a state
  pub answer : Amounts → Method → Args → ℕ
  -- how many plain words and how many locks there are for a size
  pub plain_words : ℕ → ℕ
  pub locks : ℕ → ℕ
  -- what each part of the plain words gives: amounts to keys
  pub parts : ℕ → List ℕ → List (ℕ × ℕ)
  -- whether the plain words stand for a state
  pub is_sound : ℕ → List ℕ → Bool

-- what the replies 0, 1 and 2 lead to; every other reply is refused
abbrev pub by_reply : ℕ → Option Amounts → Option Amounts → Option Amounts → Option Amounts
by_reply zero at_0 at_1 at_2 = at_0
by_reply (suc zero) at_0 at_1 at_2 = at_1
by_reply (suc (suc zero)) at_0 at_1 at_2 = at_2
by_reply _ at_0 at_1 at_2 = None
