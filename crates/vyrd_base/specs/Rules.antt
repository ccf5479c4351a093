-- What a log is judged by: its header, and a specification. All that is said of faults and of the
-- verdict is said relative to such rules, whatever they are. The subjects that are built in are
-- values of them, by `rules_of`.
--
-- What a state shows is up to the rules: its shown amounts, or less of them, or nothing, where no
-- views are to be compared.
use Rattle.std.specs.Prelude.{ℕ, ◌==◌, List, [], ◌∷◌, ◌++◌, replicate, take, Option, Some, None}
use Rattle.std.specs.Prelude.{option_map, option_and_then, if◌then◌else◌}
use Rattle.std.specs.Option.{option_map_or}
use Rattle.vyrd_base.specs.declared.header.Header.{Header}
use Rattle.vyrd_base.specs.declared.subject.Method.{Method}
use Rattle.vyrd_base.specs.declared.subject.Args.{Args}
use Rattle.vyrd_base.specs.Amounts.{Amounts}
use Rattle.vyrd_base.specs.States.{State, showing}
use Rattle.vyrd_base.specs.Subjects.{own_number}
use Rattle.vyrd_base.specs.Layout.{lock_words}
use Rattle.vyrd_base.specs.Specification.{next_state, answer_in}
use Rattle.vyrd_base.specs.Views.{view_of_words}
use Rattle.vyrd_base.specs.Represented.{state_of_words}
use Rattle.vyrd_base.specs.Own.Expressions.{most}
use Rattle.vyrd_base.specs.Own.Programs.{Written}
use Rattle.vyrd_base.specs.Own.OwnRules.{own_arity, own_next, own_answer, own_shown, own_view}
use Rattle.vyrd_base.specs.Own.OwnRules.{own_start, may_stand}
use Rattle.vyrd_base.specs.Own.Reader.{written_in}

pub record Rules : Type 0 where
  -- how many words and callers there are, and which methods may be called, and how
  pub header : Header
  -- the state after a call of the method with this reply, or none if the reply is refused
  pub next : Method → Args → ℕ → State → Option State
  -- what an execution that commits nothing answers in a state
  pub answer : State → Method → Args → ℕ
  -- what a state shows
  pub shown : State → Amounts
  -- what the plain words show
  pub view : List ℕ → Amounts
  -- the state for which the plain words stand at the start, with all locks free
  pub start : List ℕ → Option State

-- The rules of the subject that the header names. Its states show all that they are.
abbrev pub rules_of : Header → Rules
rules_of h = record {
  header = h;
  next = λ method args reply state.
      option_map showing (next_state method args reply state.shown);
  answer = λ state. answer_in state.shown;
  shown = λ state. state.shown;
  view = view_of_words h;
  start = λ words.
      option_map showing (state_of_words h (words ++ replicate (lock_words h) 0));
}

-- the arguments that a call of the method of that number has
abbrev pub given : Written → ℕ → Args → List ℕ
given w i args = take (own_arity w i) (args.a ∷ args.b ∷ args.c ∷ [])

-- The rules of a log of version 3: those that its specification gives. Without words no views are
-- compared. Words that aren't a whole number of parts, or show 2^64 or more of a key, stand for no
-- state.
abbrev pub own_rules : Header → Written → Rules
own_rules h w = record {
  header = h;
  next = λ method args reply state.
      option_and_then (λ i. own_next w i (given w i args) reply state) (own_number method);
  answer = λ state method args.
      option_map_or (λ i. own_answer w state i (given w i args)) (own_number method) most;
  shown = λ state. if h.size == 0 then [] else own_shown w state;
  view = own_view w;
  start = λ words. if may_stand w words then Some (own_start w words) else None;
}

-- A charter names rules, as data: that of a built-in subject is the header of a log, and that of a
-- log of version 3 is its header and the lines of its specification. A judge is seen with its
-- charter, since functions can't be told apart.
pub data Charter : Type 0 where
  built_in : Header → Charter
  own : Header → List (List ℕ) → Charter

-- the rules that a charter names
abbrev pub rules_by : Charter → Rules
rules_by (built_in h) = rules_of h
rules_by (own h lines) = own_rules h (written_in lines)
