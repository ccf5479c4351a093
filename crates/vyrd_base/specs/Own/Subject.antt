-- The subject of the user's own, as far as it is known without its specification: how many words
-- there are, and of a method how often it commits. All else is said by
-- the specification in front of the log. Without it nothing is allowed, and nothing shows.
use Rattle.std.specs.Prelude.{ℕ, Bool, true, List, [], codes, Option, None}
use Rattle.vyrd_base.specs.declared.own.method.OwnMethod.{OwnMethod}
use Rattle.vyrd_base.specs.declared.subject.Args.{Args}
use Rattle.vyrd_base.specs.declared.subject.Commits.{Commits}
use Rattle.vyrd_base.specs.Limits.{is_own_within}
use Rattle.vyrd_base.specs.Amounts.{Amounts}
use Rattle.vyrd_base.specs.Structures.{Structure}

-- the names of its methods stand in the specification
abbrev pub called : OwnMethod → List ℕ
called method = codes "own"

abbrev pub arity : OwnMethod → ℕ
arity method = method.arity

-- any argument is in range
abbrev pub takes : ℕ → OwnMethod → Args → Bool
takes size method args = true

abbrev pub commits : OwnMethod → Commits
commits method = method.commits

abbrev pub next : OwnMethod → Args → ℕ → Amounts → Option Amounts
next method args reply state = None

abbrev pub answer : Amounts → OwnMethod → Args → ℕ
answer state method args = 0

-- Its size is how many words there are. There are no locks.
abbrev pub own : Structure OwnMethod
own = record {
  name = codes "own";
  limits = is_own_within;
  methods = [];
  called = called;
  arity = arity;
  takes = takes;
  commits = commits;
  next = next;
  answer = answer;
  plain_words = λ size. size;
  locks = λ size. 0;
  parts = λ size words. [];
  is_sound = λ size words. true;
}
