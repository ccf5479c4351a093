-- Rules that no built-in subject has: a queue whose replies alone are judged. An insert puts a
-- value at the end, and a delete takes the value at the front and replies with it plus 1. A lookup
-- answers how many there are. Its state is one list, and shows nothing. The words show nothing
-- either.
use Rattle.std.specs.Prelude.{ℕ, ◌+◌, ◌==◌, List, [], ◌∷◌, ◌++◌, length, slice_index_or}
use Rattle.std.specs.Prelude.{Option, Some, None}
use Rattle.std.specs.Bool.{then_some}
use Rattle.vyrd_base.specs.declared.subject.Method.{Method}
use Rattle.vyrd_base.specs.declared.subject.Method.TheVariants.{Multiset as OfMultiset}
use Rattle.vyrd_base.specs.declared.multiset.MultisetMethod.TheVariants.{Insert, Delete}
use Rattle.vyrd_base.specs.declared.subject.Args.{Args}
use Rattle.vyrd_base.specs.declared.log.Entry.{Entry}
use Rattle.vyrd_base.specs.States.{State}
use Rattle.vyrd_base.specs.Rules.{Rules}
use Rattle.vyrd_base.specs.Samples.{two, insert, delete, lookup, commit, return}

-- the state in which these values wait, the first to go in front
abbrev pub queued : List ℕ → State
queued values = record { shown = []; hidden = []; registers = []; lists = values ∷ [] }

-- the values that wait
abbrev pub waiting : State → List ℕ
waiting s = slice_index_or s.lists 0 []

-- the state after a delete with this reply
abbrev pub with_first_gone : ℕ → List ℕ → Option State
with_first_gone reply [] = None
with_first_gone reply (value ∷ values) = then_some (reply == value + 1) (queued values)

abbrev pub queue_next : Method → Args → ℕ → State → Option State
queue_next (OfMultiset Insert) args reply s =
    then_some (reply == 1) (queued (waiting s ++ args.a ∷ []))
queue_next (OfMultiset Delete) args reply s = with_first_gone reply (waiting s)
queue_next _ args reply s = None

abbrev pub queue_rules : Rules
queue_rules = record {
  header = two;
  next = queue_next;
  answer = λ s method args. length (waiting s);
  shown = λ s. [];
  view = λ words. [];
  start = λ words. Some (queued []);
}

-- 5 and 6 come, and then one of them goes
abbrev pub first_out : ℕ → List Entry
first_out reply = insert 0 5 ∷ commit 0 ∷ return 0 1 ∷ insert 0 6 ∷ commit 0 ∷ return 0 1
    ∷ delete 1 0 ∷ commit 1 ∷ return 1 reply ∷ []

-- 5 comes while somebody counts
abbrev pub counted : ℕ → List Entry
counted reply =
    lookup 1 0 ∷ insert 0 5 ∷ commit 0 ∷ return 0 1 ∷ return 1 reply ∷ []
