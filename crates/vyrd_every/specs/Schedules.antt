-- A schedule of a workload, and the workloads whose every schedule is accepted.
use Rattle.std.specs.Prelude.{◌≡◌, ℕ, Bool, true, false, List, [], None}
use Rattle.std.specs.List.{AllByRecursion}
use Rattle.vyrd_base.specs.declared.subject.Subject.{Subject}
use Rattle.vyrd_base.specs.declared.subject.Subject.TheVariants.{Multiset, Cache, Tree, Buffers}
use Rattle.vyrd_base.specs.declared.subject.Subject.TheVariants.{Own}
use Rattle.vyrd_base.specs.declared.history.Stamped.{Stamped}
use Rattle.vyrd_base.specs.declared.header.Header.{Header}
use Rattle.vyrd_base.specs.declared.log.Kind.{Kind}
use Rattle.vyrd_base.specs.declared.log.Entry.{Entry}
use Rattle.vyrd_base.specs.Places.{places}
use Rattle.vyrd_base.specs.Histories.{cells_of, is_legal}
use Rattle.vyrd_base.specs.Faults.{fault_at}
use Rattle.vyrd_base.specs.Verdicts.{states_along}
use Rattle.vyrd_memory.specs.declared.op.Variant.TheVariants.{Correct}
use Rattle.vyrd_memory.specs.Runs.{PlayToTheEnd}
use Rattle.vyrd_work.specs.Workloads.{Workload}
use Rattle.vyrd_work.specs.WorkScripts.{work_scripts}
use Rattle.vyrd_base.specs.Rules.{rules_of}

-- A legal history in which each caller's part plays the caller's script to its end. The callers'
-- events come in any order.
pub record IsSchedule (w : Workload) (history : List Stamped) : Type 0 where
  pub legal : is_legal (cells_of w.header) history ≡ true
  pub parts : PlayToTheEnd (work_scripts w) history

-- the structure is in its correct variant, whichever it is
abbrev pub IsCorrect : Workload → Type 0
IsCorrect w = w.variant ≡ Correct

-- Whether an operation of the subject has few events, however large the structure is. A tree's walk
-- is longer if the tree is larger, and nothing is said of the user's own structure.
abbrev pub has_few_events : Subject → Bool
has_few_events Multiset = true
has_few_events Cache = true
has_few_events Tree = false
has_few_events Buffers = true
has_few_events Own = false

-- The most events of a caller of such a structure: 200,000 operations with 32 events each, which
-- are those of a multiset or of string buffers. An operation of a cache has half as many.
abbrev pub most_few_events : ℕ
most_few_events = 6400000

abbrev pub most_cache_events : ℕ
most_cache_events = 3200000

-- the structure is one of those, in its correct variant
pub record IsCorrectWithFewEvents (w : Workload) : Type 0 where
  pub variant : w.variant ≡ Correct
  pub few : has_few_events w.header.subject ≡ true

-- no place of a log whose entry is of this kind is a fault
abbrev pub HasNoFault : (Kind → Bool) → Header → List Entry → Type 0
HasNoFault is_kind h entries = AllByRecursion
    (λ place. is_kind place.here.kind ≡ true
    → fault_at (rules_of h) [] (states_along (rules_of h) [] entries) place ≡ None) (places entries)
