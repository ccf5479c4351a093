-- A small script, which the machines of the tests play: a call that takes both locks of a multiset
-- of two buckets, loads word 1 and stores a number there. One of the two callers may take the locks
-- in the other order.
use Rattle.std.specs.Prelude.{ℕ, zero, suc, ◌-◌, Bool, true, false, List, [], ◌∷◌, refl}
use Rattle.vyrd_base.specs.declared.header.Header.{Header}
use Rattle.vyrd_base.specs.declared.subject.Subject.TheVariants.{Multiset}
use Rattle.vyrd_base.specs.declared.subject.Method.TheVariants.{Multiset as OfMultiset}
use Rattle.vyrd_base.specs.declared.multiset.MultisetMethod.TheVariants.{Insert}
use Rattle.vyrd_base.specs.declared.log.Kind.TheVariants.{Call, Return, Commit}
use Rattle.vyrd_memory.specs.declared.act.Act.{Act}
use Rattle.vyrd_memory.specs.declared.act.Act.TheVariants.{Load, Store, Take, Give, Mark}
use Rattle.vyrd_memory.specs.Scripts.{Script, stop, perform}

-- the header of all visits
abbrev pub visited : Header
visited = record { version = 1; subject = Multiset; size = 2; callers = 2; within = refl }

-- these acts, whose answers tell nothing, and no more
abbrev pub listed : List Act → Script
listed [] = stop
listed (act ∷ acts) = perform act (listed acts)

-- what a visit does after its call
abbrev pub visit_on : ℕ → ℕ → ℕ → List Act
visit_on first second value =
    Take first ∷ Take second ∷ Load 1 ∷ Store 1 value ∷ Mark Commit ∷ Give second ∷ Give first
    ∷ Mark (Return 1) ∷ []

-- the same, by whether the visit takes the locks crosswise
abbrev pub rest_of_visit : Bool → List Act
rest_of_visit false = visit_on 16 17 5
rest_of_visit true = visit_on 17 16 6

-- a visit
abbrev pub visit : Bool → List Act
visit crosses = Mark (Call (OfMultiset Insert) (record { a = 5; b = 0; c = 0 }))
    ∷ rest_of_visit crosses

-- how many events there are to come at most, after this many
abbrev pub ahead_after : ℕ → ℕ
ahead_after zero = 32
ahead_after (suc n) = 8 - n
