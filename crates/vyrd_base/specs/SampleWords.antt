-- Small memories and histories that are worked out.
use Rattle.std.specs.Prelude.{ℕ, List, [], ◌∷◌, ◌++◌, replicate, refl}
use Rattle.vyrd_base.specs.declared.header.Header.{Header}
use Rattle.vyrd_base.specs.declared.subject.Subject.TheVariants.{Multiset, Cache, Tree, Buffers}
use Rattle.vyrd_base.specs.declared.subject.Method.TheVariants.{Multiset as OfMultiset}
use Rattle.vyrd_base.specs.declared.multiset.MultisetMethod.TheVariants.{Lookup}
use Rattle.vyrd_base.specs.declared.log.Kind.TheVariants.{Call, Return}
use Rattle.vyrd_base.specs.declared.history.Did.{Did}
use Rattle.vyrd_base.specs.declared.history.Did.TheVariants.{Read, Took, Gave, Marked}
use Rattle.vyrd_base.specs.declared.history.Stamped.{Stamped}
use Rattle.vyrd_base.specs.Samples.{args}

-- the header of a subject of this size with one caller
abbrev pub multiset_of_2 : Header
multiset_of_2 = record { version = 1; subject = Multiset; size = 2; callers = 1; within = refl }

abbrev pub cache_of_1 : Header
cache_of_1 = record { version = 1; subject = Cache; size = 1; callers = 1; within = refl }

abbrev pub tree_of_4 : Header
tree_of_4 = record { version = 1; subject = Tree; size = 4; callers = 1; within = refl }

abbrev pub buffers_of_1 : Header
buffers_of_1 = record { version = 1; subject = Buffers; size = 1; callers = 1; within = refl }

-- a tree of two leaves with the keys 1 to 5, each with itself as its value, below a root
abbrev pub two_leaves : List ℕ
two_leaves =
    (0 ∷ 3 ∷ 4 ∷ 1 ∷ 1 ∷ 2 ∷ 3 ∷ 9 ∷ 1 ∷ 2 ∷ 3 ∷ 9 ∷ [])
    ++ (0 ∷ 2 ∷ 0 ∷ 0 ∷ 4 ∷ 5 ∷ 0 ∷ 0 ∷ 4 ∷ 5 ∷ 0 ∷ 0 ∷ [])
    ++ (1 ∷ 2 ∷ 0 ∷ 0 ∷ 0 ∷ 4 ∷ 0 ∷ 0 ∷ 0 ∷ 1 ∷ 0 ∷ 0 ∷ [])
    ++ replicate 12 0 ++ (2 ∷ 2 ∷ []) ++ replicate 6 0

-- an event of a history
abbrev pub event : ℕ → ℕ → Did → Stamped
event number caller did = record { number = number; caller = caller; did = did }

-- a lookup that finds nothing in a bucket of one, under its lock
abbrev pub lookup_events : List Stamped
lookup_events = event 0 0 (Marked (Call (OfMultiset Lookup) (args 5 0 0))) ∷ event 1 0 (Took 8)
    ∷ event 2 0 (Read 0 0) ∷ event 3 0 (Read 2 0)
    ∷ event 4 0 (Read 4 0) ∷ event 5 0 (Read 6 0) ∷ event 6 0 (Gave 8)
    ∷ event 7 0 (Marked (Return 0)) ∷ []
