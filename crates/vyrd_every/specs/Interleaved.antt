-- Schedules in which two callers meet inside their operations, one for each structure: the run by
-- turns of a small workload, event by event.
use Rattle.std.specs.Prelude.{ℕ, Bool, true, false, ◌==◌, ◌&&◌, List, [], ◌∷◌, Option, Some, None}
use Rattle.std.specs.Prelude.{unwrap_or, is_none, refl, if◌then◌else◌}
use Rattle.std.specs.List.{list_any}
use Rattle.vyrd_base.specs.declared.header.Header.{Header}
use Rattle.vyrd_base.specs.declared.subject.Subject.TheVariants.{Multiset, Cache, Tree, Buffers}
use Rattle.vyrd_base.specs.declared.subject.Method.{Method}
use Rattle.vyrd_base.specs.declared.subject.Method.TheVariants.{Multiset as OfMultiset}
use Rattle.vyrd_base.specs.declared.subject.Method.TheVariants.{Cache as OfCache, Tree as OfTree}
use Rattle.vyrd_base.specs.declared.subject.Method.TheVariants.{Buffers as OfBuffers}
use Rattle.vyrd_base.specs.declared.multiset.MultisetMethod.TheVariants.{Insert}
use Rattle.vyrd_base.specs.declared.cache.CacheMethod.TheVariants.{Write}
use Rattle.vyrd_base.specs.declared.tree.TreeMethod.TheVariants.{Insert as TrInsert}
use Rattle.vyrd_base.specs.declared.tree.TreeMethod.TheVariants.{Lookup as TrLookup}
use Rattle.vyrd_base.specs.declared.buffers.BuffersMethod.TheVariants.{Append, AppendFrom}
use Rattle.vyrd_base.specs.declared.subject.Args.{Args}
use Rattle.vyrd_base.specs.declared.log.Kind.TheVariants.{Call, Return, BlockOpen, BlockCommit}
use Rattle.vyrd_base.specs.declared.history.Did.{Did}
use Rattle.vyrd_base.specs.declared.history.Did.TheVariants.{Read, Wrote, Took, Gave, Marked}
use Rattle.vyrd_base.specs.declared.history.Stamped.{Stamped}
use Rattle.vyrd_base.specs.Places.{Place, places, first_answer}
use Rattle.vyrd_base.specs.Samples.{args}
use Rattle.vyrd_base.specs.SampleWords.{event}
use Rattle.vyrd_memory.specs.declared.op.Variant.TheVariants.{Correct}
use Rattle.vyrd_work.specs.declared.work.WorkOp.{WorkOp}
use Rattle.vyrd_work.specs.Workloads.{Workload}

-- whether an operation of the caller is open after its event, if the event says that
abbrev pub opens : Did → Option Bool
opens (Marked (Call method arguments)) = Some true
opens (Marked (Return reply)) = Some false
opens _ = None

-- whether an operation of the caller is open after these events, the newest first
abbrev pub is_open : ℕ → List Stamped → Bool
is_open c earlier =
    unwrap_or (first_answer (λ e. if e.caller == c then opens e.did else None) earlier) false

-- whether a caller does something inside an operation, while one of another caller is open
abbrev pub acts_inside : ℕ → ℕ → Place Stamped → Bool
acts_inside c d place = place.here.caller == c && is_none (opens place.here.did)
    && is_open c place.earlier && is_open d place.earlier

-- whether each of the two callers 0 and 1 does so while an operation of the other is open
abbrev pub is_interleaved : List Stamped → Bool
is_interleaved history = list_any (acts_inside 0 1) (places history)
    && list_any (acts_inside 1 0) (places history)

-- a workload without turns, of the correct variant: its callers take turns in rounds
abbrev work : Header → List WorkOp → Workload
work h ops = record { header = h; variant = Correct; ops = ops; turns = [] }

-- an operation of a caller
abbrev op : ℕ → Method → Args → WorkOp
op c method arguments = record { caller = c; op = record { method = method; args = arguments } }

-- what an event does, beside its number and its caller
abbrev calls : ℕ → ℕ → Method → Args → Stamped
calls n c method arguments = event n c (Marked (Call method arguments))

abbrev returns : ℕ → ℕ → ℕ → Stamped
returns n c reply = event n c (Marked (Return reply))

abbrev reads : ℕ → ℕ → ℕ → ℕ → Stamped
reads n c cell value = event n c (Read cell value)

abbrev writes_to : ℕ → ℕ → ℕ → ℕ → Stamped
writes_to n c cell value = event n c (Wrote cell value)

abbrev takes : ℕ → ℕ → ℕ → Stamped
takes n c lock = event n c (Took lock)

abbrev gives : ℕ → ℕ → ℕ → Stamped
gives n c lock = event n c (Gave lock)

abbrev opens_block : ℕ → ℕ → Stamped
opens_block n c = event n c (Marked BlockOpen)

abbrev commits_block : ℕ → ℕ → Stamped
commits_block n c = event n c (Marked BlockCommit)

-- two inserts of one value: the second looks for a slot while the first, which has one, waits for
-- the
-- lock to make it valid
abbrev pub inserts : Workload
inserts = work (record { version = 1; subject = Multiset; size = 1; callers = 2; within = refl })
    (op 0 (OfMultiset Insert) (args 5 0 0) ∷ op 1 (OfMultiset Insert) (args 5 0 0) ∷ [])

abbrev pub inserts_history : List Stamped
inserts_history = calls 0 0 (OfMultiset Insert) (args 5 0 0)
    ∷ calls 1 1 (OfMultiset Insert) (args 5 0 0) ∷ takes 2 0 8 ∷ reads 3 0 0 0
    ∷ writes_to 4 0 1 5 ∷ writes_to 5 0 0 1 ∷ gives 6 0 8 ∷ takes 7 1 8 ∷ reads 8 1 0 1
    ∷ reads 9 1 2 0 ∷ writes_to 10 1 3 5 ∷ writes_to 11 1 2 1 ∷ gives 12 1 8 ∷ takes 13 0 8
    ∷ opens_block 14 0 ∷ writes_to 15 0 0 2 ∷ commits_block 16 0 ∷ gives 17 0 8 ∷ takes 18 1 8
    ∷ returns 19 0 1 ∷ opens_block 20 1 ∷ writes_to 21 1 2 2 ∷ commits_block 22 1 ∷ gives 23 1 8
    ∷ returns 24 1 1 ∷ []

-- two writes, whose blocks are open at the same time
abbrev pub writes : Workload
writes = work (record { version = 1; subject = Cache; size = 2; callers = 2; within = refl })
    (op 0 (OfCache Write) (args 0 1 2) ∷ op 1 (OfCache Write) (args 1 3 4) ∷ [])

abbrev pub writes_history : List Stamped
writes_history = calls 0 0 (OfCache Write) (args 0 1 2)
    ∷ calls 1 1 (OfCache Write) (args 1 3 4) ∷ takes 2 0 10 ∷ takes 3 1 11 ∷ opens_block 4 0
    ∷ opens_block 5 1 ∷ writes_to 6 0 1 1 ∷ writes_to 7 1 6 3 ∷ writes_to 8 0 2 2
    ∷ writes_to 9 1 7 4 ∷ writes_to 10 0 0 2 ∷ writes_to 11 1 5 2 ∷ commits_block 12 0
    ∷ commits_block 13 1 ∷ gives 14 0 10 ∷ gives 15 1 11 ∷ returns 16 0 1 ∷ returns 17 1 1 ∷ []

-- an insert, and a lookup that begins its walk while the insert does
abbrev pub descents : Workload
descents = work (record { version = 1; subject = Tree; size = 1; callers = 2; within = refl })
    (op 0 (OfTree TrInsert) (args 5 7 0) ∷ op 1 (OfTree TrLookup) (args 5 0 0) ∷ [])

abbrev pub descents_history : List Stamped
descents_history = calls 0 0 (OfTree TrInsert) (args 5 7 0)
    ∷ calls 1 1 (OfTree TrLookup) (args 5 0 0) ∷ reads 2 0 12 0 ∷ reads 3 1 12 0 ∷ takes 4 0 14
    ∷ reads 5 0 0 0 ∷ reads 6 0 1 0 ∷ reads 7 0 2 0 ∷ reads 8 0 3 0 ∷ opens_block 9 0
    ∷ writes_to 10 0 4 5 ∷ writes_to 11 0 8 7 ∷ writes_to 12 0 1 1 ∷ commits_block 13 0
    ∷ gives 14 0 14 ∷ takes 15 1 14 ∷ returns 16 0 1 ∷ reads 17 1 0 0 ∷ reads 18 1 1 1
    ∷ reads 19 1 2 0 ∷ reads 20 1 3 0 ∷ reads 21 1 4 5 ∷ reads 22 1 8 7 ∷ gives 23 1 14
    ∷ returns 24 1 8 ∷ []

-- an append to a buffer while its text is to be appended to another
abbrev pub appends : Workload
appends = work (record { version = 1; subject = Buffers; size = 2; callers = 2; within = refl })
    (op 0 (OfBuffers AppendFrom) (args 0 1 0) ∷ op 1 (OfBuffers Append) (args 1 7 0) ∷ [])

abbrev pub appends_history : List Stamped
appends_history = calls 0 0 (OfBuffers AppendFrom) (args 0 1 0)
    ∷ calls 1 1 (OfBuffers Append) (args 1 7 0) ∷ takes 2 0 16 ∷ takes 3 1 17 ∷ reads 4 1 8 0
    ∷ opens_block 5 1 ∷ writes_to 6 1 9 7 ∷ writes_to 7 1 8 1 ∷ commits_block 8 1 ∷ gives 9 1 17
    ∷ takes 10 0 17 ∷ returns 11 1 1 ∷ reads 12 0 0 0 ∷ reads 13 0 8 1 ∷ reads 14 0 9 7
    ∷ opens_block 15 0 ∷ writes_to 16 0 1 7 ∷ writes_to 17 0 0 1 ∷ commits_block 18 0
    ∷ gives 19 0 17 ∷ gives 20 0 16 ∷ returns 21 0 1 ∷ []
