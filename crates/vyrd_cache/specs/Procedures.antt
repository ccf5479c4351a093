-- The procedures of the cache, from after the mark of the call to the mark of the return.
use Rattle.std.specs.Prelude.{ℕ, ◌+◌, ◌*◌, ◌%◌, ◌^◌, ◌==◌, List, [], ◌∷◌, if◌then◌else◌}
use Rattle.vyrd_base.specs.declared.header.Header.{Header}
use Rattle.vyrd_base.specs.declared.log.Kind.TheVariants.{Return, Commit, BlockOpen, BlockClose}
use Rattle.vyrd_base.specs.declared.log.Kind.TheVariants.{BlockCommit}
use Rattle.vyrd_base.specs.declared.subject.Method.{Method}
use Rattle.vyrd_base.specs.declared.subject.Method.TheVariants.{Cache as OfCache}
use Rattle.vyrd_base.specs.declared.cache.CacheMethod.TheVariants.{Write, Flush, Evict, Read}
use Rattle.vyrd_base.specs.declared.subject.Args.{Args}
use Rattle.vyrd_memory.specs.declared.act.Act.{Act}
use Rattle.vyrd_memory.specs.declared.act.Act.TheVariants.{Load, Store, Give, Mark}
use Rattle.vyrd_memory.specs.declared.op.Op.{Op}
use Rattle.vyrd_memory.specs.declared.op.Variant.{Variant}
use Rattle.vyrd_memory.specs.declared.op.Variant.TheVariants.{Correct, Broken}
use Rattle.vyrd_memory.specs.Scripts.{Script, stop, step}
use Rattle.vyrd_cache.specs.Cells.{state_cell, cached_low, cached_high, stored_low, stored_high}
use Rattle.vyrd_cache.specs.Cells.{lock_of, lock}

-- the number that two halves make, each cut to 32 bits
abbrev pub joined : ℕ → ℕ → ℕ
joined low high = high % 2 ^ 32 * 2 ^ 32 + low % 2 ^ 32

-- these acts, whose answers tell nothing, and no more
abbrev pub in_order : List Act → Script
in_order [] = stop
in_order (act ∷ acts) = step act (λ answer. in_order acts)

-- puts the pair into the cache and makes the chunk dirty, with the lock held
abbrev pub put_cached : Header → ℕ → ℕ → ℕ → Script
put_cached h chunk low high = in_order
    (Mark BlockOpen
    ∷ Store (cached_low chunk) low
    ∷ Store (cached_high chunk) high
    ∷ Store (state_cell chunk) 2
    ∷ Mark BlockCommit
    ∷ Give (lock_of h chunk)
    ∷ Mark (Return 1) ∷ [])

-- the mistake: puts the pair into the cache after the lock is given back, and in no block
abbrev pub put_cached_bare : Header → ℕ → ℕ → ℕ → Script
put_cached_bare h chunk low high = in_order
    (Give (lock_of h chunk)
    ∷ Store (cached_low chunk) low
    ∷ Store (cached_high chunk) high
    ∷ Mark Commit
    ∷ Mark (Return 1) ∷ [])

-- a write: the broken one goes wrong if the chunk is dirty already
abbrev pub write : Header → Variant → ℕ → ℕ → ℕ → Script
write h Correct chunk low high = lock h chunk (put_cached h chunk low high)
write h Broken chunk low high = lock h chunk (step (Load (state_cell chunk)) (λ state.
    if state == 2 then put_cached_bare h chunk low high else put_cached h chunk low high))

-- puts the pair in the cache into the store and gives the chunk this state, with the lock held
abbrev pub put_stored : Header → ℕ → ℕ → Script
put_stored h chunk state = step (Load (cached_low chunk)) (λ low.
    step (Load (cached_high chunk)) (λ high. in_order (Mark BlockOpen ∷ Store (stored_low chunk) low
    ∷ Store (stored_high chunk) high ∷ Store (state_cell chunk) state ∷ Mark BlockCommit
    ∷ Give (lock_of h chunk) ∷ Mark (Return 1) ∷ [])))

-- gives the chunk the state 0, with the lock held
abbrev pub forget : Header → ℕ → Script
forget h chunk = in_order
    (Mark BlockOpen
    ∷ Store (state_cell chunk) 0
    ∷ Mark BlockCommit
    ∷ Give (lock_of h chunk)
    ∷ Mark (Return 1) ∷ [])

-- changes nothing, with the lock held
abbrev pub only_commit : Header → ℕ → Script
only_commit h chunk = in_order
    (Mark Commit
    ∷ Give (lock_of h chunk)
    ∷ Mark (Return 1) ∷ [])

-- a flush: a dirty chunk is clean after it
abbrev pub flush : Header → ℕ → Script
flush h chunk = lock h chunk (step (Load (state_cell chunk)) (λ state.
    if state == 2 then put_stored h chunk 1 else only_commit h chunk))

-- an evict: the chunk is absent after it
abbrev pub evict : Header → ℕ → Script
evict h chunk = lock h chunk (step (Load (state_cell chunk)) (λ state. if state == 2
    then put_stored h chunk 0
    else (if state == 0 then only_commit h chunk else forget h chunk)))

-- fetches the pair in the store into the cache and answers it, with the lock held
abbrev pub fetch : Header → ℕ → Script
fetch h chunk = step (Load (stored_low chunk)) (λ low.
    step (Load (stored_high chunk)) (λ high. in_order (Mark BlockOpen ∷ Store (cached_low chunk) low
    ∷ Store (cached_high chunk) high ∷ Store (state_cell chunk) 1 ∷ Mark BlockClose
    ∷ Give (lock_of h chunk) ∷ Mark (Return (joined low high)) ∷ [])))

-- answers the pair in the cache, with the lock held
abbrev pub answer_cached : Header → ℕ → Script
answer_cached h chunk = step (Load (cached_low chunk)) (λ low. step (Load (cached_high chunk))
    (λ high. in_order (Give (lock_of h chunk) ∷ Mark (Return (joined low high)) ∷ [])))

-- a read: an absent chunk is fetched first
abbrev pub read : Header → ℕ → Script
read h chunk = lock h chunk (step (Load (state_cell chunk)) (λ state.
    if state == 0 then fetch h chunk else answer_cached h chunk))

-- the procedure of a method's call with these arguments; that of another subject's method is empty
abbrev pub procedure_of : Header → Variant → Method → Args → Script
procedure_of h variant (OfCache Write) args = write h variant args.a args.b args.c
procedure_of h variant (OfCache Flush) args = flush h args.a
procedure_of h variant (OfCache Evict) args = evict h args.a
procedure_of h variant (OfCache Read) args = read h args.a
procedure_of h variant _ args = stop

-- the procedure of an operation
abbrev pub cache_procedure : Header → Variant → Op → Script
cache_procedure h variant op = procedure_of h variant op.method op.args
