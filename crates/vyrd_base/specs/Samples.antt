-- Small logs whose verdicts are worked out.
use Rattle.std.specs.Prelude.{ℕ, List, [], ◌∷◌, refl}
use Rattle.vyrd_base.specs.declared.header.Header.{Header}
use Rattle.vyrd_base.specs.declared.subject.Subject.TheVariants.{Multiset, Cache}
use Rattle.vyrd_base.specs.declared.subject.Method.TheVariants.{Multiset as OfMultiset}
use Rattle.vyrd_base.specs.declared.subject.Method.TheVariants.{Cache as OfCache}
use Rattle.vyrd_base.specs.declared.multiset.MultisetMethod.TheVariants.{Insert, Delete, Lookup}
use Rattle.vyrd_base.specs.declared.cache.CacheMethod.TheVariants.{Write as CaWrite, Flush}
use Rattle.vyrd_base.specs.declared.subject.Args.{Args}
use Rattle.vyrd_base.specs.declared.log.Kind.{Kind}
use Rattle.vyrd_base.specs.declared.log.Kind.TheVariants.{Call, Return, Write, Commit, BlockOpen}
use Rattle.vyrd_base.specs.declared.log.Kind.TheVariants.{BlockCommit}
use Rattle.vyrd_base.specs.declared.log.Entry.{Entry}

-- a multiset of one bucket with one caller, and with two
abbrev pub alone : Header
alone = record { version = 1; subject = Multiset; size = 1; callers = 1; within = refl }

abbrev pub two : Header
two = record { version = 1; subject = Multiset; size = 1; callers = 2; within = refl }

-- a cache of one chunk with two callers
abbrev pub two_on_cache : Header
two_on_cache = record { version = 1; subject = Cache; size = 1; callers = 2; within = refl }

-- an entry of the caller, by its kind
abbrev pub by : ℕ → Kind → Entry
by c kind = record { caller = c; kind = kind }

-- three arguments
abbrev pub args : ℕ → ℕ → ℕ → Args
args a b c = record { a = a; b = b; c = c }

-- the entries of a multiset's caller, a line each
abbrev pub insert : ℕ → ℕ → Entry
insert c x = by c (Call (OfMultiset Insert) (args x 0 0))

abbrev pub delete : ℕ → ℕ → Entry
delete c x = by c (Call (OfMultiset Delete) (args x 0 0))

abbrev pub lookup : ℕ → ℕ → Entry
lookup c x = by c (Call (OfMultiset Lookup) (args x 0 0))

abbrev pub write : ℕ → ℕ → ℕ → Entry
write c word value = by c (Write word value)

abbrev pub return : ℕ → ℕ → Entry
return c reply = by c (Return reply)

abbrev pub commit : ℕ → Entry
commit c = by c Commit

abbrev pub begin : ℕ → Entry
begin c = by c BlockOpen

abbrev pub end_commit : ℕ → Entry
end_commit c = by c BlockCommit

-- an insert that fills a slot and commits as it makes the slot valid
abbrev pub inserted : List Entry
inserted =
    insert 0 5 ∷ write 0 1 5 ∷ write 0 0 1 ∷ begin 0 ∷ write 0 0 2 ∷ end_commit 0 ∷ return 0 1 ∷ []

-- an insert that claims what it didn't do
abbrev pub claimed : List Entry
claimed = insert 0 5 ∷ commit 0 ∷ return 0 1 ∷ []

-- a delete of what isn't there
abbrev pub deleted : ℕ → List Entry
deleted reply = delete 0 5 ∷ commit 0 ∷ return 0 reply ∷ []

-- a lookup beside an insert
abbrev pub looked_up : ℕ → List Entry
looked_up reply = insert 0 5 ∷ write 0 1 5 ∷ write 0 0 1 ∷ lookup 1 5 ∷ begin 0 ∷ write 0 0 2
    ∷ end_commit 0 ∷ return 0 1
    ∷ return 1 reply ∷ []

-- a lookup that finds the value before it is there
abbrev pub too_early : List Entry
too_early = insert 0 5 ∷ write 0 1 5 ∷ write 0 0 1 ∷ lookup 1 5 ∷ return 1 1 ∷ begin 0 ∷ write 0 0 2
    ∷ end_commit 0
    ∷ return 0 1 ∷ []

-- another caller commits while a block is open, whose writes don't count yet
abbrev pub beside_block : List Entry
beside_block = insert 0 5 ∷ write 0 1 5 ∷ write 0 0 1 ∷ begin 0 ∷ write 0 0 2 ∷ insert 1 6
    ∷ commit 1 ∷ return 1 0
    ∷ end_commit 0 ∷ return 0 1 ∷ []

-- the same with no block
abbrev pub no_block : List Entry
no_block = insert 0 5 ∷ write 0 1 5 ∷ write 0 0 1 ∷ write 0 0 2 ∷ insert 1 6 ∷ commit 1 ∷ return 1 0
    ∷ commit 0
    ∷ return 0 1 ∷ []

-- a write to a word that another caller's open block has written
abbrev pub raced : List Entry
raced = insert 0 5 ∷ begin 0 ∷ write 0 0 2 ∷ insert 1 6 ∷ write 1 0 1 ∷ []

-- an observer returns before the commit that stands before it can be judged
abbrev pub waits : ℕ → List Entry
waits reply = delete 0 5 ∷ commit 0 ∷ lookup 1 5 ∷ return 1 7 ∷ return 0 reply ∷ []

-- a write in a delete
abbrev pub stray : ℕ → ℕ → List Entry
stray word value = delete 0 5 ∷ write 0 word value ∷ commit 0 ∷ return 0 0 ∷ []

-- a write to the cache outside a block, with a flush in its middle
abbrev pub torn : List Entry
torn = by 0 (Call (OfCache CaWrite) (args 0 1 2)) ∷ begin 0 ∷ write 0 1 1 ∷ write 0 2 2
    ∷ write 0 0 2
    ∷ end_commit 0 ∷ return 0 1
    ∷ by 0 (Call (OfCache CaWrite) (args 0 3 4)) ∷ write 0 1 3
    ∷ by 1 (Call (OfCache Flush) (args 0 0 0)) ∷ begin 1 ∷ write 1 3 3 ∷ write 1 4 2 ∷ write 1 0 1
    ∷ end_commit 1 ∷ return 1 1
    ∷ write 0 2 4 ∷ commit 0 ∷ return 0 1 ∷ []
