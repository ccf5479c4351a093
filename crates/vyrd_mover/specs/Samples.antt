-- Small histories that are worked out.
use Rattle.std.specs.Prelude.{ℕ, List, [], ◌∷◌, ◌++◌, codes}
use Rattle.vyrd_base.specs.declared.log.Kind.TheVariants.{Call, Return, BlockOpen, BlockClose}
use Rattle.vyrd_base.specs.declared.log.Kind.TheVariants.{BlockCommit}
use Rattle.vyrd_base.specs.declared.subject.Method.TheVariants.{Multiset as OfMultiset}
use Rattle.vyrd_base.specs.declared.multiset.MultisetMethod.TheVariants.{Insert}
use Rattle.vyrd_base.specs.declared.history.Did.{Did}
use Rattle.vyrd_base.specs.declared.history.Did.TheVariants.{Read, Wrote, Took, Gave, Marked}
use Rattle.vyrd_base.specs.declared.history.Stamped.{Stamped}
use Rattle.vyrd_base.specs.Samples.{args}
use Rattle.vyrd_base.specs.SampleWords.{event}
use Rattle.vyrd_mover.specs.Exchanges.{numbered}

-- an event that gets its number from where it stands
abbrev pub by : ℕ → Did → Stamped
by caller did = event 0 caller did

-- the insert of 5 into a bucket of one, under its lock
abbrev pub insert_alone : List Stamped
insert_alone =
    numbered (by 0 (Marked (Call (OfMultiset Insert) (args 5 0 0))) ∷ by 0 (Took 8) ∷ by 0 (Read 0 0)
    ∷ by 0 (Wrote 1 5) ∷ by 0 (Wrote 0 1) ∷ by 0 (Gave 8) ∷ by 0 (Took 8) ∷ by 0 (Marked BlockOpen)
    ∷ by 0 (Wrote 0 2) ∷ by 0 (Marked BlockCommit) ∷ by 0 (Gave 8) ∷ by 0 (Marked (Return 1)) ∷ [])

-- its text
abbrev pub insert_alone_text : List ℕ
insert_alone_text = codes
    "history multiset 1 1\n0 call insert 5\n0 took 8\n0 read 0 0\n0 wrote 1 5\n0 wrote 0 1\n0 gave 8\n"
    ++ codes "0 took 8\n0 open\n0 wrote 0 2\n0 close commit\n0 gave 8\n0 return 1\nend\n"

-- two words written in a block, and by another caller after it, under no lock
abbrev pub two_writers : List Stamped
two_writers = numbered (by 0 (Marked BlockOpen) ∷ by 0 (Wrote 0 1) ∷ by 0 (Wrote 1 5)
    ∷ by 0 (Marked BlockClose) ∷ by 1 (Wrote 0 0) ∷ by 1 (Wrote 1 6) ∷ [])

-- its text
abbrev pub two_writers_text : List ℕ
two_writers_text = codes
    "history multiset 1 2\n0 open\n0 wrote 0 1\n0 wrote 1 5\n0 close\n1 wrote 0 0\n1 wrote 1 6\nend\n"

-- a lock that is taken, given back and taken again in one block
abbrev pub taken_again : List Stamped
taken_again = numbered (by 0 (Marked BlockOpen) ∷ by 0 (Took 8) ∷ by 0 (Gave 8) ∷ by 0 (Took 8)
    ∷ by 0 (Marked BlockClose) ∷ by 0 (Gave 8) ∷ [])

-- its text
abbrev pub taken_again_text : List ℕ
taken_again_text =
    codes "history multiset 1 1\n0 open\n0 took 8\n0 gave 8\n0 took 8\n0 close\n0 gave 8\nend\n"

-- a block of two writes under a lock, with a mark of another caller in it, who writes the same word
-- later under the same lock
abbrev pub beside_another : List Stamped
beside_another = numbered (by 0 (Took 8) ∷ by 0 (Marked BlockOpen) ∷ by 0 (Wrote 0 1)
    ∷ by 1 (Marked (Call (OfMultiset Insert) (args 6 0 0))) ∷ by 0 (Wrote 1 5) ∷ by 0 (Marked BlockClose)
    ∷ by 0 (Gave 8) ∷ by 1 (Took 8) ∷ by 1 (Wrote 0 0) ∷ by 1 (Gave 8) ∷ [])

-- the first of two blocks that aren't reducible ends last, and a third block doesn't end
abbrev pub blocks_across : List Stamped
blocks_across = numbered (by 0 (Marked BlockOpen) ∷ by 1 (Marked BlockOpen) ∷ by 1 (Wrote 0 1)
    ∷ by 1 (Wrote 0 2) ∷ by 0 (Wrote 0 3) ∷ by 0 (Wrote 0 4) ∷ by 1 (Marked BlockClose)
    ∷ by 0 (Marked BlockClose) ∷ by 1 (Marked BlockOpen) ∷ by 1 (Wrote 0 5) ∷ by 1 (Wrote 0 6) ∷ [])
