-- Small logs of a multiset of one bucket whose views differ at the key 5, with the effects that
-- changed it, and one of a write that races. Slot 0 has the words 0 and 1: its state, which is 2
-- where it is valid, and its value. And the words of a tree that is damaged.
use Rattle.std.specs.Prelude.{ℕ, List, [], ◌∷◌, refl}
use Rattle.vyrd_base.specs.declared.header.Header.{Header}
use Rattle.vyrd_base.specs.declared.subject.Subject.TheVariants.{Multiset, Tree}
use Rattle.vyrd_base.specs.declared.log.Kind.TheVariants.{BlockClose}
use Rattle.vyrd_base.specs.declared.log.Entry.{Entry}
use Rattle.vyrd_base.specs.Samples.{by, insert, delete, write, return, commit, begin}
use Rattle.vyrd_witness.specs.declared.effect.Effect.{Effect}
use Rattle.vyrd_witness.specs.declared.change.Change.{Change}

-- the second version's multiset of one bucket with one caller
abbrev pub second : Header
second = record { version = 2; subject = Multiset; size = 1; callers = 1; within = refl }

-- the same with two callers
abbrev pub second_of_two : Header
second_of_two =
    record { version = 2; subject = Multiset; size = 1; callers = 2; within = refl }

-- an insert, and a delete that claims what it didn't do: the write that frees the slot is missing
abbrev pub kept : List Entry
kept = insert 0 5 ∷ write 0 1 5 ∷ write 0 0 2 ∷ commit 0 ∷ return 0 1
    ∷ delete 0 5 ∷ commit 0 ∷ return 0 1 ∷ []

-- an insert that commits inside its block, and writes another value behind the commit
abbrev pub replaced : List Entry
replaced = insert 0 5 ∷ write 0 1 5 ∷ begin 0 ∷ commit 0 ∷ write 0 0 2 ∷ write 0 1 6
    ∷ by 0 BlockClose ∷ return 0 1 ∷ []

-- an insert that fills two slots with its value
abbrev pub filled_twice : List Entry
filled_twice = insert 0 5 ∷ write 0 1 5 ∷ write 0 0 2 ∷ write 0 3 5 ∷ write 0 2 2 ∷ commit 0
    ∷ return 0 1 ∷ []

-- an effect of caller 0, by the positions of the write and of where it takes effect
abbrev effect : ℕ → ℕ → ℕ → ℕ → Effect
effect written at word value =
    record { written = written; at = at; caller = 0; word = word; value = value }

-- a change of the key 5
abbrev change : Effect → ℕ → ℕ → ℕ → Change
change e was before after =
    record { effect = e; was = was; before = before; after = after }

-- both writes of that block take effect at the commit: the first shows the 5, the second hides it
abbrev pub shown_and_hidden : List Change
shown_and_hidden = change (effect 4 3 0 2) 0 0 1 ∷ change (effect 5 3 1 6) 5 1 0 ∷ []

-- the write outside a block that shows the 5 too early, where another caller commits
abbrev pub shown_too_early : List Change
shown_too_early = change (effect 3 3 0 2) 1 0 1 ∷ []

-- the writes that make the two slots valid
abbrev pub shown_twice : List Change
shown_twice = change (effect 2 2 0 2) 0 0 1 ∷ change (effect 4 4 2 2) 0 1 2 ∷ []

-- another caller writes a word behind the commit inside a block, and then the block does
abbrev pub passed : List Entry
passed =
    insert 0 5 ∷ begin 0 ∷ commit 0 ∷ insert 1 6 ∷ write 1 0 1 ∷ write 1 1 6 ∷ write 0 0 2 ∷ []

-- the other caller's write to that word
abbrev pub passing : Effect
passing = record { written = 4; at = 4; caller = 1; word = 0; value = 1 }

-- a tree of two nodes with one caller
abbrev pub tree_of_two : Header
tree_of_two = record { version = 2; subject = Tree; size = 2; callers = 1; within = refl }

-- The words of such a tree: node 0 has the key 3 and its value 7, and leads to node 1. That has the
-- key 4 and its value 8, and leads to itself.
abbrev pub to_itself : List ℕ
to_itself = 0 ∷ 1 ∷ 4 ∷ 1 ∷ 3 ∷ 0 ∷ 0 ∷ 0 ∷ 7 ∷ 0 ∷ 0 ∷ 0
    ∷ 0 ∷ 1 ∷ 0 ∷ 1 ∷ 4 ∷ 0 ∷ 0 ∷ 0 ∷ 8 ∷ 0 ∷ 0 ∷ 0 ∷ 0 ∷ 1 ∷ []
