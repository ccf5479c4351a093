-- What is said of two small logs of a multiset of one bucket: an insert and a delete whose write is
-- missing, and an insert that commits inside its block and writes another value behind the commit.
use Rattle.std.specs.Prelude.{ℕ, List, [], ◌∷◌}
use Rattle.vyrd_base.specs.declared.own.effect.Effect.TheVariants.{SetShown}
use Rattle.vyrd_witness.specs.declared.effect.Effect.{Effect}
use Rattle.vyrd_witness.specs.declared.item.Item.{Item}
use Rattle.vyrd_witness.specs.declared.item.Item.TheVariants.{Changed, Wrote, Stepped}

-- an effect of caller 0, by the positions of the write and of where it takes effect
abbrev effect : ℕ → ℕ → ℕ → ℕ → Effect
effect written at word value =
    record { written = written; at = at; caller = 0; word = word; value = value }

-- an effect that changes what the words show of a key
abbrev changed : ℕ → Effect → ℕ → ℕ → ℕ → Item
changed key e was before after =
    Changed key (record { effect = e; was = was; before = before; after = after })

-- the value is written first, which shows nothing, and then the slot's state
abbrev pub said_of_kept : List Item
said_of_kept =
    Wrote (effect 1 1 1 5) 0 ∷ changed 5 (effect 2 2 0 2) 0 0 1 ∷ Stepped 3 (SetShown 5 1)
    ∷ Stepped 6 (SetShown 5 0) ∷ []

-- both writes of the block take effect at the commit, and the second changes two keys
abbrev pub said_of_replaced : List Item
said_of_replaced =
    Wrote (effect 1 1 1 5) 0
    ∷ changed 5 (effect 4 3 0 2) 0 0 1
    ∷ changed 5 (effect 5 3 1 6) 5 1 0 ∷ changed 6 (effect 5 3 1 6) 5 0 1
    ∷ Stepped 3 (SetShown 5 1) ∷ []
