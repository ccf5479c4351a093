-- Keys whose amounts turn to others.
use Rattle.std.specs.Prelude.{ℕ, List, map}
use Rattle.vyrd_base.specs.Amounts.{Amounts, amount_of}
use Rattle.vyrd_witness.specs.declared.effect.Effect.{Effect}
use Rattle.vyrd_witness.specs.declared.item.Item.{Item}
use Rattle.vyrd_witness.specs.declared.item.Item.TheVariants.{Changed}
use Rattle.vyrd_follow.specs.Following.{differences}

-- a key, and what it has after
abbrev pub turned_to : Amounts → ℕ → ℕ × ℕ
turned_to after key = (key, amount_of after key)

-- each key that has another amount after, with that, the least first
abbrev pub turns : Amounts → Amounts → List (ℕ × ℕ)
turns before after = map (turned_to after) (differences before after)

-- what is said of such a key, if a write of a word that had this value changes it
abbrev pub turn_item : Effect → ℕ → Amounts → Amounts → ℕ → Item
turn_item e was before after key = Changed key (record {
  effect = e;
  was = was;
  before = amount_of before key;
  after = amount_of after key;
})

-- what is said of all of them
abbrev pub turn_items : Effect → ℕ → Amounts → Amounts → List Item
turn_items e was before after = map (turn_item e was before after) (differences before after)
