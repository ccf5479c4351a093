-- How far the keys at which two views differ have been gone through: up to the next key, or to the
-- end.
use Rattle.std.specs.Prelude.{◌≡◌, ℕ, Bool, true, ◌+◌, nat_lt, List, map, filter, Option, Some}
use Rattle.std.specs.Prelude.{None}
use Rattle.vyrd_base.specs.Amounts.{Amounts, amount_of, given}
use Rattle.vyrd_base.specs.Rules.{Rules}
use Rattle.vyrd_witness.specs.Changes.{change_by, words_after_effect}
use Rattle.vyrd_witness.specs.declared.effect.Effect.{Effect}
use Rattle.vyrd_witness.specs.declared.item.Item.{Item}
use Rattle.vyrd_witness.specs.declared.item.Item.TheVariants.{Changed}
use Rattle.vyrd_follow.specs.Following.{differences}

-- whether a key comes before the next one
abbrev pub comes_before : Option ℕ → ℕ → Bool
comes_before None key = true
comes_before (Some next) key = nat_lt key next

-- the differences before the next key
abbrev pub differences_before : Amounts → Amounts → Option ℕ → List ℕ
differences_before a b next = filter (comes_before next) (differences a b)

-- the item of a key of which an effect changes what words show from one view to another
abbrev pub changed_item : Effect → ℕ → Amounts → Amounts → ℕ → Item
changed_item e was a b key = Changed key
    (record { effect = e; was = was; before = amount_of a key; after = amount_of b key })

-- One view gives way to another: at each key what some pairs gave gives way to what others give.
abbrev pub GivesWay : Amounts → Amounts → List (ℕ × ℕ) → List (ℕ × ℕ) → Type 0
GivesWay a b old new = (q : ℕ) → amount_of a q + given q new ≡ amount_of b q + given q old

-- each key of which the words show another amount after an effect
abbrev pub key_items : Rules → List ℕ → Effect → List Item
key_items r words e = map (λ key. Changed key (change_by r key words e))
    (differences (r.view words) (r.view (words_after_effect words e)))
