-- What changes along a front, item by item: each write that takes effect, with what it changes of
-- what the words show, and what each step of the specification does.
use Rattle.std.specs.Prelude.{ℕ, List, [], ◌∷◌, ◌++◌, length, map, filter, flat_map, slice_index}
use Rattle.std.specs.Option.{option_map_or}
use Rattle.vyrd_base.specs.declared.log.Entry.{Entry}
use Rattle.vyrd_base.specs.declared.log.StartWord.{StartWord}
use Rattle.vyrd_base.specs.Amounts.{Amounts, collected, keys_of}
use Rattle.vyrd_base.specs.Places.{numbers_below}
use Rattle.vyrd_base.specs.Rules.{Charter, Rules, rules_by}
use Rattle.vyrd_base.specs.Starts.{state_at_start}
use Rattle.vyrd_witness.specs.declared.effect.Effect.{Effect}
use Rattle.vyrd_witness.specs.declared.item.Item.{Item}
use Rattle.vyrd_witness.specs.declared.item.Item.TheVariants.{AgreedAtStart, Changed, Wrote}
use Rattle.vyrd_witness.specs.declared.item.Item.TheVariants.{Stepped}
use Rattle.vyrd_witness.specs.Changes.{change_by, words_after_effect}
use Rattle.vyrd_witness.specs.Effects.{effects_there}
use Rattle.vyrd_witness.specs.ViewWitnesses.{words_then}
use Rattle.vyrd_follow.specs.Doings.{differ_at, done_at}

-- the keys that either view has, the least first
abbrev pub keys_of_both : Amounts → Amounts → List ℕ
keys_of_both a b = keys_of (collected (a ++ b))

-- the keys at which they differ, the least first
abbrev pub differences : Amounts → Amounts → List ℕ
differences a b = filter (differ_at a b) (keys_of_both a b)

-- items, or this one if there are none
abbrev pub or_item : Item → List Item → List Item
or_item other [] = other ∷ []
or_item other (item ∷ items) = item ∷ items

-- what is said of a write that takes effect on these words: each key of which they then show
-- another amount, or the write alone if there is none
abbrev pub write_items : Rules → List ℕ → Effect → List Item
write_items r words e = or_item (Wrote e (slice_index words e.word))
    (map (λ key. Changed key (change_by r key words e))
    (differences (r.view words) (r.view (words_after_effect words e))))

-- the same of writes that take effect one after the other
abbrev pub writes_items : Rules → List ℕ → List Effect → List Item
writes_items r words [] = []
writes_items r words (e ∷ effects) =
    write_items r words e ++ writes_items r (words_after_effect words e) effects

-- What is said of the entry at a position of a front: which writes take effect there, and what the
-- specification's step does, if it is a commit.
abbrev pub entry_items : Charter → List StartWord → List Entry → ℕ → List Item
entry_items c starting front at =
    writes_items (rules_by c) (words_then (rules_by c).header starting front at)
    (effects_there front at)
    ++ map (Stepped at) (done_at c starting front at)

-- amounts, key by key, as what words and state have at the start
abbrev pub agreed_items : Amounts → List Item
agreed_items amounts = map (λ p. AgreedAtStart p.0 p.1) amounts

-- what they have there, if the words stand for a state
abbrev pub start_items : Rules → List StartWord → List Item
start_items r starting =
    option_map_or (λ state. agreed_items (r.shown state)) (state_at_start r starting) []

-- what is said of a front, from its start to its end
abbrev pub followed_items : Charter → List StartWord → List Entry → List Item
followed_items c starting front = start_items (rules_by c) starting
    ++ flat_map (entry_items c starting front) (numbers_below (length front))
