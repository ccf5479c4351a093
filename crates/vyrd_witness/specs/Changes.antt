-- What the words show of a key, and the effects that change it.
use Rattle.std.specs.Prelude.{ℕ, ◌==◌, List, [], ◌∷◌, slice_index, slice_set, if◌then◌else◌}
use Rattle.vyrd_base.specs.Amounts.{amount_of}
use Rattle.vyrd_base.specs.Rules.{Rules}
use Rattle.vyrd_witness.specs.declared.effect.Effect.{Effect}
use Rattle.vyrd_witness.specs.declared.change.Change.{Change}

-- what the words show of a key
abbrev pub amount_shown : Rules → List ℕ → ℕ → ℕ
amount_shown r words key = amount_of (r.view words) key

-- the words after an effect
abbrev pub words_after_effect : List ℕ → Effect → List ℕ
words_after_effect words e = slice_set words e.word e.value

-- the words after effects, one after the other
abbrev pub words_through : List ℕ → List Effect → List ℕ
words_through words [] = words
words_through words (e ∷ effects) = words_through (words_after_effect words e) effects

-- what an effect does to its word, and to what the words show of the key
abbrev pub change_by : Rules → ℕ → List ℕ → Effect → Change
change_by r key words e = record {
  effect = e;
  was = slice_index words e.word;
  before = amount_shown r words key;
  after = amount_shown r (words_after_effect words e) key;
}

-- a change counts if it shows
abbrev pub with_change : Change → List Change → List Change
with_change change changes = if change.before == change.after then changes else change ∷ changes

-- Those of these effects, one after the other, that change what the words show of the key, the
-- first to take effect first.
abbrev pub changes_in : Rules → ℕ → List ℕ → List Effect → List Change
changes_in r key words [] = []
changes_in r key words (e ∷ effects) =
    with_change (change_by r key words e) (changes_in r key (words_after_effect words e) effects)
