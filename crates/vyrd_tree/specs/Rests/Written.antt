-- What a word of a node is to be.
use Rattle.std.specs.Prelude.{ℕ, List, slice_index_or}
use Rattle.vyrd_tree.specs.declared.node.Word.{Word}
use Rattle.vyrd_tree.specs.declared.node.Word.TheVariants.{Level, Count, Bound, Right, Key, Value}
use Rattle.vyrd_tree.specs.declared.written.Written.{Written}

-- the key and the value at a place
abbrev pub key_at : List (ℕ × ℕ) → ℕ → ℕ
key_at entries place = (slice_index_or entries place (0, 0)).0

abbrev pub value_in : List (ℕ × ℕ) → ℕ → ℕ
value_in entries place = (slice_index_or entries place (0, 0)).1

-- what a word of a node is to be
abbrev pub word_in : Written → Word → ℕ
word_in w Level = w.level
word_in w Count = w.count
word_in w Bound = w.bound
word_in w Right = w.right
word_in w (Key slot) = key_at w.entries slot.place
word_in w (Value slot) = value_in w.entries slot.place
