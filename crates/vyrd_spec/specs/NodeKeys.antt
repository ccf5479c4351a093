-- The keys and entries of a node, place by place.
use Rattle.std.specs.Prelude.{ℕ, ◌+◌, ◌-◌, ◌==◌, Bool, ◌&&◌, ◌||◌, nat_lt, nat_le, List}
use Rattle.vyrd_base.specs.Tree.{node_word, level_of, bound_of}
use Rattle.vyrd_base.specs.Tree.{low_of, is_first, is_sound_node}

-- the key at a place
abbrev pub key_at : List ℕ → ℕ → ℕ → ℕ
key_at words n j = node_word words n (4 + j)

-- the entry at a place
abbrev pub entry_at : List ℕ → ℕ → ℕ → ℕ × ℕ
entry_at words n j = (node_word words n (4 + j), node_word words n (8 + j))

-- whether the key is above the one before it
abbrev pub is_next_key : List ℕ → ℕ → ℕ → Bool
is_next_key words n j = j == 0 || nat_lt (key_at words n (j - 1)) (key_at words n j)

-- whether a key may stand in the node: it is at least the low, and below the bound, if there is one
abbrev pub is_in_range : ℕ → List ℕ → ℕ → ℕ → Bool
is_in_range last words n key =
    nat_le (low_of last words n) key && (bound_of words n == 0 || nat_lt key (bound_of words n))

-- whether the key at a place is both
abbrev pub is_sound_key : ℕ → List ℕ → ℕ → ℕ → Bool
is_sound_key last words n j = is_next_key words n j && is_in_range last words n (key_at words n j)

-- whether a node is the first of a chain of this level
abbrev pub is_first_of : ℕ → List ℕ → ℕ → ℕ → Bool
is_first_of last words level n = level_of words n == level && is_first last words n

-- whether a node is sound, and its level isn't above this one
abbrev pub is_sound_below : ℕ → List ℕ → ℕ → ℕ → Bool
is_sound_below last words highest n =
    nat_le (level_of words n) highest && is_sound_node last words n
