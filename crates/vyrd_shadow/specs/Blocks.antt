-- The writes that an open block keeps back: pairs of a word and a value, each word once.
use Rattle.std.specs.Prelude.{◌≡◌, ℕ, Bool, true, ◌&&◌, ◌+◌, ◌^◌, ◌<◌, ◌≤◌, ◌==◌, nat_lt, List, []}
use Rattle.std.specs.Prelude.{◌∷◌, ◌++◌, length, Option, None, unwrap_or, slice_index}
use Rattle.std.specs.Prelude.{slice_index_or, slice_set, if◌then◌else◌}
use Rattle.std.specs.List.{list_any, sum_by, All}
use Rattle.vyrd_base.specs.declared.header.Header.{Header}
use Rattle.vyrd_base.specs.Layout.{plain_words}

-- the words, once these writes have taken effect in their order
abbrev pub with_writes : List ℕ → List (ℕ × ℕ) → List ℕ
with_writes words [] = words
with_writes words ((word, value) ∷ writes) = with_writes (slice_set words word value) writes

-- the words of some writes, with one more: a word that is there keeps its place, and a new one goes
-- last
abbrev pub with_word : List ℕ → ℕ → List ℕ
with_word words word = if list_any (λ other. word == other) words then words else words ++ word ∷ []

-- the words that these writes, given the newest first, have written, in the order of their first
-- writes
abbrev pub first_written : List (ℕ × ℕ) → List ℕ
first_written [] = []
first_written ((word, value) ∷ earlier) = with_word (first_written earlier) word

-- some writes with one more: one to the same word takes its value, and a write to a new word goes
-- last
abbrev pub with_kept : List (ℕ × ℕ) → ℕ → ℕ → List (ℕ × ℕ)
with_kept [] word value = (word, value) ∷ []
with_kept ((other, old) ∷ writes) word value =
    if word == other
    then (other, value) ∷ writes
    else (other, old) ∷ with_kept writes word value

-- whether the write at this place is to the word
abbrev pub is_at : ℕ → ℕ → List (ℕ × ℕ) → Bool
is_at place word writes =
    nat_lt place (length writes) && (slice_index_or writes place (0, 0)).0 == word

-- the writes are to words below n, and of values below 2^63
abbrev pub AreInRange : ℕ → List (ℕ × ℕ) → Type 0
AreInRange n [] = Unit {0}
AreInRange n ((word, value) ∷ writes) = (word < n) × (value < 2 ^ 63) × AreInRange n writes

-- what the caller's block keeps, nothing if it is closed
abbrev pub kept_by : List (Option (List (ℕ × ℕ))) → ℕ → List (ℕ × ℕ)
kept_by blocks c = unwrap_or (slice_index_or blocks c None) []

-- no other caller's block keeps a write to the word
abbrev pub IsFree : List (Option (List (ℕ × ℕ))) → ℕ → ℕ → Type 0
IsFree blocks caller word = (c i : ℕ) → is_at i word (kept_by blocks c) ≡ true → c ≡ caller

-- for each write that a block keeps, its caller and its place are those of its word
abbrev pub ArePlaced : List (Option (List (ℕ × ℕ))) → List (ℕ × ℕ) → Type 0
ArePlaced blocks holders = (c i w : ℕ) → is_at i w (kept_by blocks c) ≡ true
    → slice_index_or holders w (0, 0) ≡ (c, i)

-- how many writes all blocks keep
abbrev pub kept_count : List (Option (List (ℕ × ℕ))) → ℕ
kept_count blocks = sum_by (λ block. length (unwrap_or block [])) blocks

-- Words, blocks and changed words are the header's, there is room for the words of all blocks after
-- the changed ones, and `count` says how many they are.
pub record IsSound (h : Header) (words : List ℕ) (blocks : List (Option (List (ℕ × ℕ))))
    (changed : List ℕ) (count capacity : ℕ) : Type 0 where
  pub all_words : length words ≡ plain_words h
  pub all_blocks : length blocks ≡ h.callers
  pub values : (w : ℕ) → slice_index words w < 2 ^ 63
  pub writes : (c : ℕ) → AreInRange (plain_words h) (unwrap_or (slice_index_or blocks c None) [])
  pub changed_words : All (λ w. w < plain_words h) changed
  pub counted : count ≡ kept_count blocks
  pub room : length changed + count ≤ capacity
