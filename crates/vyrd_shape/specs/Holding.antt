-- Which caller's open block has written each word. A holder is a caller's number plus 1, and 0
-- stands for nobody.
use Rattle.std.specs.Prelude.{◌≡◌, ◌≢◌, ℕ, ◌+◌, ◌^◌, ◌<◌, ◌≤◌, Bool, not, ◌&&◌, ◌==◌, List, [], ◌∷◌}
use Rattle.std.specs.Prelude.{length, map, slice_index, slice_set, if◌then◌else◌}
use Rattle.std.specs.List.{list_any}
use Rattle.vyrd_base.specs.declared.log.Kind.{Kind}
use Rattle.vyrd_base.specs.declared.log.Kind.TheVariants.{Write, BlockClose, BlockCommit}
use Rattle.vyrd_base.specs.Places.{numbers_below}

-- how many callers there are, and the holder of each word
pub record Holding : Type 0 where
  pub callers : ℕ
  pub by_word : List ℕ

-- the holder of a word, once this holder lets go of all of its words
abbrev pub released : ℕ → ℕ → ℕ
released holder other = if other == holder then 0 else other

-- whether a caller other than this one holds the word
abbrev pub is_held_by_another : Holding → ℕ → ℕ → Bool
is_held_by_another holding c w =
    list_any (λ d. not (d == c) && (slice_index holding.by_word w == d + 1))
    (numbers_below holding.callers)

-- The words that a holder holds, linked from its last one on: each word's link is the next word
-- plus 1, and 0 ends them. Once the words before it are let go of, a word is still held, and at the
-- end none is.
abbrev pub IsChain : ℕ → List ℕ → List ℕ → ℕ → List ℕ → Type 0
IsChain holder by_word links first [] = (first ≡ 0) × ((w : ℕ) → slice_index by_word w ≢ holder)
IsChain holder by_word links first (w ∷ ws) =
    (first ≡ w + 1) × (slice_index by_word w ≡ holder)
    × IsChain holder (slice_set by_word w 0) links (slice_index links w) ws

-- the holder's words are linked from `first` on
pub record IsLinked (holder : ℕ) (by_word links : List ℕ) (first : ℕ) : Type 0 where
  pub words : List ℕ
  pub chain : IsChain holder by_word links first words

-- every caller's words are linked, nobody else holds a word, and words and callers can be counted
-- by a `u32`
pub record AreLinked (by_word links firsts : List ℕ) : Type 0 where
  pub few_words : length by_word < 2 ^ 32
  pub few_callers : length firsts < 2 ^ 32
  pub lengths : length links ≡ length by_word
  pub holders : (w : ℕ) → slice_index by_word w ≤ length firsts
  pub chains : (c : ℕ) → c < length firsts → IsLinked (c + 1) by_word links (slice_index firsts c)

-- a word that is written is below n
abbrev pub IsWordBelow : ℕ → Kind → Type 0
IsWordBelow n (Write word value) = word < n
IsWordBelow n _ = Unit {0}

-- The holders after the caller's entry. A write in a block holds its word, unless somebody did
-- already, and a block's end lets go of the caller's words.
abbrev pub holders_after : List ℕ → Bool → ℕ → Kind → List ℕ
holders_after by_word in_block c (Write word value) =
    if in_block && (slice_index by_word word == 0) then slice_set by_word word (c + 1) else by_word
holders_after by_word in_block c BlockClose = map (released (c + 1)) by_word
holders_after by_word in_block c BlockCommit = map (released (c + 1)) by_word
holders_after by_word in_block c _ = by_word
