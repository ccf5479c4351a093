-- The words at the commits that wait, as they are kept: the words at one commit, and the writes
-- that took effect since then.
use Rattle.std.specs.Prelude.{◌≡◌, ℕ, Bool, false, ◌+◌, ◌<◌, ◌^◌, ◌==◌, List, [], ◌∷◌, ◌++◌, length}
use Rattle.std.specs.Prelude.{map, take, drop, slice_index, if◌then◌else◌}
use Rattle.std.specs.List.{All}
use Rattle.vyrd_base.specs.declared.header.Header.{Header}
use Rattle.vyrd_base.specs.Amounts.{Amounts}
use Rattle.vyrd_base.specs.Layout.{plain_words}
use Rattle.vyrd_shadow.specs.Blocks.{with_writes, AreInRange}
use Rattle.vyrd_words.specs.Counts.{total}
use Rattle.vyrd_view.specs.Comparing.{AgreeElsewhere}
use Rattle.vyrd_view.specs.Known.{Known, Shows}

-- The header; the words at the last commit that doesn't wait, or later ones; the words at the first
-- commit that waits, and those now if none waits; for each commit that waits the writes that took
-- effect after it, up to the next one and in their order; how many writes are kept for the first
-- commit that waits, or for the next one if none waits; what the words show, by its name; the words
-- and the specification's amounts that were compared last; whether memory was refused; and how many
-- steps the changed words and the writes that wait will cost.
pub record Cuts : Type 0 where
  pub header : Header
  pub base : List ℕ
  pub first : List ℕ
  pub since : List (List (ℕ × ℕ))
  pub begun : ℕ
  pub shows : Shows
  pub compared : List ℕ
  pub specified : Amounts
  pub refused : Bool
  pub pending : ℕ

-- the words at the first commit, by what each commit has: how many writes took effect between it
-- and
-- the one before, and its late writes, which came after these
abbrev pub first_of : List ℕ → List (ℕ × List (ℕ × ℕ)) → List (ℕ × ℕ) → List ℕ
first_of words [] writes = with_writes words writes
first_of words (k ∷ ks) writes = with_writes words (take k.0 writes ++ k.1)

-- how many writes are kept for the first commit, or for the next one if there is none
abbrev pub begun_of : List (ℕ × List (ℕ × ℕ)) → List (ℕ × ℕ) → ℕ
begun_of [] writes = length writes
begun_of (k ∷ ks) writes = length (take k.0 writes ++ k.1)

-- the writes between the commits, and those after the last of them
abbrev pub split_at : List (ℕ × List (ℕ × ℕ)) → List (ℕ × ℕ) → List (List (ℕ × ℕ))
split_at [] writes = writes ∷ []
split_at (k ∷ ks) writes = (take k.0 writes ++ k.1) ∷ split_at ks (drop k.0 writes)

-- the same from the first commit on
abbrev pub since_of : List (ℕ × List (ℕ × ℕ)) → List (ℕ × ℕ) → List (List (ℕ × ℕ))
since_of [] writes = []
since_of (k ∷ ks) writes = split_at ks (drop k.0 writes)

-- further writes at the end of the list after which that many stand
abbrev pub with_part : ℕ → List (ℕ × ℕ) → List (List (ℕ × ℕ)) → List (List (ℕ × ℕ))
with_part behind writes [] = []
with_part behind writes (part ∷ parts) =
    if length parts == behind
    then (part ++ writes) ∷ parts
    else part ∷ with_part behind writes parts

-- the first words, if that many lists of writes stand after the further ones
abbrev pub first_with : ℕ → List (ℕ × ℕ) → List ℕ → List (List (ℕ × ℕ)) → List ℕ
first_with behind writes first since =
    if length since == behind then with_writes first writes else first

-- how many writes are kept for the first commit, if that many lists of writes stand after the
-- further ones
abbrev pub begun_with : ℕ → List (ℕ × ℕ) → ℕ → List (List (ℕ × ℕ)) → ℕ
begun_with behind writes begun since =
    if length since == behind then begun + length writes else begun

-- the changed words, each with its value
abbrev pub written : List ℕ → List ℕ → List (ℕ × ℕ)
written words changed = map (λ w. (w, slice_index words w)) changed

-- all words and writes are the header's, and each write is counted once, or late
pub record AreCuts (h : Header) (words : List ℕ) (counts : List (ℕ × List (ℕ × ℕ)))
    (writes : List (ℕ × ℕ)) (tail : ℕ) : Type 0 where
  pub all : length words ≡ plain_words h
  pub values : (w : ℕ) → slice_index words w < 2 ^ 63
  pub in_range : AreInRange (plain_words h) writes
  pub late : All (λ commit. AreInRange (plain_words h) commit.1) counts
  pub counted : total counts + tail ≡ length writes

-- the words that were compared last are these except for the changed ones
pub record AreKnown (h : Header) (words changed : List ℕ) (compared : Known) : Type 0 where
  pub count : compared.count ≡ plain_words h
  pub within : All (λ w. w < plain_words h) changed
  pub elsewhere : compared.refused ≡ false → AgreeElsewhere compared.words words changed
