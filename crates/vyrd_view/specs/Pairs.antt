-- What a part of each subject gives, by its number, its own words, and the place in the part.
use Rattle.std.specs.Prelude.{ℕ, Bool, ◌+◌, ◌/◌, ◌≤◌, ◌==◌, ◌&&◌, not, List, slice_index}
use Rattle.std.specs.Prelude.{slice_index_or, if◌then◌else◌}
use Rattle.std.specs.List.{list_any}
use Rattle.vyrd_base.specs.Cache.{Chunk, chunk_at, is_chunk, cached_pair, stored_pair}
use Rattle.vyrd_base.specs.Buffers.{buffer_at, is_buffer, text_of}
use Rattle.vyrd_view.specs.Decoded.{Gives}

-- whether a changed word is in this part, if each part has `size` words
abbrev pub is_touched : ℕ → ℕ → List ℕ → Bool
is_touched size part changed = list_any (λ word. word / size == part) changed

-- no pair gives more
abbrev pub EachAtMost : ℕ → List (ℕ × ℕ) → Type 0
EachAtMost most pairs = (i : ℕ) → (slice_index_or pairs i (0, 0)).1 ≤ most

-- a slot gives 1 to its value if it is valid
abbrev pub slot_gives : Gives
slot_gives i own j = if slice_index own 0 == 2 then (slice_index own 1, 1) else (0, 0)

-- what a chunk shows under its own key: nothing if its words aren't a chunk
abbrev pub chunk_amount : Chunk → ℕ
chunk_amount c =
    if not (is_chunk c) then 0 else (if c.state == 0 then stored_pair c else cached_pair c)

-- what is amiss with a chunk: 2 if its words aren't a chunk, and 1 if it is clean and its pairs
-- differ
abbrev pub chunk_flaw : Chunk → ℕ
chunk_flaw c = if not (is_chunk c)
    then 2
    else (if c.state == 1 && not (cached_pair c == stored_pair c) then 1 else 0)

-- A chunk has two places: what it shows under its key, and what is amiss under the key past the
-- chunks.
abbrev pub chunk_gives : ℕ → Gives
chunk_gives size h own j = if j == 0
    then (h, chunk_amount (chunk_at own 0))
    else (size + h, chunk_flaw (chunk_at own 0))

-- a buffer gives its text under its key, and 1 under the key past the buffers if its words aren't a
-- buffer
abbrev pub buffer_gives : ℕ → Gives
buffer_gives size b own j =
    if is_buffer (buffer_at own 0)
    then (b, text_of (buffer_at own 0).character (buffer_at own 0).count)
    else (size + b, 1)
