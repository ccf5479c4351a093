-- The pairs that the words of a cache's chunks show, each as one number.
use Rattle.std.specs.Prelude.{ℕ, ◌==◌, List, Option, if◌then◌else◌}
use Rattle.vyrd_base.specs.Cache.{Chunk, chunk_at, cached_pair, stored_pair}
use Rattle.vyrd_base.specs.Cache.{is_sound_chunk}
use Rattle.vyrd_spec.specs.Rows.{sound_row}

-- the pair that a chunk shows: the stored one if it is absent, and otherwise the cached one
abbrev pub shown_pair : Chunk → ℕ
shown_pair c = if c.state == 0 then stored_pair c else cached_pair c

-- the pair of each chunk, if the words stand for a state
abbrev pub sound_pairs : ℕ → List ℕ → Option (List ℕ)
sound_pairs size words =
    sound_row (λ h. is_sound_chunk (chunk_at words h)) (λ h. shown_pair (chunk_at words h)) size
