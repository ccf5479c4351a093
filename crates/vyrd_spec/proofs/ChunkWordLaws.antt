-- The pairs that chunks of words show.
use Rattle.vyrd_spec.proofs.Prelude.{◌≡◌, ℕ, ◌^◌, ◌<◌, Bool, true, List, [], ◌∷◌, arith, first_true}
use Rattle.vyrd_spec.proofs.Prelude.{second_true, below_of, shown_pair}
use Rattle.vyrd_base.specs.Cache.{pair_amount, chunk_at, chunk_parts, is_sound_chunk}

-- whether a chunk of the words is sound, and the pair that it shows
abbrev pub is_sound_at : List ℕ → ℕ → Bool
is_sound_at words h = is_sound_chunk (chunk_at words h)

abbrev pub pair_shown : List ℕ → ℕ → ℕ
pair_shown words h = shown_pair (chunk_at words h)

-- sound chunks give their pairs, and nothing else
pub given_pair : (size : ℕ) (words : List ℕ) (h : ℕ) → is_sound_at words h ≡ true
    → chunk_parts size h (chunk_at words h) ≡ (h, pair_shown words h) ∷ []
given_pair size words h sound = search (first_true, second_true, arith)

-- a sound chunk shows a pair below 2^64
pub small_pair : (words : List ℕ) (h : ℕ) → is_sound_at words h ≡ true → pair_shown words h < 2 ^ 64
small_pair words h sound = grind (arith, first_true, pair_amount, below_of)
