-- The texts that buffers of words show.
use Rattle.vyrd_spec.proofs.Prelude.{◌≡◌, ℕ, ◌^◌, ◌<◌, ◌≤◌, Bool, true, List, [], ◌∷◌, arith}
use Rattle.vyrd_spec.proofs.Prelude.{nat_le, pow-le-pow_right, at_most_of, first_true, second_true}
use Rattle.vyrd_base.specs.Buffers.{are_characters, Buffer, buffer_at, buffer_parts, is_buffer}
use Rattle.vyrd_base.proofs.TextLaws.{text_below}
use Rattle.vyrd_spec.specs.Texts.{text_of_buffer}

-- whether a buffer of the words is sound, and the text that it shows
abbrev pub is_buffer_at : List ℕ → ℕ → Bool
is_buffer_at words b = is_buffer (buffer_at words b)

abbrev pub text_shown : List ℕ → ℕ → ℕ
text_shown words b = text_of_buffer (buffer_at words b)

-- sound buffers give their texts, and nothing else
pub given_text : (size : ℕ) (words : List ℕ) (b : ℕ) → is_buffer_at words b ≡ true
    → buffer_parts size b (buffer_at words b) ≡ (b, text_shown words b) ∷ []
given_text size words b sound = cc

-- a sound buffer shows a text of at most 7 characters
pub small_text : (words : List ℕ) (b : ℕ) → is_buffer_at words b ≡ true
    → text_shown words b < 256 ^ 7
small_text words b sound =
    let buffer : Buffer = buffer_at words b in
    let few = at_most_of buffer.count 7 (first_true (nat_le buffer.count 7) _ sound) in
    let characters = second_true (nat_le buffer.count 7)
    (are_characters buffer.character buffer.count) sound in
    let below = text_below buffer.character buffer.count characters in
    let power : 256 ^ buffer.count ≤ 256 ^ 7 = pow-le-pow_right {n = 256} (omega arith) few in
    omega (arith, below, power)
