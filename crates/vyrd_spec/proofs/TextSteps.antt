-- The loops over a text and over a buffer's characters, one step at a time.
use Rattle.vyrd_spec.proofs.Prelude.{ℕ, ◌+◌, ◌*◌, ◌^◌, ◌<◌, ◌≤◌, text_length, is_at_most}
use Rattle.vyrd_spec.proofs.Prelude.{joined_below}

-- what the sum of two texts stays below
pub sum_below : (text more : ℕ) → text < 256 ^ 7 → more < 256 ^ 7 → text_length text
    + text_length more ≤ 7
    → text + more * 256 ^ text_length text < 256 ^ 7
sum_below text more text_low more_low room = joined_below text more text_low more_low
    (is_at_most (text_length text + text_length more) 7 room)
