-- How many parts there are, and how wide they are.
use Rattle.vyrd_own_spec.proofs.Prelude.{◌≡◌, ℕ, ◌/◌, ◌≤◌, Bool, cond, length, arith, max, Header}
use Rattle.vyrd_own_spec.proofs.Prelude.{most_size, Written, IsSmall, width_of, AreFew}

narrow_by : (b : Bool) (words : ℕ) → words ≤ 16 → cond b 1 words ≤ 16
narrow_by b words low = search arith

pub are_few : (h : Header) (w : Written) (width places count : ℕ) → IsSmall w → width ≡ width_of w
    → 1 ≤ width
    → count ≡ length w.shows → places ≡ max count 1 → AreFew w width places (h.size / width)
are_few h w width places count small is wide many most = search (narrow_by, most_size, arith)
