-- What is held, and what letting go of it costs.
use Rattle.vyrd_shape.proofs.Prelude.{◌≡◌, ℕ, ◌+◌, ◌<◌, cond, List, length, arith, get_or, set}
use Rattle.vyrd_shape.proofs.Prelude.{◌==◌, sum_by-set, held_count}

-- whether it is held, as a number
abbrev pub one_if_held : ℕ → ℕ
one_if_held holder = cond (holder == 0) 0 1

-- a word that is let go of is one less
pub held_less : (by_word : List ℕ) (w holder : ℕ) → w < length by_word
    → get_or by_word w 0 ≡ holder → 0 < holder
    → held_count (set by_word w 0) + 1 ≡ held_count by_word
held_less by_word w holder low held some = grind (arith, sum_by-set one_if_held by_word w 0 0 low)
