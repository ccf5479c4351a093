-- Words that spell a number.
use Rattle.vyrd_command.proofs.Prelude.{◌≡◌, ℕ, ◌<◌, ◌≤◌, Bool, true, false, List, Option, Some}
use Rattle.vyrd_command.proofs.Prelude.{None, ap, arith, decimal, nat_tests, most_ops}
use Rattle.std.proofs.Common.{◌^◌, cond, ◌&&◌}
use Rattle.std.specs.Prelude.{nat_le}
use Rattle.vyrd_base.specs.Lines.{number_of}
use Rattle.vyrd_base.proofs.SplitLaws.{number_of_decimal, bytes_same}
use Rattle.vyrd_command.specs.Forms.{is_count}

-- the word that a number is spelled by
abbrev in_range : ℕ → Bool
in_range n = nat_le 1 n && nat_le n most_ops

count_of_decimal : (n : ℕ) → n < 2 ^ 32 → is_count (decimal n) ≡ in_range n
count_of_decimal n small = grind (arith, small, number_of_decimal, bytes_same)

-- a number that is out of range, and one in range
pub no_count : (n : ℕ) (word : List ℕ) → n < 2 ^ 32 → word ≡ decimal n → in_range n ≡ false
    → ◌≡◌ {A = Option ℕ} None (cond (is_count word) (Some (number_of word)) None)
no_count n word small is out = grind (arith, small, count_of_decimal)

pub a_count : (n : ℕ) (word : List ℕ) → n < 2 ^ 32 → word ≡ decimal n → in_range n ≡ true
    → Some n ≡ cond (is_count word) (Some (number_of word)) None
a_count n word small is fits = grind (arith, small, fits, count_of_decimal, number_of_decimal)

pub zero_out : (n : ℕ) → n ≡ 0 → in_range n ≡ false
zero_out n e = ap in_range e

pub high_out : (n : ℕ) → most_ops < n → in_range n ≡ false
high_out n e = grind (arith, nat_tests, in_range)

pub within : (n : ℕ) → (n ≡ 0 → ⊥) → n ≤ most_ops → in_range n ≡ true
within n some few = grind (arith, nat_tests, few)
