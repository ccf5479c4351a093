-- What the count of faults of a device tells of the reads or writes.
use Rattle.vyrd_command.proofs.Prelude.{◌≡◌, ℕ, ◌≤◌, Bool, true, false, subst, sym, arith, ◌⊎◌}
use Rattle.vyrd_command.proofs.Prelude.{if◌then◌else◌, nat_tests, next_count, HasRisen}

-- one more is greater, if the count doesn't stand at its last value
next_rises : (n : ℕ) → HasRisen n (next_count n)
next_rises n = grind (arith, nat_tests)

next_no_less : (n : ℕ) → n ≤ next_count n
next_no_less n = grind arith

-- a count after calls of which the last one failed or none did
pub risen : (before after : ℕ) → after ≡ next_count before → HasRisen before after
risen before after is = subst (HasRisen before) (sym is) (next_rises before)

pub alone : (failed : Bool) (before after : ℕ)
    → after ≡ (if failed then next_count before else before) → (after ≡ before) ⊎ (failed ≡ true)
alone failed before after is = search arith

pub told : (failed : Bool) (before after : ℕ)
    → after ≡ (if failed then next_count before else before) → ¬ (HasRisen before after)
    → failed ≡ false
told failed before after is none = search (risen, arith)

pub never_falls : (failed : Bool) (before after : ℕ)
    → after ≡ (if failed then next_count before else before) → before ≤ after
never_falls failed before after is = search (next_no_less, arith)

pub kept : (failed : Bool) (before after : ℕ)
    → after ≡ (if failed then next_count before else before) → failed ≡ false → after ≡ before
kept failed before after is none = search arith
