use Rattle.vyrd_text.proofs.Prelude.{◌≡◌, ◌-◌, ◌≤◌, length, take, AllDigits, digits_value}
use Rattle.vyrd_text.proofs.quick.few_digits.Given as goal

abbrev pub invariant-loop-end : goal.invariant-loop-end
invariant-loop-end l = (l.end ≤ length l.text) × AllDigits 10 (take l.end l.text)
    × (l.value ≡ digits_value 10 (take l.end l.text))

abbrev pub decreases-loop-end : goal.decreases-loop-end
decreases-loop-end l = length l.text - l.end
