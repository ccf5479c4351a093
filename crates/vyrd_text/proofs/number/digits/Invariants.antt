use Rattle.vyrd_text.proofs.Prelude.{◌≡◌, take, AllDigits, digits_value}
use Rattle.vyrd_text.proofs.number.digits.Given as goal

abbrev pub invariant-loop-at : goal.invariant-loop-at
invariant-loop-at l = AllDigits 10 (take l.at l.text)
    × (l.value ≡ digits_value 10 (take l.at l.text))
