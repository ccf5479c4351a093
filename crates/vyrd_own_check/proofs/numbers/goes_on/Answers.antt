use Rattle.vyrd_own_check.proofs.Prelude.{◌≡◌, ◌+◌, ◌-◌, length, ◌∙◌, arith, nat_tests, Run}
use Rattle.vyrd_base.proofs.TestLaws.{same_of}
use Rattle.vyrd_own_check.proofs.NumberLaws.{number_last}
use Rattle.vyrd_own_check.proofs.numbers.goes_on.Goals as goal

pub returns : goal.returns
returns c = λ same.
    let d : Run = record { place = 0; line = 0 } in
    let runs = c.args.runs.now in
    let some : length runs - 1 + 1 ≡ length runs = grind (arith, nat_tests) in
    let equal = same_of _ _ same in
    number_last 0 c.args.place runs (length runs - 1) d some c.if-place-run.false
    ∙ omega (arith, equal, c.if-place-run.false, c.if-line-run.false)
