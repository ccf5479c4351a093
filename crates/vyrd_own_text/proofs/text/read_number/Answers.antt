use Rattle.vyrd_own_text.proofs.Prelude.{decimal, digits_value, number_of_decimal}
use Rattle.std.proofs.Common.{◌^◌, ◌≡◌, ℕ, List, ◌∙◌, ap, sym, arith, ◌<◌}
use Rattle.vyrd_own_text.proofs.TextLaws.{number_is, number_isnt}
use Rattle.vyrd_own_text.proofs.text.read_number.Goals as goal

same_number : (word : List ℕ) (m n : ℕ) → m < 2 ^ 64 → n < 2 ^ 64 → word ≡ decimal m
    → word ≡ decimal n → m ≡ n
same_number word m n sm sn em en = sym (number_of_decimal m sm) ∙ ap (digits_value 10) (sym em ∙ en)
    ∙ number_of_decimal n sn

pub returns-in_err-number : goal.returns-in_err-number
returns-in_err-number c = c.from_residual.ensures
    ∙ sym (number_isnt c.args.word.now (λ n small e. c.in_err-number.ensures n (omega arith) e))

pub returns-then-number : goal.returns-then-number
returns-then-number c =
    sym (number_isnt c.args.word.now (λ n small e.
    let same : n ≡ c.in_ok-number.number = same_number c.args.word.now n c.in_ok-number.number
    (omega arith) (omega arith) e c.in_ok-number.ensures in
    absurd (omega arith)))

pub returns : goal.returns
returns c = sym
    (number_is c.args.word.now c.in_ok-number.number (omega arith) c.in_ok-number.ensures)
