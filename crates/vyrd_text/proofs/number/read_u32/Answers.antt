use Rattle.vyrd_text.proofs.Prelude.{arith, sym, ◌∙◌, ◌≡◌, decimal_injective}
use Rattle.vyrd_text.proofs.number.read_u32.Goals as goal

pub returns-then-number-from : goal.returns-then-number-from
returns-then-number-from c = λ n small e.
    let same : c.in_ok-number.number ≡ n = decimal_injective c.in_ok-number.number n (omega arith)
    (omega arith) (sym c.in_ok-number.ensures ∙ e) in
    omega arith
