use Rattle.vyrd_text.proofs.Prelude.{arith, None, decimal, ap, sym, ◌∙◌, length, append-nil}
use Rattle.vyrd_text.proofs.NumberLaws.{one_number}
use Rattle.vyrd_text.proofs.number.read_u64.Goals as goal

pub returns-in_err-number : goal.returns-in_err-number
returns-in_err-number c = rw c.from_residual.ensures
    (λ n small e. c.in_err-number.ensures n None small (e ∙ sym (append-nil (decimal n))))

pub returns-then-end-text : goal.returns-then-end-text
returns-then-end-text c = λ n small e.
    let is = one_number c.args.text.now c.in_ok-number.number c.in_ok-number.end n None
    c.in_ok-number.ensures (omega arith) small
    (e ∙ sym (append-nil (decimal n))) in
    c.if-end-text.true (is.0 ∙ sym (ap length e))
