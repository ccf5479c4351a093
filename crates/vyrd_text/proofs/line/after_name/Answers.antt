use Rattle.vyrd_text.proofs.Prelude.{◌∷◌, ◌++◌, sym, ap, ◌∙◌, append_cancel_left}
use Rattle.vyrd_text.proofs.line.after_name.Goals as goal

pub returns-in_err-rest-2 : goal.returns-in_err-rest-2
returns-in_err-rest-2 c = rw c.from_residual-in_err-rest-2.ensures
    (λ rest e. c.in_err-rest-2.ensures rest
    (append_cancel_left c.args.name.now c.in_ok-rest.rest.now (32 ∷ rest)
    (sym c.in_ok-rest.ensures ∙ e)))

pub returns : goal.returns
returns c = c.in_ok-rest.ensures ∙ ap (λ t. c.args.name.now ++ t) c.in_ok-rest-2.ensures
