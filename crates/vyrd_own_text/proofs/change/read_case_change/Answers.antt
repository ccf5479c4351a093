use Rattle.vyrd_own_text.proofs.Prelude.{◌≡◌, subst, IfOk, change_read, texts, change_as}
use Rattle.vyrd_own_text.proofs.change.read_case_change.Goals as goal

pub returns : goal.returns
returns c = subst
    (λ s. IfOk c.read_change.result
    (λ r. change_as r ≡ change_read (texts c.args.program.now.register_names.items) s
    c.args.text.now)) c.in_ok-names.ensures c.read_change.ensures
