use Rattle.vyrd_own_text.proofs.Prelude.{◌≡◌, subst, IfOk, last_read, last_as}
use Rattle.vyrd_own_text.proofs.inner.read_in_method.Goals as goal

pub returns : goal.returns
returns c = subst (λ s. IfOk c.read_last.result (λ r. last_as r ≡ last_read s c.args.text.now))
    c.in_ok-names.ensures c.read_last.ensures
