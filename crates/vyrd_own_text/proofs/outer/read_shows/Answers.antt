use Rattle.vyrd_own_text.proofs.Prelude.{◌≡◌, subst, IfOk, codes, two_read, two_as}
use Rattle.vyrd_own_text.proofs.outer.read_shows.Goals as goal

pub returns : goal.returns
returns c = subst
    (λ s. IfOk c.read_two.result (λ r. two_as r ≡ two_read s (codes " ") c.args.text.now))
    c.in_ok-names.ensures c.read_two.ensures
