use Rattle.vyrd_mover.proofs.Prelude.{not, ap, both_true}
use Rattle.vyrd_mover.proofs.front.front_mark.Goals as goal

pub returns : goal.returns
returns c =
    let is = c.in_ok-kind.ensures.kind in
    (both_true _ _ is.0 (ap not c.in_ok-kind.ensures.mark), is.1)
