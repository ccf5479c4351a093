use Rattle.vyrd_witness.proofs.Prelude.{◌≡◌, take, newest_first, opened_in}
use Rattle.vyrd_witness.proofs.opens.opened_in.Given as goal

abbrev pub invariant-loop-at : goal.invariant-loop-at
invariant-loop-at l = l.opened ≡ opened_in l.fn.caller (newest_first (take l.at l.front))
