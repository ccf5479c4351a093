use Rattle.vyrd_own.proofs.Prelude.{◌≡◌, drop, hidden_with}
use Rattle.vyrd_own.proofs.state.put_hidden.Given as goal

abbrev pub invariant-loop-key : goal.invariant-loop-key
invariant-loop-key l = hidden_with l.hidden (drop l.key-index l.pairs)
    ≡ hidden_with l.fn.hidden l.pairs
