use Rattle.vyrd_own_states.proofs.Prelude.{◌≡◌, drop, ◌==◌, list_any}
use Rattle.vyrd_own_states.proofs.once.is_among.Given as goal

abbrev pub invariant-loop-other : goal.invariant-loop-other
invariant-loop-other l =
    list_any (λ m. m == l.number) (drop l.other-index l.seen)
    ≡ list_any (λ m. m == l.number) l.seen
