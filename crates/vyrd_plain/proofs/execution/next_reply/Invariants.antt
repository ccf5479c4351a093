use Rattle.vyrd_plain.proofs.Prelude.{◌≡◌, drop, next_reply}
use Rattle.vyrd_plain.proofs.execution.next_reply.Given as goal

abbrev pub invariant-loop-entry : goal.invariant-loop-entry
invariant-loop-entry l = next_reply l.caller l.later ≡ next_reply l.caller
    (drop l.entry-index l.later)
