use Rattle.vyrd_live.proofs.Prelude.{map, IsFirstSpent, Stopped}
use Rattle.vyrd_live.proofs.workers.first_spent.Given as goal

-- the first of those before
abbrev pub invariant-loop-caller : goal.invariant-loop-caller
invariant-loop-caller l = IsFirstSpent (map (λ (s : Stopped). s.ending) l.stopped) l.caller l.first
