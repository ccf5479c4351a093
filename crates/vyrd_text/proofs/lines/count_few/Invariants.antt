use Rattle.vyrd_text.proofs.Prelude.{◌≡◌, ◌≤◌, take, ◌==◌, count_by}
use Rattle.vyrd_text.proofs.lines.count_few.Given as goal

abbrev pub invariant-loop-at : goal.invariant-loop-at
invariant-loop-at l = (l.count ≡ count_by (λ b. b == 10) (take l.at l.text)) × (l.count ≤ l.at)
