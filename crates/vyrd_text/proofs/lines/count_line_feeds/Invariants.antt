use Rattle.vyrd_text.proofs.Prelude.{◌≡◌, ◌+◌, ◌≤◌, length, ◌==◌, count_by}
use Rattle.vyrd_text.proofs.lines.count_line_feeds.Given as goal

abbrev pub invariant-loop-rest : goal.invariant-loop-rest
invariant-loop-rest l = (l.count + count_by (λ b. b == 10) l.rest ≡ count_by (λ b. b == 10) l.text)
    × (l.count + length l.rest ≤ length l.text)

abbrev pub decreases-loop-rest : goal.decreases-loop-rest
decreases-loop-rest l = length l.rest
