use Rattle.vyrd_text.proofs.Prelude.{◌+◌, ◌-◌, ◌≤◌, vec_len, ◌==◌, count_by, vec_capacity}
use Rattle.vyrd_text.specs.Quick.{AreEntriesAtFront}
use Rattle.vyrd_text.proofs.quick.take_entries.Given as goal

abbrev pub invariant-loop-count : goal.invariant-loop-count
invariant-loop-count l = AreEntriesAtFront l.fn.subject l.fn.text l.initial.out.items l.out.items
    l.rest l.count
    × (l.count ≤ l.fn.most) × (vec_len l.out + count_by (λ b. b == 10) l.rest ≤ vec_capacity l.out)

abbrev pub decreases-loop-count : goal.decreases-loop-count
decreases-loop-count l = l.fn.most - l.count
