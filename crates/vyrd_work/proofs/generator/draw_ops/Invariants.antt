use Rattle.vyrd_work.proofs.Prelude.{◌≡◌, ◌-◌, ◌<◌, ◌^◌, ◌++◌, ops_from}
use Rattle.vyrd_work.proofs.generator.draw_ops.Given as goal

abbrev pub invariant-loop-i : goal.invariant-loop-i
invariant-loop-i l = (l.ops.items ++ ops_from (l.n - l.i) l.i l.number ≡ ops_from l.n 0 l.n)
    × (l.number < 2 ^ 32)
