use Rattle.std.proofs.Common.{arith}
use Rattle.vyrd_cache.proofs.Steps.{looked_dirty, looked_other, flushed_dirty, flushed_other}
use Rattle.vyrd_cache.proofs.Steps.{evicted_dirty, evicted_absent, evicted_other, read_absent}
use Rattle.vyrd_cache.proofs.Steps.{read_other}
use Rattle.vyrd_cache.proofs.Steps.{decided}
use Rattle.vyrd_cache.proofs.task.Task.knowing.Goals as goal

pub returns-then-state-eq-DIRTY : goal.returns-then-state-eq-DIRTY
returns-then-state-eq-DIRTY c = search (looked_dirty, arith)

pub returns-else-state-eq-DIRTY : goal.returns-else-state-eq-DIRTY
returns-else-state-eq-DIRTY = grind (arith, looked_other)

pub returns-then-state-eq-DIRTY-2 : goal.returns-then-state-eq-DIRTY-2
returns-then-state-eq-DIRTY-2 c = search (flushed_dirty, arith)

pub returns-else-state-eq-DIRTY-2 : goal.returns-else-state-eq-DIRTY-2
returns-else-state-eq-DIRTY-2 c = search (flushed_other, arith)

pub returns-in-2 : goal.returns-in-2
returns-in-2 c = λ h. evicted_dirty h c.args.self c.args.state c.in-Evict.is c.in-2.is

pub returns-in-0 : goal.returns-in-0
returns-in-0 c = λ h. evicted_absent h c.args.self c.args.state c.in-Evict.is c.in-0.is

pub returns-in_default-state : goal.returns-in_default-state
returns-in_default-state = grind (arith, evicted_other)

pub returns-then-state-eq-ABSENT : goal.returns-then-state-eq-ABSENT
returns-then-state-eq-ABSENT = grind (arith, read_absent)

pub returns-else-state-eq-ABSENT : goal.returns-else-state-eq-ABSENT
returns-else-state-eq-ABSENT c = search (read_other, arith)

pub returns-in_default : goal.returns-in_default
returns-in_default = grind (arith, decided)
