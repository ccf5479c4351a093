use Rattle.vyrd_live.proofs.Prelude.{◌≡◌, ◌<◌, map, All, HandView, workload_of, IsWorkerOf}
use Rattle.vyrd_live.proofs.live.workers_of.Given as goal

-- the workers of the hands before this one
abbrev pub invariant-loop-hand : goal.invariant-loop-hand
invariant-loop-hand g l = record {
  left : All (λ (h : HandView). h.caller < l.work.header.callers) l.hand-iterator.rest.items;
  hands : map (λ w. w.hand) l.workers.items ≡ l.yielded;
  made : All (λ w. IsWorkerOf g.M.Machine.header_of g.M.Machine.script g.M.Machine.ahead
      (workload_of l.work) w.machine w.hand) l.workers.items;
}
