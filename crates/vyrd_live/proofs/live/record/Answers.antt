-- A caller that was spent had operations whose bounds sum to more than the limit.
use Rattle.vyrd_live.proofs.Prelude.{ap, Plan, workload_of, work_built_in}
use Rattle.vyrd_live.proofs.FreshWorkers.{both_ok, too_low_at, in_range}
use Rattle.vyrd_live.proofs.live.record.Goals as goal

pub new-requires : goal.new-requires
new-requires g c =
    record { built_in = work_built_in (workload_of c.args.work.now) c.requires.limits }

pub returns-clause-too_low : goal.returns-clause-too_low
returns-clause-too_low g c =
    let w = workload_of c.args.work.now in
    let began = c.in_ok-traced.ensures in
    let limit = ap (λ (p : Plan). p.limit) began.plan in
    both_ok c.play_all.result c.play_all.ensures.played c.play_all.ensures.long (λ played run long.
    too_low_at w _ c.args.limit c.in_ok-traced.traced.plan.limit played.spent limit began.bounds
    long
    (in_range w.header c.in_ok-traced.traced.plan.limit _ run.history played.spent run.played))
