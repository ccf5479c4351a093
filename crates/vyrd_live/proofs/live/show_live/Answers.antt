-- A caller that was spent had operations whose bounds sum to more than the limit.
use Rattle.vyrd_live.proofs.Prelude.{ap, Plan, workload_of}
use Rattle.std.proofs.lemmas.Result.{IfOk-weaker}
use Rattle.vyrd_live.proofs.FreshWorkers.{both_ok, too_low_at, in_range, is_unspent}
use Rattle.vyrd_live.proofs.live.show_live.Goals as goal

pub returns-clause-too_low : goal.returns-clause-too_low
returns-clause-too_low g c =
    let w = workload_of c.args.work in
    let began = c.in_ok-traced.ensures in
    let limit = ap (λ (p : Plan). p.limit) began.plan in
    both_ok c.play_all.result c.play_all.ensures.played c.play_all.ensures.long (λ played run long.
    too_low_at w _ c.args.limit c.in_ok-traced.traced.plan.limit played.spent limit began.bounds
    long
    (in_range w.header c.in_ok-traced.traced.plan.limit _ run.history played.spent run.played))

pub returns-clause-never_spent : goal.returns-clause-never_spent
returns-clause-never_spent g c = λ is enough.
    IfOk-weaker c.play_all.result _ _ (λ played long.
    is_unspent (workload_of c.args.work) c.args.limit played.spent c.requires.limits is enough long)
    (returns-clause-too_low g c)
