-- The workers are those of the workload, and none has begun.
use Rattle.vyrd_live.proofs.Prelude.{◌≡◌, length, ap, ◌∙◌, sym, rules, Plan, workload_of}
use Rattle.vyrd_live.proofs.FreshWorkers.{all_fresh, all_callers, scripts_are, all_made, bounds_are}
use Rattle.vyrd_live.proofs.live.begin.Goals as goal

pub returns-clause-fresh : goal.returns-clause-fresh
returns-clause-fresh g c =
    let plan = c.in_ok-traced.ensures.plan in
    all_fresh g.M.Machine.header_of g.M.Machine.script g.M.Machine.ahead c.in_ok-traced.traced
    (workload_of c.args.work.now)
    c.in_ok-workers.workers.items c.in_ok-traced.hands.items c.in_ok-traced.ensures.hands
    c.in_ok-workers.ensures.hands c.in_ok-workers.ensures.made
    (record {
      plain = ap (λ (p : Plan). p.plain) plan ∙ c.plain_words.ensures;
      locks = ap (λ (p : Plan). p.locks) plan ∙ c.lock_words.ensures;
    })

pub returns-clause-hands : goal.returns-clause-hands
returns-clause-hands g c =
    let count : length c.in_ok-traced.hands.items ≡ c.callers.result = search rules in
    all_callers c.in_ok-traced.traced c.in_ok-workers.workers.items c.in_ok-traced.hands.items
    c.in_ok-traced.ensures.hands
    (count ∙ sym (ap (λ (p : Plan). p.callers) c.in_ok-traced.ensures.plan))
    c.in_ok-workers.ensures.hands

pub returns-clause-made : goal.returns-clause-made
returns-clause-made g c =
    let count : length c.in_ok-traced.hands.items ≡ c.args.work.now.header.callers = search rules in
    all_made g.M.Machine.header_of g.M.Machine.script g.M.Machine.ahead
    (workload_of c.args.work.now)
    c.in_ok-workers.workers.items c.in_ok-traced.hands.items c.in_ok-workers.ensures.hands
    c.in_ok-workers.ensures.made count

pub returns-clause-scripts : goal.returns-clause-scripts
returns-clause-scripts g c =
    let count : length c.in_ok-traced.hands.items ≡ c.args.work.now.header.callers = search rules in
    scripts_are g.M.Machine.header_of g.M.Machine.script g.M.Machine.ahead c.in_ok-traced.traced
    (workload_of c.args.work.now)
    c.in_ok-workers.workers.items c.in_ok-traced.hands.items c.in_ok-traced.ensures.hands
    c.in_ok-workers.ensures.hands c.in_ok-workers.ensures.made count

pub returns-clause-bounds : goal.returns-clause-bounds
returns-clause-bounds g c =
    let count : length c.in_ok-traced.hands.items ≡ c.args.work.now.header.callers = search rules in
    bounds_are g.M.Machine.header_of g.M.Machine.script g.M.Machine.ahead c.in_ok-traced.traced
    (workload_of c.args.work.now)
    c.in_ok-workers.workers.items c.in_ok-traced.hands.items c.in_ok-traced.ensures.hands
    c.in_ok-workers.ensures.hands c.in_ok-workers.ensures.made count
