use Rattle.vyrd_live.proofs.Prelude.{rules, GetsStuck, workload_of, work_scripts, not_stuck}
use Rattle.vyrd_live.proofs.by_turns.show_by_turns.Goals as goal

pub returns-in-Err-Stuck-clause-ends : goal.returns-in-Err-Stuck-clause-ends
returns-in-Err-Stuck-clause-ends g c = λ is.
    let w = workload_of c.args.work in
    let stuck : GetsStuck (work_scripts w) c.args.work.turns.items = search rules in
    absurd (not_stuck w c.requires.limits is stuck)
