use Rattle.vyrd_live.proofs.Prelude.{◌∙◌, rules, HasRun, GetsStuck, workload_of, work_scripts}
use Rattle.vyrd_live.proofs.Prelude.{work_built_in, not_stuck, HasRecorded}
use Rattle.vyrd_live.proofs.TurnLaws.{run_recorded, turns_accepted}
use Rattle.vyrd_live.proofs.by_turns.run_by_turns.Goals as goal

pub new-requires : goal.new-requires
new-requires g c =
    record { built_in = work_built_in (workload_of c.args.work.now) c.requires.limits }

pub returns-in-Ok-clause-played : goal.returns-in-Ok-clause-played
returns-in-Ok-clause-played g c =
    let w = workload_of c.args.work.now in
    let has_run : HasRun (work_scripts w) w.turns w.header HasRecorded c.show_turns.new.sink
    c.in-Ok.words.items = search rules in
    run_recorded w c.show_turns.new.sink c.in-Ok.words.items c.in_ok-finish-in-Ok.field-0 has_run
    (c.in-Ok.ensures.fixed ∙ c.in_ok-recording.ensures.charter)
    c.in_ok-finish-in-Ok.ensures.history c.in_ok-finish-in-Ok.ensures.words
    c.in_ok-finish-in-Ok.ensures.verdict

pub returns-in-Ok-clause-every_schedule : goal.returns-in-Ok-clause-every_schedule
returns-in-Ok-clause-every_schedule g c = λ is.
    turns_accepted (workload_of c.args.work.now) c.in_ok-finish-in-Ok.field-0 c.requires.limits is
    (returns-in-Ok-clause-played g c)

pub returns-in-Err-Stuck-clause-every_schedule : goal.returns-in-Err-Stuck-clause-every_schedule
returns-in-Err-Stuck-clause-every_schedule g c = λ is.
    let w = workload_of c.args.work.now in
    let stuck : GetsStuck (work_scripts w) c.args.work.now.turns.items = search rules in
    not_stuck w c.requires.limits is stuck
