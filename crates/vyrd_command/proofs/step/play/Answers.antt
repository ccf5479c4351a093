use Rattle.vyrd_command.proofs.Prelude.{◌∙◌, ap, inl, GetsStuck, HasRun, workload_of, work_scripts}
use Rattle.vyrd_command.proofs.Prelude.{work_built_in, both_ok, HasTaken}
use Rattle.vyrd_command.proofs.StepLaws.{of_match}
use Rattle.vyrd_command.proofs.TellingLaws.{of_some, tells_run}
use Rattle.vyrd_command.proofs.step.play.Goals as goal

pub new-requires : goal.new-requires
new-requires c = record { built_in = work_built_in (workload_of c.args.work) c.requires }

pub returns-in-Some : goal.returns-in-Some
returns-in-Some c =
    let w = workload_of c.args.work in
    let a = c.show_by_turns.new.sink in
    let run = of_match (GetsStuck (work_scripts w) w.turns)
    (λ words. HasRun (work_scripts w) w.turns w.header HasTaken a words.items)
    c.in_ok-show_by_turns.field-0 c.in-Some.field-0 c.in-Some.is
    c.in_ok-show_by_turns.ensures.played in
    let fixed = of_some _ c.in_ok-show_by_turns.field-0 c.in-Some.field-0 c.in-Some.is
    c.in_ok-show_by_turns.ensures.fixed in
    both_ok c.told_of.result (c.told_of.ensures.status run.history run.taken)
    (c.told_of.ensures.text run.history run.taken)
    (λ answer status text. inl
    (tells_run c.args.show w a c.in-Some.field-0.items answer.status answer.text.items c.requires
    run
    (ap (λ f. f.0) fixed ∙ c.in_ok-account.ensures.charter)
    (ap (λ f. f.1) fixed ∙ c.in_ok-account.ensures.show) status text))
