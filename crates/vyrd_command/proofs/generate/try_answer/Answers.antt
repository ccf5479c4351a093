use Rattle.vyrd_command.proofs.Prelude.{◌∙◌, ap, subst, inl, GetsStuck, HasRun, workload_of}
use Rattle.vyrd_command.proofs.Prelude.{work_scripts, work_built_in, both_ok, HasTaken, CountsRun}
use Rattle.vyrd_command.proofs.StepLaws.{of_match}
use Rattle.vyrd_command.proofs.TellingLaws.{of_some, counts_run}
use Rattle.vyrd_command.proofs.generate.try_answer.Goals as goal

pub new-requires : goal.new-requires
new-requires c =
    record { built_in = work_built_in (workload_of c.in_ok-work.work) c.in_ok-work.ensures.limits }

pub returns-in-Some : goal.returns-in-Some
returns-in-Some c =
    let w = workload_of c.in_ok-work.work in
    let a = c.show_by_turns.new.sink in
    let run = of_match (GetsStuck (work_scripts w) w.turns)
    (λ words. HasRun (work_scripts w) w.turns w.header HasTaken a words.items)
    c.in_ok-show_by_turns.field-0 c.in-Some.field-0 c.in-Some.is
    c.in_ok-show_by_turns.ensures.played in
    let fixed = of_some _ c.in_ok-show_by_turns.field-0 c.in-Some.field-0 c.in-Some.is
    c.in_ok-show_by_turns.ensures.fixed in
    both_ok c.generated.result (c.generated.ensures.status run.history run.taken)
    (c.generated.ensures.text run.history run.taken)
    (λ answer status text. inl
    (subst (λ w. CountsRun c.args.count w answer.status answer.text.items) c.in_ok-work.ensures.work
    (counts_run c.args.count w a c.in-Some.field-0.items answer.status answer.text.items
    c.in_ok-work.ensures.limits run
    (ap (λ f. f.0) fixed ∙ c.in_ok-account.ensures.charter) status text)))
