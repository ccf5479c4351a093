use Rattle.vyrd_command.proofs.Prelude.{◌∙◌, ◌<◌, ap, subst, inl, inr, Some, None, IfSome}
use Rattle.vyrd_command.proofs.Prelude.{bounds_of, workload_of, ops_of, work_scripts, LeavesRun}
use Rattle.vyrd_command.proofs.Prelude.{work_built_in, both_ok, HasTaken}
use Rattle.vyrd_command.proofs.TellingLaws.{tells_live}
use Rattle.vyrd_command.proofs.run.play.Goals as goal

pub new-requires : goal.new-requires
new-requires g c = record { built_in = work_built_in (workload_of c.args.work) c.requires.limits }

pub returns : goal.returns
returns g c = λ most.
    let w = workload_of c.args.work in
    let played = c.in_ok-played.played in
    let fixed = c.in_ok-played.ensures.fixed in
    let run = subst
    (λ limit. LeavesRun w.header limit (work_scripts w) HasTaken played.sink played.words.items
    None) most
    (subst (λ spent. LeavesRun w.header c.args.limit (work_scripts w) HasTaken played.sink
    played.words.items spent) c.in-None.is
    c.in_ok-played.ensures.run) in
    both_ok c.told_of.result (c.told_of.ensures.status run.history run.taken)
    (c.told_of.ensures.text run.history run.taken)
    (λ answer status text. inl
    (tells_live c.args.show w played.sink played.words.items answer.status answer.text.items
    c.requires.limits run
    (ap (λ f. f.0) fixed ∙ c.in_ok-account.ensures.charter)
    (ap (λ f. f.1) fixed ∙ c.in_ok-account.ensures.show) status text))

pub returns-in-Some : goal.returns-in-Some
returns-in-Some g c = λ most.
    let w = workload_of c.args.work in
    let played = c.in_ok-played.played in
    let run = subst
    (λ limit. LeavesRun w.header limit (work_scripts w) HasTaken played.sink played.words.items
    (Some c.in-Some.caller)) most
    (subst (λ spent. LeavesRun w.header c.args.limit (work_scripts w) HasTaken played.sink
    played.words.items spent) c.in-Some.is
    c.in_ok-played.ensures.run) in
    let low = subst (λ limit. limit < bounds_of w.header (ops_of c.in-Some.caller w.ops)) most
    (subst (λ spent. IfSome spent
    (λ caller. c.args.limit < bounds_of w.header (ops_of caller w.ops))) c.in-Some.is
    c.in_ok-played.ensures.too_low) in
    both_ok c.overrun.result c.overrun.ensures.status c.overrun.ensures.text
    (λ answer status text. inr (record {
      caller = c.in-Some.caller;
      history = run.history;
      legal = run.legal;
      overrun = run.played;
      too_low = low;
      status_is = status;
      text_is = text;
    }))
