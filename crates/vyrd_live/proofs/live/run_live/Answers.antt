-- A correct structure is accepted in every schedule, and where its operations have few events its
-- callers have room for them.
use Rattle.vyrd_live.proofs.Prelude.{◌≡◌, ℕ, [], Some, None, ap, ◌∙◌, sym, subst, log_of, rules_by}
use Rattle.vyrd_live.proofs.Prelude.{accepted, verdict, workload_of, work_scripts}
use Rattle.vyrd_live.proofs.Prelude.{schedule_accepted, HavePlayed}
use Rattle.vyrd_live.proofs.FreshWorkers.{is_unspent}
use Rattle.vyrd_live.proofs.live.run_live.Goals as goal

is_none : (caller : ℕ) → None ≡ Some caller → ⊥
is_none caller e = cc

pub returns-in-Some-clause-never_spent : goal.returns-in-Some-clause-never_spent
returns-in-Some-clause-never_spent g c = λ is enough.
    let none = is_unspent (workload_of c.args.work.now) c.args.limit c.in-Ok.played.spent
    c.requires.limits is enough c.in-Ok.ensures.too_low in
    absurd (is_none c.in-Some.caller (sym none ∙ c.in-Some.is))

pub returns-in-Ok-finish-clause-every_schedule : goal.returns-in-Ok-finish-clause-every_schedule
returns-in-Ok-finish-clause-every_schedule g c = λ is.
    let w = workload_of c.args.work.now in
    let run = c.in-Ok.ensures.run in
    let played =
    subst (λ spent. HavePlayed w.header c.args.limit (work_scripts w) run.history spent)
    c.in_default-spent.is run.played in
    c.in-Ok-finish.ensures.verdict run.history run.taken
    ∙ ap (λ k. verdict (rules_by k) [] (log_of run.history)) c.in-Ok.ensures.charter
    ∙ schedule_accepted w run.history c.requires.limits is
    (record { legal = run.legal; parts = played.0 })
    ∙ ap (λ h. accepted (log_of h)) (sym (c.in-Ok-finish.ensures.history ∙ run.taken.kept))
