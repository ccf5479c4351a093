use Rattle.vyrd_log_check.proofs.Prelude.{◌≡◌, ℕ, ◌+◌, ◌≤◌, List, subst, IfOk, log_verdict}
use Rattle.vyrd_log_check.proofs.Prelude.{LogCheckerState, HasChecked, log_checker_in, finish_cost}
use Rattle.vyrd_log_check.proofs.CheckedLaws.{own_ends, first_ends}
use Rattle.vyrd_log_check.proofs.CostLaws.{own_ended, first_ended}
use Rattle.vyrd_log_check.proofs.checker.LogChecker.finish_counted.Goals as goal

pub returns-in-Some-clause-verdict : goal.returns-in-Some-clause-verdict
returns-in-Some-clause-verdict g c =
    subst (λ (s : LogCheckerState). (bytes : List ℕ) → HasChecked s bytes
    → IfOk c.finish_counted.result (λ v. v ≡ log_verdict s.max_lines bytes))
    c.self.view_is
    (λ bytes h. own_ends (log_checker_in c.self.inside) c.in-Some.own bytes c.self.invariant
    c.in-Some.is h c.finish_counted.result c.finish_counted.ensures.verdict)

pub returns-in-None-clause-verdict : goal.returns-in-None-clause-verdict
returns-in-None-clause-verdict g c =
    subst (λ (s : LogCheckerState). (bytes : List ℕ) → HasChecked s bytes
    → IfOk c.finish_counted-in-None.result (λ v. v ≡ log_verdict s.max_lines bytes))
    c.self.view_is
    (λ bytes h. first_ends (log_checker_in c.self.inside) bytes c.self.invariant c.in-None.is h
    c.finish_counted-in-None.result c.finish_counted-in-None.ensures.verdict)

pub returns-in-Some-clause-steps : goal.returns-in-Some-clause-steps
returns-in-Some-clause-steps g c =
    subst (λ (s : LogCheckerState). (bytes : List ℕ) → HasChecked s bytes
    → c.finish_counted.new.steps ≤ c.args.steps.now + finish_cost s.max_lines bytes)
    c.self.view_is
    (λ bytes h. own_ended (log_checker_in c.self.inside) c.in-Some.own bytes c.self.invariant
    c.in-Some.is h c.args.steps.now c.finish_counted.new.steps c.finish_counted.ensures.steps)

pub returns-in-None-clause-steps : goal.returns-in-None-clause-steps
returns-in-None-clause-steps g c =
    subst (λ (s : LogCheckerState). (bytes : List ℕ) → HasChecked s bytes
    → c.finish_counted-in-None.new.steps ≤ c.args.steps.now + finish_cost s.max_lines bytes)
    c.self.view_is
    (λ bytes h. first_ended (log_checker_in c.self.inside) bytes c.self.invariant
    c.in-None.is h c.args.steps.now c.finish_counted-in-None.new.steps
    c.finish_counted-in-None.ensures.steps)
