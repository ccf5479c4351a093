use Rattle.vyrd_log_check.proofs.Prelude.{◌≡◌, ◌+◌, ◌≤◌, ◌++◌, ℕ, List, Some, None, subst, sym}
use Rattle.vyrd_log_check.proofs.Prelude.{IfOk, OnOk, on_ok_weaker, log_verdict_so_far}
use Rattle.vyrd_log_check.proofs.Prelude.{LogCheckerState, HasChecked, Matches, log_checker_in}
use Rattle.vyrd_log_check.proofs.Prelude.{bytes_cost, checker_debt, debt_by}
use Rattle.vyrd_log_check.proofs.BeginningLaws.{other_longer}
use Rattle.vyrd_log_check.proofs.CheckedLaws.{own_answers, own_follows, first_answers}
use Rattle.vyrd_log_check.proofs.CheckedLaws.{first_follows, never_is}
use Rattle.vyrd_log_check.proofs.CostLaws.{own_paid, first_paid}
use Rattle.vyrd_log_check.proofs.checker.LogChecker.follow.Goals as goal

pub returns-in-Some-clause-answer : goal.returns-in-Some-clause-answer
returns-in-Some-clause-answer g c =
    subst (λ (s : LogCheckerState). (bytes : List ℕ) → HasChecked s bytes
    → IfOk c.feed_counted.result
    (λ v. v ≡ log_verdict_so_far s.max_lines (bytes ++ c.args.piece.now)))
    c.self.view_is
    (λ bytes h. own_answers (log_checker_in c.self.inside) c.in-Some.own bytes c.self.invariant
    c.in-Some.is h c.feed_counted.result c.args.piece.now c.feed_counted.ensures.answer)

pub returns-in-Some-clause-checked : goal.returns-in-Some-clause-checked
returns-in-Some-clause-checked g c = λ bytes checked.
    let h = subst (λ (s : LogCheckerState). HasChecked s bytes) (sym c.self.view_is) checked in
    on_ok_weaker c.feed_counted.result (λ f. record { follows = f })
    (own_follows (log_checker_in c.self.inside) c.in-Some.own bytes c.self.invariant c.in-Some.is h
    c.feed_counted.result c.args.piece.now c.feed_counted.new.self c.feed_counted.ensures.checked)

pub returns-in-None-clause-answer : goal.returns-in-None-clause-answer
returns-in-None-clause-answer g c =
    subst (λ (s : LogCheckerState). (bytes : List ℕ) → HasChecked s bytes
    → IfOk c.feed_counted-in-None.result
    (λ v. v ≡ log_verdict_so_far s.max_lines (bytes ++ c.args.piece.now)))
    c.self.view_is
    (λ bytes h.
    let state = log_checker_in c.self.inside in
    let none = c.in_default.is in
    first_answers state bytes c.self.invariant none h c.feed_counted-in-None.result c.args.piece.now
    None
    (other_longer bytes c.args.piece.now
    (never_is state bytes c.self.invariant none h c.in-None.is))
    c.feed_counted-in-None.ensures.answer)

pub returns-in-None-clause-checked : goal.returns-in-None-clause-checked
returns-in-None-clause-checked g c = λ bytes checked.
    let h = subst (λ (s : LogCheckerState). HasChecked s bytes) (sym c.self.view_is) checked in
    let state = log_checker_in c.self.inside in
    let none = c.in_default.is in
    let never = other_longer bytes c.args.piece.now
    (never_is state bytes c.self.invariant none h c.in-None.is) in
    on_ok_weaker c.feed_counted-in-None.result (λ f. record { follows = f })
    (first_follows state bytes c.self.invariant none h c.feed_counted-in-None.result
    c.args.piece.now c.self.inside.matched
    (subst (λ x. Matches x (bytes ++ c.args.piece.now)) (sym c.in-None.is) never)
    c.feed_counted-in-None.new.self c.feed_counted-in-None.ensures.checked)

pub returns-in-Some-clause-steps : goal.returns-in-Some-clause-steps
returns-in-Some-clause-steps g c = λ bytes checked.
    let h = subst (λ (s : LogCheckerState). HasChecked s bytes) (sym c.self.view_is) checked in
    let piece = c.args.piece.now in
    subst (λ (s : LogCheckerState). OnOk c.feed_counted.result (c.feed_counted.new.steps
    + debt_by c.self.inside.first (Some c.feed_counted.new.self) (bytes ++ piece)
    + bytes_cost s.max_lines bytes
    ≤ c.args.steps.now + checker_debt s bytes + bytes_cost s.max_lines (bytes ++ piece)))
    c.self.view_is
    (own_paid (log_checker_in c.self.inside) c.in-Some.own bytes c.self.invariant c.in-Some.is h
    c.feed_counted.result piece c.feed_counted.new.self c.self.inside.first c.args.steps.now
    c.feed_counted.new.steps c.feed_counted.ensures.steps)

pub returns-in-None-clause-steps : goal.returns-in-None-clause-steps
returns-in-None-clause-steps g c = λ bytes checked.
    let h = subst (λ (s : LogCheckerState). HasChecked s bytes) (sym c.self.view_is) checked in
    let state = log_checker_in c.self.inside in
    let none = c.in_default.is in
    let piece = c.args.piece.now in
    let never = other_longer bytes piece
    (never_is state bytes c.self.invariant none h c.in-None.is) in
    subst (λ (s : LogCheckerState). OnOk c.feed_counted-in-None.result
    (c.feed_counted-in-None.new.steps
    + debt_by c.feed_counted-in-None.new.self c.self.inside.own (bytes ++ piece)
    + bytes_cost s.max_lines bytes
    ≤ c.args.steps.now + checker_debt s bytes + bytes_cost s.max_lines (bytes ++ piece)))
    c.self.view_is
    (first_paid state bytes c.self.invariant none h c.feed_counted-in-None.result piece None never
    c.feed_counted-in-None.new.self c.args.steps.now c.feed_counted-in-None.new.steps
    c.feed_counted-in-None.ensures.steps)

pub returns-in-Some-matched-clause-steps : goal.returns-in-Some-matched-clause-steps
returns-in-Some-matched-clause-steps g c =
    subst (λ (s : LogCheckerState). (bytes : List ℕ) → HasChecked s bytes
    → OnOk c.match_on.result (c.match_on.new.steps
    + checker_debt c.match_on.new.self (bytes ++ c.args.piece.now) + bytes_cost s.max_lines bytes
    ≤ c.args.steps.now + checker_debt s bytes
    + bytes_cost s.max_lines (bytes ++ c.args.piece.now)))
    c.self.view_is c.match_on.ensures.steps
