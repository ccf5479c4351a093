use Rattle.vyrd_log_check.proofs.Prelude.{◌≡◌, ◌+◌, ◌≤◌, ◌++◌, ℕ, List, Some, None, ap, subst, sym}
use Rattle.vyrd_log_check.proofs.Prelude.{◌∙◌, IfOk, OnOk, on_ok_weaker, log_verdict_so_far}
use Rattle.vyrd_log_check.proofs.Prelude.{LogCheckerState, HasChecked, log_checker_in, bytes_cost}
use Rattle.vyrd_log_check.proofs.Prelude.{checker_debt, debt_by}
use Rattle.vyrd_log_check.proofs.BeginningLaws.{is_place, isnt_place, matches_on}
use Rattle.vyrd_log_check.proofs.CheckedLaws.{matched_is, first_answers, first_follows}
use Rattle.vyrd_log_check.proofs.CheckedLaws.{started_answers, started_follows}
use Rattle.vyrd_log_check.proofs.CostLaws.{started_paid, first_paid}
use Rattle.vyrd_log_check.proofs.checker.LogChecker.match_on.Goals as goal

pub returns-then-eq-clause-answer : goal.returns-then-eq-clause-answer
returns-then-eq-clause-answer g c =
    subst (λ (s : LogCheckerState). (bytes : List ℕ) → HasChecked s bytes
    → c.in_ok-own.verdict ≡ log_verdict_so_far s.max_lines (bytes ++ c.args.piece.now))
    c.self.view_is
    (λ bytes h.
    let state = log_checker_in c.self.inside in
    let none : state.own ≡ None = ap (λ (s : LogCheckerState). s.own) c.self.view_is
    ∙ c.requires.no_own in
    let place : state.matched ≡ Some c.args.matched = ap (λ (s : LogCheckerState). s.matched)
    c.self.view_is ∙ c.requires.matched in
    started_answers state bytes c.self.invariant none h c.args.matched c.args.piece.now
    c.split_at.result.1.now place
    (sym c.match_on-now.ensures ∙ is_place c.match_on-now.result 11 c.if-eq.ensures)
    c.split_at.ensures.back
    c.in_ok-own.verdict c.in_ok-own.ensures.answer)

pub returns-then-eq-clause-checked : goal.returns-then-eq-clause-checked
returns-then-eq-clause-checked g c = λ bytes checked.
    let state = log_checker_in c.self.inside in
    let h = subst (λ (s : LogCheckerState). HasChecked s bytes) (sym c.self.view_is) checked in
    let none : state.own ≡ None = ap (λ (s : LogCheckerState). s.own) c.self.view_is
    ∙ c.requires.no_own in
    let place : state.matched ≡ Some c.args.matched = ap (λ (s : LogCheckerState). s.matched)
    c.self.view_is ∙ c.requires.matched in
    record {
      follows = started_follows state bytes c.self.invariant none h c.args.matched c.args.piece.now
          c.split_at.result.1.now place
          (sym c.match_on-now.ensures ∙ is_place c.match_on-now.result 11 c.if-eq.ensures)
          c.split_at.ensures.back
          c.in_ok-own.own c.in_ok-own.ensures.checked;
    }

pub returns-clause-answer : goal.returns-clause-answer
returns-clause-answer g c =
    subst (λ (s : LogCheckerState). (bytes : List ℕ) → HasChecked s bytes
    → IfOk c.feed_counted.result
    (λ v. v ≡ log_verdict_so_far s.max_lines (bytes ++ c.args.piece.now)))
    c.self.view_is
    (λ bytes h.
    let state = log_checker_in c.self.inside in
    let none : state.own ≡ None = ap (λ (s : LogCheckerState). s.own) c.self.view_is
    ∙ c.requires.no_own in
    let place : state.matched ≡ Some c.args.matched = ap (λ (s : LogCheckerState). s.matched)
    c.self.view_is ∙ c.requires.matched in
    let m = matches_on c.args.matched bytes c.args.piece.now c.match_on-now.result
    (matched_is state bytes c.self.invariant none h c.args.matched place) c.match_on-now.ensures
    (isnt_place c.match_on-now.result 11 c.if-eq.ensures) in
    first_answers state bytes c.self.invariant none h c.feed_counted.result c.args.piece.now
    c.match_on-now.result m c.feed_counted.ensures.answer)

pub returns-clause-checked : goal.returns-clause-checked
returns-clause-checked g c = λ bytes checked.
    let state = log_checker_in c.self.inside in
    let h = subst (λ (s : LogCheckerState). HasChecked s bytes) (sym c.self.view_is) checked in
    let none : state.own ≡ None = ap (λ (s : LogCheckerState). s.own) c.self.view_is
    ∙ c.requires.no_own in
    let place : state.matched ≡ Some c.args.matched = ap (λ (s : LogCheckerState). s.matched)
    c.self.view_is ∙ c.requires.matched in
    let m = matches_on c.args.matched bytes c.args.piece.now c.match_on-now.result
    (matched_is state bytes c.self.invariant none h c.args.matched place) c.match_on-now.ensures
    (isnt_place c.match_on-now.result 11 c.if-eq.ensures) in
    on_ok_weaker c.feed_counted.result (λ f. record { follows = f })
    (first_follows state bytes c.self.invariant none h c.feed_counted.result c.args.piece.now
    c.match_on-now.result m c.feed_counted.new.self c.feed_counted.ensures.checked)

pub returns-then-eq-clause-steps : goal.returns-then-eq-clause-steps
returns-then-eq-clause-steps g c = λ bytes checked.
    let state = log_checker_in c.self.inside in
    let h = subst (λ (s : LogCheckerState). HasChecked s bytes) (sym c.self.view_is) checked in
    let none : state.own ≡ None = ap (λ (s : LogCheckerState). s.own) c.self.view_is
    ∙ c.requires.no_own in
    let place : state.matched ≡ Some c.args.matched = ap (λ (s : LogCheckerState). s.matched)
    c.self.view_is ∙ c.requires.matched in
    let piece = c.args.piece.now in
    let paid = started_paid state bytes c.self.invariant none h c.args.matched piece
    c.split_at.result.1.now place
    (sym c.match_on-now.ensures ∙ is_place c.match_on-now.result 11 c.if-eq.ensures)
    c.split_at.ensures.back c.in_ok-own.own c.self.inside.first c.args.steps.now
    c.start_own.new.steps c.in_ok-own.ensures.steps in
    subst (λ (s : LogCheckerState). c.start_own.new.steps
    + debt_by c.self.inside.first (Some c.in_ok-own.own) (bytes ++ piece)
    + bytes_cost s.max_lines bytes
    ≤ c.args.steps.now + checker_debt s bytes + bytes_cost s.max_lines (bytes ++ piece))
    c.self.view_is paid

pub returns-clause-steps : goal.returns-clause-steps
returns-clause-steps g c = λ bytes checked.
    let state = log_checker_in c.self.inside in
    let h = subst (λ (s : LogCheckerState). HasChecked s bytes) (sym c.self.view_is) checked in
    let none : state.own ≡ None = ap (λ (s : LogCheckerState). s.own) c.self.view_is
    ∙ c.requires.no_own in
    let place : state.matched ≡ Some c.args.matched = ap (λ (s : LogCheckerState). s.matched)
    c.self.view_is ∙ c.requires.matched in
    let piece = c.args.piece.now in
    let m = matches_on c.args.matched bytes piece c.match_on-now.result
    (matched_is state bytes c.self.invariant none h c.args.matched place) c.match_on-now.ensures
    (isnt_place c.match_on-now.result 11 c.if-eq.ensures) in
    subst (λ (s : LogCheckerState). OnOk c.feed_counted.result (c.feed_counted.new.steps
    + debt_by c.feed_counted.new.self c.self.inside.own (bytes ++ piece)
    + bytes_cost s.max_lines bytes
    ≤ c.args.steps.now + checker_debt s bytes + bytes_cost s.max_lines (bytes ++ piece)))
    c.self.view_is
    (first_paid state bytes c.self.invariant none h c.feed_counted.result piece
    c.match_on-now.result m c.feed_counted.new.self c.args.steps.now c.feed_counted.new.steps
    c.feed_counted.ensures.steps)
