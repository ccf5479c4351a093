use Rattle.vyrd_own_check.proofs.Prelude.{◌+◌, ◌≤◌, Some, subst, ◌∙◌, sym, IsReady, IsJudging}
use Rattle.vyrd_own_check.proofs.Prelude.{judge_owes, following_cost}
use Rattle.std.specs.Prelude.{OnOk}
use Rattle.vyrd_own_check.proofs.CostLaws.{still_none}
use Rattle.vyrd_own_check.proofs.PieceLaws.{wrong_without, still_without}
use Rattle.vyrd_own_check.proofs.text_judge.judge_entries.Goals as goal

pub returns-in-Some-clause-judging : goal.returns-in-Some-clause-judging
returns-in-Some-clause-judging g c = λ read log ready.
    c.follow.ensures.judging read log
    (subst (λ judge. IsReady judge read log c.args.entries.now c.args.ended) c.in-Some.is ready)

pub returns-in-None-clause-answer : goal.returns-in-None-clause-answer
returns-in-None-clause-answer g c = λ read log ready.
    c.wrong_start.ensures
    ∙ wrong_without read log c.args.entries.now c.args.ended
    (subst (λ judge. IsReady judge read log c.args.entries.now c.args.ended) c.in-None.is ready)

pub returns-in-None-clause-judging : goal.returns-in-None-clause-judging
returns-in-None-clause-judging g c = λ read log ready none.
    subst (λ judge. IsJudging judge read) (sym c.in-None.is)
    (still_without read log c.args.entries.now c.args.ended
    (subst (λ judge. IsReady judge read log c.args.entries.now c.args.ended) c.in-None.is ready)
    (sym c.wrong_start.ensures ∙ none))

pub returns-in-Some-clause-steps : goal.returns-in-Some-clause-steps
returns-in-Some-clause-steps g c = λ read log.
    subst (λ o. IsReady o read log c.args.entries.now c.args.ended
    → OnOk c.follow.result (c.follow.new.steps
    + judge_owes (Some c.follow.new.judge) read.entries
    ≤ c.args.steps.now + judge_owes o log
    + following_cost o c.args.entries.now c.args.ended))
    (sym c.in-Some.is) (c.follow.ensures.steps read log)

pub returns-in-None-clause-steps : goal.returns-in-None-clause-steps
returns-in-None-clause-steps g c = λ read log ready.
    still_none c.args.judge.now read log c.args.entries.now c.args.ended c.args.steps.now
    c.in-None.is
