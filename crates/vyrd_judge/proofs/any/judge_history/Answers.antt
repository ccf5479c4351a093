use Rattle.vyrd_judge.proofs.Prelude.{◌≡◌, [], subst, ◌∙◌, IfOk, rules_by, verdict, log_of}
use Rattle.vyrd_judge.proofs.any.judge_history.Goals as goal

pub returns : goal.returns
returns c = subst
    (λ l. IfOk c.finish.result (λ v. v ≡ verdict (rules_by l) [] (log_of c.args.history.now)))
    (c.follow_history.ensures.charter ∙ c.in_ok-judge.ensures.charter)
    (c.finish.ensures.verdict [] (log_of c.args.history.now)
    (c.in_ok-follow_history.ensures.followed [] [] c.in_ok-judge.ensures.followed))
