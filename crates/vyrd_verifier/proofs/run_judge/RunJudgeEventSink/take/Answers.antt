use Rattle.std.proofs.Common.{◌∙◌, [], refl, sym, subst}
use Rattle.vyrd_base.specs.Histories.{log_of}
use Rattle.vyrd_verifier.specs.Judging.{HasJudged}
use Rattle.vyrd_verifier.proofs.JudgeLaws.{judged_with, judged_without}
use Rattle.vyrd_verifier.proofs.run_judge.RunJudgeEventSink.take.Goals as goal

pub returns-in_ok-feed-clause-taken : goal.returns-in_ok-feed-clause-taken
returns-in_ok-feed-clause-taken c = λ history judged.
    let before = subst (λ j. HasJudged j history) (sym c.self.view_is) judged in
    judged_with _ _ history c.args.event c.in-Some.entry (sym c.entry_of.ensures ∙ c.in-Some.is)
    (c.in_ok-feed.ensures.followed [] (log_of history) before.followed) refl before

pub returns-in_default-clause-taken : goal.returns-in_default-clause-taken
returns-in_default-clause-taken c = λ history judged.
    judged_without _ _ history c.args.event (sym c.entry_of.ensures ∙ c.in_default.is) refl refl
    (subst (λ j. HasJudged j history) (sym c.self.view_is) judged)
