use Rattle.std.proofs.Common.{◌∙◌, ap}
use Rattle.vyrd_judge.proofs.OnlineLaws.{so_far_is_known}
use Rattle.vyrd_verifier.proofs.run_judge.RunJudge.so_far.Goals as goal

pub returns : goal.returns
returns c = λ history judged. c.so_far.ensures ∙ ap (λ j. j.judge.so_far) c.self.view_is
    ∙ so_far_is_known judged.followed
