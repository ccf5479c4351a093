use Rattle.vyrd_judge.proofs.Prelude.{ap, sym, ◌∙◌, JudgeView}
use Rattle.vyrd_judge.proofs.OnlineLaws.{stands_whole}
use Rattle.vyrd_judge.proofs.online.Judge.finish_counted.Goals as goal

pub returns-in-Some-clause-verdict : goal.returns-in-Some-clause-verdict
returns-in-Some-clause-verdict g c = λ starting log f. stands_whole
    (ap (λ (j : JudgeView). j.so_far) (sym c.self.view_is) ∙ c.in-Some.is) f
