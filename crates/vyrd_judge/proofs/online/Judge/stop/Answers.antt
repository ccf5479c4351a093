use Rattle.vyrd_judge.proofs.Prelude.{ap, sym, ◌∙◌, unwrap_or, Malformed, JudgeView}
use Rattle.vyrd_judge.proofs.OnlineLaws.{none_stands}
use Rattle.vyrd_judge.proofs.online.Judge.stop.Goals as goal

pub returns-in-None-clause-verdict : goal.returns-in-None-clause-verdict
returns-in-None-clause-verdict g c = λ starting log f.
    sym (ap (λ o. unwrap_or o (Malformed c.args.line c.args.rule))
    (none_stands (ap (λ (j : JudgeView). j.so_far) (sym c.self.view_is) ∙ c.in-None.is) f))
