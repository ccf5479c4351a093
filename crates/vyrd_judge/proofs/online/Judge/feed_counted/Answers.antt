use Rattle.vyrd_judge.proofs.Prelude.{◌∷◌, ◌++◌, [], ap, sym, ◌∙◌, JudgeView, entry_cost}
use Rattle.vyrd_judge.proofs.CostLaws.{stands_paid}
use Rattle.vyrd_judge.proofs.OnlineLaws.{stands_on, followed_on}
use Rattle.vyrd_judge.proofs.online.Judge.feed_counted.Goals as goal

pub returns-in-Some-clause-answer : goal.returns-in-Some-clause-answer
returns-in-Some-clause-answer g c = λ starting log f. stands_on (c.args.entry ∷ [])
    (ap (λ (j : JudgeView). j.so_far) (sym c.self.view_is) ∙ c.in-Some.is) f

pub returns-in-Some-clause-followed : goal.returns-in-Some-clause-followed
returns-in-Some-clause-followed g c = λ starting log f. followed_on (c.args.entry ∷ [])
    (ap (λ (j : JudgeView). j.so_far) (sym c.self.view_is) ∙ c.in-Some.is) f

pub returns-in-Some-clause-steps : goal.returns-in-Some-clause-steps
returns-in-Some-clause-steps g c = λ starting log f.
    stands_paid g.S.Compared.Compare.price g.S.Spec.most_touched c.args.self.now c.args.steps.now
    (entry_cost g.S.Compared.Compare.price g.S.Spec.most_touched c.args.self.now.kept c.args.entry)
    log
    (log ++ c.args.entry ∷ [])
    (ap (λ (j : JudgeView). j.so_far) (sym c.self.view_is) ∙ c.in-Some.is)
