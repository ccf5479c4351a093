use Rattle.vyrd_judge.proofs.Prelude.{◌+◌, ◌≤◌, ◌∷◌, ◌++◌, [], Ok, ap, sym, subst, ◌∙◌, ∥∥₁_map}
use Rattle.vyrd_judge.proofs.Prelude.{JudgeView, HasFollowed, debt, debt_after, entry_cost}
use Rattle.vyrd_judge.proofs.OnlineLaws.{faultless_of}
use Rattle.vyrd_judge.proofs.online.Judge.take.Goals as goal

pub take_in-requires-clause-somewhere : goal.take_in-requires-clause-somewhere
take_in-requires-clause-somewhere g c =
    c.self.invariant (ap (λ (j : JudgeView). j.has_failed) c.self.view_is ∙ c.requires.works)
    (ap (λ (j : JudgeView). j.so_far) c.self.view_is ∙ c.requires.undecided)

pub invariant_of-self : goal.invariant_of-self
invariant_of-self g c = λ works none.
    ∥∥₁_map (c.self.invariant (ap (λ (j : JudgeView). j.has_failed) c.self.view_is
    ∙ c.requires.works) (ap (λ (j : JudgeView). j.so_far) c.self.view_is ∙ c.requires.undecided))
    (λ s. (
      s.0,
      s.1 ++ c.args.entry ∷ [],
      c.in-Ok-None.ensures.follows s.0 s.1 s.2
          (ap Ok c.in-Ok-None.field-0-is),
    ))

pub returns-in-Ok-None-clause-steps : goal.returns-in-Ok-None-clause-steps
returns-in-Ok-None-clause-steps g c = λ starting log f.
    let kept = c.self.inside.follower in
    let more = log ++ c.args.entry ∷ [] in
    let none = ap (λ (j : JudgeView). j.so_far) c.self.view_is ∙ c.requires.undecided in
    rw (← c.self.view_is)
    (rw none
    (subst (λ v. c.take_in.new.steps + debt_after g.S.Compared.Compare.price g.S.Spec.most_touched v
    c.take_in.new.self more
    ≤ c.args.steps.now + debt g.S.Compared.Compare.price g.S.Spec.most_touched kept log
    + entry_cost g.S.Compared.Compare.price g.S.Spec.most_touched kept c.args.entry)
    c.in-Ok-None.field-0-is (c.in-Ok-None.ensures.steps starting log (faultless_of none (subst
    (λ j. HasFollowed j starting log) (sym c.self.view_is) f)))))

pub returns-in-Ok-Some-clause-steps : goal.returns-in-Ok-Some-clause-steps
returns-in-Ok-Some-clause-steps g c = λ starting log f.
    let kept = c.self.inside.follower in
    let more = log ++ c.args.entry ∷ [] in
    let none = ap (λ (j : JudgeView). j.so_far) c.self.view_is ∙ c.requires.undecided in
    rw (← c.self.view_is)
    (rw none
    (subst (λ v. c.take_in.new.steps + debt_after g.S.Compared.Compare.price g.S.Spec.most_touched v
    c.take_in.new.self more
    ≤ c.args.steps.now + debt g.S.Compared.Compare.price g.S.Spec.most_touched kept log
    + entry_cost g.S.Compared.Compare.price g.S.Spec.most_touched kept c.args.entry)
    c.in-Ok-Some.field-0-is (c.in-Ok-Some.ensures.steps starting log (faultless_of none (subst
    (λ j. HasFollowed j starting log) (sym c.self.view_is) f)))))
