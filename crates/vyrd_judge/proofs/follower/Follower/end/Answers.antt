use Rattle.vyrd_judge.proofs.Prelude.{ap, subst, sym, ◌∙◌, rules_by, newest_first, verdict}
use Rattle.vyrd_judge.proofs.Prelude.{FollowerKept, IsFaultless}
use Rattle.vyrd_judge.proofs.FollowerLaws.{end_open, end_accepted, open_by}
use Rattle.vyrd_judge.proofs.follower.Follower.end.Goals as goal

pub returns-then-is_err-clause-verdict : goal.returns-then-is_err-clause-verdict
returns-then-is_err-clause-verdict g c = λ starting log f.
    let was = subst (λ k. IsFaultless k starting log) (sym c.self.view_is) f in
    let opened = open_by _ c.end_counted.result (c.end_counted.ensures.end (newest_first log)
    was.taken_in.shape) in
    cc (end_open was (sym opened ∙ sym c.is_err.ensures.value ∙ c.if-is_err.true), c.self.view_is)

pub returns-clause-verdict : goal.returns-clause-verdict
returns-clause-verdict g c = λ starting log f.
    let was = subst (λ k. IsFaultless k starting log) (sym c.self.view_is) f in
    let opened = open_by _ c.end_counted.result (c.end_counted.ensures.end (newest_first log)
    was.taken_in.shape) in
    end_accepted was (sym opened ∙ sym c.is_err.ensures.value ∙ c.if-is_err.false)
    ∙ ap (λ (k : FollowerKept). verdict (rules_by k.charter) starting log) c.self.view_is
