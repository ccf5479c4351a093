use Rattle.vyrd_check.proofs.Prelude.{ap, subst, sym, ◌∙◌, IsLimit, CheckerState}
use Rattle.vyrd_check.proofs.CheckedLaws.{checked_whole}
use Rattle.vyrd_check.proofs.checker.Checker.finish_counted.Goals as goal

pub returns-in-Some-clause-verdict : goal.returns-in-Some-clause-verdict
returns-in-Some-clause-verdict g c = λ bytes checked.
    checked_whole c.args.self.now bytes c.in-Some.verdict
    (subst (λ (k : CheckerState). IsLimit k.kept.reader.max_lines) c.self.view_is
    c.self.invariant.limit)
    (ap (λ (k : CheckerState). k.so_far) (sym c.self.view_is) ∙ c.in-Some.is) checked
