use Rattle.vyrd_own_check.specs.CheckerView.{checker_in}
use Rattle.vyrd_own_check.proofs.CheckedLaws.{checked_whole}
use Rattle.vyrd_own_check.proofs.checker.OwnChecker.finish_counted.Goals as goal

pub returns-in-Some-clause-verdict : goal.returns-in-Some-clause-verdict
returns-in-Some-clause-verdict g c = λ bytes checked.
    checked_whole (checker_in c.args.self.now) bytes c.in-Some.verdict c.args.self.now.sound.limit
    c.in-Some.is checked
