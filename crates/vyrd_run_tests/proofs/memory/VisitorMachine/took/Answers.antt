use Rattle.vyrd_run_tests.specs.Laws.Visits.{visit_goes_on}
use Rattle.vyrd_run_tests.proofs.memory.VisitorMachine.took.Goals as goal

pub returns-clause-script : goal.returns-clause-script
returns-clause-script c = visit_goes_on c.args.self.now.crosses c.args.self.now.done c.args._answer
