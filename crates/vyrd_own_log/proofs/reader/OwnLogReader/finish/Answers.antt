use Rattle.vyrd_own_log.proofs.Prelude.{subst, IsAnswer, state_in}
use Rattle.vyrd_own_log.proofs.ReadLaws.{end_fault_is, end_alike, end_ended}
use Rattle.vyrd_own_log.proofs.reader.OwnLogReader.finish.Goals as goal

pub returns-clause-answer : goal.returns-clause-answer
returns-clause-answer c = λ bytes has.
    subst (λ f. IsAnswer c.finish.result f) (end_fault_is (state_in c.args.self.now) bytes has)
    c.finish.ensures

pub returns-clause-ended : goal.returns-clause-ended
returns-clause-ended c = λ bytes has. end_ended (state_in c.args.self.now) bytes has c.finish.result
    c.finish.ensures

pub returns-clause-alike : goal.returns-clause-alike
returns-clause-alike c = λ bytes has. end_alike (state_in c.args.self.now) bytes has
