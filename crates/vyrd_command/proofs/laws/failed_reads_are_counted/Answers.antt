use Rattle.vyrd_command.proofs.CountLaws.{risen, alone, told, never_falls, kept}
use Rattle.vyrd_command.proofs.laws.failed_reads_are_counted.Goals as goal

pub returns-clause-rises : goal.returns-clause-rises
returns-clause-rises c = λ before after reads. risen before.faults after.faults reads.counted

pub returns-clause-alone : goal.returns-clause-alone
returns-clause-alone c = λ failed before after reads. alone failed before.faults after.faults
    reads.counted

pub returns-clause-told : goal.returns-clause-told
returns-clause-told c = λ failed before after reads. told failed before.faults after.faults
    reads.counted

pub returns-clause-never_falls : goal.returns-clause-never_falls
returns-clause-never_falls c = λ failed before after reads. never_falls failed before.faults
    after.faults reads.counted

pub returns-clause-sure : goal.returns-clause-sure
returns-clause-sure c = λ failed before after reads sure. kept failed before.faults after.faults
    reads.counted (reads.never sure)
