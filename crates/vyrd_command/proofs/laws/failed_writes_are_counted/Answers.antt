use Rattle.vyrd_command.proofs.CountLaws.{risen, alone, told, never_falls, kept}
use Rattle.vyrd_command.proofs.laws.failed_writes_are_counted.Goals as goal

pub returns-clause-rises : goal.returns-clause-rises
returns-clause-rises c = λ form input before after writes. risen before.faults after.faults
    writes.counted

pub returns-clause-alone : goal.returns-clause-alone
returns-clause-alone c = λ failed form input before after writes. alone failed before.faults
    after.faults writes.counted

pub returns-clause-told : goal.returns-clause-told
returns-clause-told c = λ failed form input before after writes. told failed before.faults
    after.faults writes.counted

pub returns-clause-never_falls : goal.returns-clause-never_falls
returns-clause-never_falls c = λ failed form input before after writes. never_falls failed
    before.faults after.faults writes.counted

pub returns-clause-sure : goal.returns-clause-sure
returns-clause-sure c = λ failed form input before after writes sure. kept failed before.faults
    after.faults writes.counted (writes.never sure)
