use Rattle.vyrd_mover.specs.HistoryReading.{history_reading}
use Rattle.vyrd_command.proofs.MoversLaws.{told_is_answered}
use Rattle.vyrd_command.proofs.movers.answer_of.Goals as goal

pub returns-in-Ok : goal.returns-in-Ok
returns-in-Ok c = λ bytes read.
    told_is_answered c.tell.result (history_reading bytes) c.in-Ok.said
    (c.in-Ok.ensures.said bytes read) c.tell.ensures.status c.tell.ensures.text
