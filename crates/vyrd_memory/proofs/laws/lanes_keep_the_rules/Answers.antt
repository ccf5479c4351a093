use Rattle.vyrd_memory.proofs.LaneLaws.{lane_keeps, lane_is_closed}
use Rattle.vyrd_memory.proofs.laws.lanes_keep_the_rules.Goals as goal

pub returns-clause-kept : goal.returns-clause-kept
returns-clause-kept c = λ h caller script history low sound plays small. lane_keeps h caller script
    history low sound plays small

pub returns-clause-closed : goal.returns-clause-closed
returns-clause-closed c = λ h caller script history low sound plays small. lane_is_closed h caller
    script history low sound plays small
