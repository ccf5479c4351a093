use Rattle.vyrd_mover.proofs.EventLaws.{stamped_is}
use Rattle.vyrd_mover.proofs.line.read_act.Goals as goal

pub returns : goal.returns
returns c = stamped_is c.args.subject c.args.number c.args.line.now c.read_stamped.result
    c.read_stamped.ensures
