use Rattle.std.proofs.Common.{rules}
use Rattle.vyrd_mover.proofs.FrontLaws.{event_at_front}
use Rattle.vyrd_mover.proofs.front.front_event.Goals as goal

pub returns : goal.returns
returns c =
    event_at_front c.args.subject c.args.number c.in_ok-caller.caller c.in_ok-did.did
    c.args.text.now c.in_ok-caller.rest.now c.in_ok-did.rest.now (search rules)
    c.in_ok-caller.ensures c.in_ok-did.ensures
