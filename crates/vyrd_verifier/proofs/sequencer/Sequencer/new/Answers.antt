use Rattle.std.proofs.Common.{refl}
use Rattle.vyrd_verifier.proofs.TakenLaws.{taking_none, taken_first}
use Rattle.vyrd_verifier.proofs.sequencer.Sequencer.new.Goals as goal

pub returns-clause-taken : goal.returns-clause-taken
returns-clause-taken g c =
    let e = c.in_ok-new.ensures in
    taken_first g.S.EventSink.has_taken _ refl
    (taking_none g.S.EventSink.has_taken c.args.sink _ e.next e.held c.requires.none)
