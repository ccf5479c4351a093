use Rattle.vyrd_own_spec.proofs.Prelude.{◌==◌, arc_value, written_in}
use Rattle.vyrd_own_spec.proofs.TouchLaws.{touched_shown}
use Rattle.vyrd_own_spec.proofs.own_spec.OwnSpecSpec.step.Goals as goal

pub returns-then-allowed-clause-touched : goal.returns-then-allowed-clause-touched
returns-then-allowed-clause-touched c ok =
    touched_shown (c.args.self.now.header.size == 0)
    ((written_in (arc_value c.args.self.now.specification)).words == 0)
    c.step.new.touched.items c.step.new.state.shown c.args.self.now.state.shown
    (c.in_ok-allowed.ensures.changed ok)
