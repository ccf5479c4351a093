use Rattle.vyrd_relay.proofs.Moves.{begins}
use Rattle.vyrd_relay.proofs.relay.Relay.new.Goals as goal

pub ruled-requires-clause-rule : goal.ruled-requires-clause-rule
ruled-requires-clause-rule c = begins
