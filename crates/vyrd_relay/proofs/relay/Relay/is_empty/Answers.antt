use Rattle.std.proofs.Common.{sym, subst}
use Rattle.crossbeam_queue.specs.Fifo.{Learns}
use Rattle.vyrd_relay.specs.declared.known.Known.{Known}
use Rattle.vyrd_relay.specs.Knowledge.{Learned}
use Rattle.vyrd_relay.specs.Rule.{Relayed}
use Rattle.vyrd_relay.proofs.Moves.{receiver_learns}
use Rattle.vyrd_relay.proofs.relay.Relay.is_empty.Goals as goal

pub is_empty_as-requires-clause-rule : goal.is_empty_as-requires-clause-rule
is_empty_as-requires-clause-rule c =
    let pass = c.receiver.inside.pass.id in
    let i = c.receiver.invariant in
    subst (λ (k : Known). Learns Relayed pass k (Learned k)) (sym i.0) (receiver_learns pass _ i.1)
