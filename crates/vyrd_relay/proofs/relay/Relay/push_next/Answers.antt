use Rattle.std.proofs.Common.{◌≡◌, sym, subst}
use Rattle.std.specs.List.{All}
use Rattle.crossbeam_queue.specs.Fifo.{Pushes, Learns}
use Rattle.vyrd_base.specs.declared.history.Stamped.{Stamped}
use Rattle.vyrd_relay.specs.declared.known.Known.{Known}
use Rattle.vyrd_relay.specs.Knowledge.{Learned, Pushed}
use Rattle.vyrd_relay.specs.Ends.{SenderView}
use Rattle.vyrd_relay.specs.Rule.{Relayed}
use Rattle.vyrd_relay.proofs.Moves.{sends, sender_learns}
use Rattle.vyrd_relay.proofs.relay.Relay.push_next.Goals as goal

pub push_as-requires-clause-rule : goal.push_as-requires-clause-rule
push_as-requires-clause-rule g c =
    let pass = c.sender.inside.pass.id in
    let i = c.sender.invariant in
    let mine = subst (λ (s : SenderView). All (λ (e : Stamped). e.caller ≡ s.caller) c.args.parcel)
    (sym c.sender.view_is) c.requires.caller in
    subst (λ (k : Known). Pushes Relayed c.self.inside.queue.cap pass k c.args.parcel
    (Pushed k c.args.parcel) × Learns Relayed pass k (Learned k)) (sym i.0)
    (sends c.self.inside.queue.cap pass _ c.args.parcel mine, sender_learns pass _)
