use Rattle.std.proofs.Common.{List, Option, Some, None, sym, subst}
use Rattle.std.specs.Prelude.{MatchOption, IfSome}
use Rattle.std.specs.List.{All}
use Rattle.crossbeam_queue.specs.Fifo.{Pops, Learns}
use Rattle.vyrd_base.specs.declared.history.Stamped.{Stamped}
use Rattle.vyrd_relay.specs.declared.known.Known.{Known}
use Rattle.vyrd_relay.specs.Knowledge.{received_in, HasBeginning, Learned, Popped}
use Rattle.vyrd_relay.specs.Rule.{Relayed}
use Rattle.vyrd_relay.proofs.Moves.{gets, receiver_learns}
use Rattle.vyrd_relay.proofs.relay.Relay.pop_first.Goals as goal

pub pop_as-requires-clause-rule : goal.pop_as-requires-clause-rule
pop_as-requires-clause-rule g c =
    let pass = c.receiver.inside.pass.id in
    let i = c.receiver.invariant in
    subst (λ (k : Known). Pops Relayed pass k (Popped k) × Learns Relayed pass k (Learned k))
    (sym i.0)
    (gets pass _ i.1, receiver_learns pass _ i.1)

told : (r : Option (List Stamped)) (k after : Known) (none : Type 0)
    → MatchOption r none (λ e. Popped k e after)
    → IfSome r (λ _. All (HasBeginning (received_in after).had) (received_in after).settled)
told None k after none p = tt
told (Some e) k after none p =
    subst (λ (w : Known). All (HasBeginning (received_in w).had) (received_in w).settled)
    (sym p.had) p.beginnings

pub returns-clause-beginnings : goal.returns-clause-beginnings
returns-clause-beginnings g c = told c.pop_as.result _ _ _ c.pop_as.ensures.rule
