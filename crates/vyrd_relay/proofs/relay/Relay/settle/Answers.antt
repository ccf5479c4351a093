use Rattle.std.proofs.Common.{sym, ◌∙◌, subst}
use Rattle.std.specs.List.{All}
use Rattle.crossbeam_queue.specs.Fifo.{Merges, Learns}
use Rattle.crossbeam_queue.specs.Passes.{view}
use Rattle.vyrd_relay.specs.declared.known.Known.{Known}
use Rattle.vyrd_relay.specs.declared.known.Known.TheVariants.{Spent}
use Rattle.vyrd_relay.specs.Knowledge.{received_in, sent_in, with_settled, HasBeginning, Learned}
use Rattle.vyrd_relay.specs.Knowledge.{taking_in}
use Rattle.vyrd_relay.specs.Rule.{Relayed}
use Rattle.vyrd_relay.proofs.Moves.{takes_in, receiver_learns, beginnings}
use Rattle.vyrd_relay.proofs.relay.Relay.settle.Goals as goal

pub absorb-requires-clause-rule : goal.absorb-requires-clause-rule
absorb-requires-clause-rule g c =
    let pass = c.receiver.inside.pass.id in
    let other = c.sender.inside.pass.id in
    subst (λ (k : Known × Known). Merges Relayed pass k.0 other k.1 (taking_in k.0 k.1) Spent)
    (λ i. (sym c.receiver.invariant.0 i, sym c.sender.invariant.0 i)) (takes_in pass _ other _)

pub learn_as-requires-clause-rule : goal.learn_as-requires-clause-rule
learn_as-requires-clause-rule g c =
    let pass = c.absorb.new.pass.id in
    subst (λ (k : Known). Learns Relayed pass k (Learned k)) (sym c.absorb.ensures.rule)
    (receiver_learns pass _ c.receiver.invariant.1)

pub returns-clause-beginnings : goal.returns-clause-beginnings
returns-clause-beginnings g c =
    let told = c.learn_as.ensures.rule in
    let after = with_settled (received_in (view c.receiver.inside.pass))
    (sent_in (view c.sender.inside.pass)) in
    let learned = subst (λ (k : Known). Learned k told.0) c.absorb.ensures.rule told.1 in
    subst (λ (k : Known). All (HasBeginning (received_in k).had) (received_in k).settled)
    (sym (c.learn_as.ensures.queue.1 ∙ c.absorb.ensures.rule)) (beginnings after told.0 learned)
