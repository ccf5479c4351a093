use Rattle.std.proofs.Common.{sym, ◌∙◌, subst, arith, vec_len}
use Rattle.crossbeam_queue.specs.Fifo.{Forks}
use Rattle.vyrd_relay.specs.declared.known.Known.{Known}
use Rattle.vyrd_relay.specs.Knowledge.{new_received, dealer, dealt}
use Rattle.vyrd_relay.specs.Rule.{Relayed}
use Rattle.vyrd_relay.proofs.Moves.{deals}
use Rattle.vyrd_relay.proofs.relay.deal_all.Goals as goal

pub another-theirs-requires-clause-rule : goal.another-theirs-requires-clause-rule
another-theirs-requires-clause-rule g c =
    let i = c.loop.invariant in
    let pass = c.loop.pass.id in
    let n = g.J.Number.senders in
    subst (λ (k : Known). Forks Relayed pass k (dealer n k) (dealt n k)) (sym i.receives)
    (deals n pass (new_received _ (vec_len c.loop.ends)) (omega arith)
    (λ l. i.fixed l ∙ sym c.requires.senders.0))
