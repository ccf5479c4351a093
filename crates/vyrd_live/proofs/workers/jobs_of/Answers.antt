-- One worker more with its sender.
use Rattle.vyrd_live.proofs.Prelude.{◌≡◌, ◌++◌, [], ◌∷◌, List, map, ap, ◌∙◌, sym, subst, All}
use Rattle.vyrd_live.proofs.Prelude.{map-append, SenderView, Worker, Outbox, HasSent}
use Rattle.std.proofs.lemmas.List.Elements.{All-head, All-rest, All-push}
use Rattle.vyrd_live.proofs.SendingLaws.{sent_nothing}
use Rattle.vyrd_live.proofs.PlayLaws.{same_first}
use Rattle.vyrd_live.proofs.workers.jobs_of.Goals as goal

pub loop-worker-preserved : goal.loop-worker-preserved
loop-worker-preserved g c =
    let inv = c.loop-worker.invariant in
    let W = Worker g.row.M.Denot in
    let one : W × Outbox =
    (c.in-Some.worker, record { sender = c.in-Some-next.sender; place = 0; pause = 0 }) in
    let items = c.in_ok-push.ensures.items in
    let empty = λ (w : W). (w.hand.lane ≡ []) × (w.hand.forgotten ≡ 0) in
    let unsent = λ (s : SenderView). (s.queue ≡ c.args.relay.now.queue) × (s.sent ≡ []) in
    let sent = λ (j : W × Outbox). HasSent c.args.relay.now j.1.sender j.1.place j.0.hand in
    let head = All-head empty c.in-Some.worker c.next.new.self.rest.items
    (subst (All empty) c.in-Some.ensures.steps.0 inv.later) in
    let first = All-head unsent c.in-Some-next.sender c.next-in-loop-worker.new.self.rest.items
    (subst (All unsent) c.in-Some-next.ensures.items inv.senders) in
    let both = same_first c.in-Some.worker.hand.caller c.in-Some-next.sender.caller _ _
    (sym (ap (map (λ (w : W). w.hand.caller)) c.in-Some.ensures.steps.0) ∙ inv.callers
    ∙ ap (map (λ (s : SenderView). s.caller)) c.in-Some-next.ensures.items) in
    record {
      later = All-rest empty c.in-Some.worker c.next.new.self.rest.items
          c.loop-worker.worker-iterator.rest.items c.in-Some.ensures.steps.0 inv.later;
      senders = All-rest unsent c.in-Some-next.sender c.next-in-loop-worker.new.self.rest.items
          c.loop-worker.left.rest.items
          c.in-Some-next.ensures.items inv.senders;
      callers = both.1;
      workers = ap (map (λ (j : W × Outbox). j.0)) items
          ∙ map-append (λ (j : W × Outbox). j.0) c.loop-worker.jobs.items (one ∷ [])
          ∙ ap (λ (xs : List W). xs ++ c.in-Some.worker ∷ []) inv.workers;
      sent = subst (All sent) (sym items) (All-push sent c.loop-worker.jobs.items one inv.sent
          (sent_nothing c.args.relay.now c.in-Some-next.sender c.in-Some.worker.hand first.0
          (sym both.0) first.1 head.0 head.1));
    }
