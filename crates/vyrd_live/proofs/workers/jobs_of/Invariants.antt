use Rattle.vyrd_live.proofs.Prelude.{◌≡◌, [], map, All, HasSent}
use Rattle.vyrd_live.proofs.workers.jobs_of.Given as goal

-- the workers before this one have their senders
abbrev pub invariant-loop-worker : goal.invariant-loop-worker
invariant-loop-worker g l = record {
  later : All (λ w. (w.hand.lane ≡ []) × (w.hand.forgotten ≡ 0)) l.worker-iterator.rest.items;
  senders : All (λ s. (s.queue ≡ l.relay.queue) × (s.sent ≡ [])) l.left.rest.items;
  callers : map (λ w. w.hand.caller) l.worker-iterator.rest.items
      ≡ map (λ s. s.caller) l.left.rest.items;
  workers : map (λ j. j.0) l.jobs.items ≡ l.yielded;
  sent : All (λ j. HasSent l.relay j.1.sender j.1.place j.0.hand) l.jobs.items;
}
