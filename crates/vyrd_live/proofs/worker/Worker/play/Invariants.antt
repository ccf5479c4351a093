use Rattle.vyrd_live.proofs.Prelude.{◌≡◌, ◌+◌, ◌≤◌, length, IsOf, IsWorking, HasSent}
use Rattle.vyrd_live.proofs.worker.Worker.play.Given as goal

abbrev pub invariant-loop-self : goal.invariant-loop-self
invariant-loop-self g l = record {
  header : g.M.Machine.header_of l.self.machine ≡ g.M.Machine.header_of l.initial.self.machine;
  hand_of : IsOf l.traced l.self.hand;
  caller : l.self.hand.caller ≡ l.initial.self.hand.caller;
  falls : length l.self.hand.lane + g.M.Machine.ahead l.self.machine
      ≤ g.M.Machine.ahead l.initial.self.machine;
  working : IsWorking (g.M.Machine.header_of l.initial.self.machine)
      (g.M.Machine.script l.initial.self.machine)
      (g.M.Machine.script l.self.machine) l.self.hand;
  sent : HasSent l.relay l.outbox.sender l.outbox.place l.self.hand;
}

abbrev pub decreases-loop-self : goal.decreases-loop-self
decreases-loop-self g l = g.M.Machine.ahead l.self.machine
