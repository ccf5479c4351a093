-- One worker more.
use Rattle.vyrd_live.proofs.Prelude.{◌<◌, ◌++◌, [], ◌∷◌, List, map, ap, ◌∙◌, sym, subst, All}
use Rattle.vyrd_live.proofs.Prelude.{map-append, All-rest, All-push, bounds_of, HandView}
use Rattle.vyrd_live.proofs.Prelude.{workload_of, ops_of, work_script, Worker, IsWorkerOf}
use Rattle.vyrd_live.proofs.live.workers_of.Goals as goal

pub loop-hand-preserved : goal.loop-hand-preserved
loop-hand-preserved g c =
    let inv = c.loop-hand.invariant in
    let w = workload_of c.args.work.now in
    let one : Worker g.row.M.Denot =
    record { machine = c.in_ok-machine.machine; hand = c.in-Some.hand } in
    let items = c.in_ok-push.ensures.items in
    let is = λ (x : Worker g.row.M.Denot). IsWorkerOf g.M.Machine.header_of g.M.Machine.script
    g.M.Machine.ahead w x.machine x.hand in record {
      left = All-rest (λ (h : HandView). h.caller
          < c.args.work.now.header.callers) c.in-Some.hand c.next.new.self.rest.items
          c.loop-hand.hand-iterator.rest.items
          c.in-Some.ensures.steps.0 inv.left;
      hands = ap (map (λ (x : Worker g.row.M.Denot). x.hand)) items
          ∙ map-append (λ (x : Worker g.row.M.Denot). x.hand) c.loop-hand.workers.items (one ∷ [])
          ∙ ap
          (λ (xs : List HandView). xs ++ c.in-Some.hand ∷ []) inv.hands;
      made = subst (All is) (sym items)
          (All-push is c.loop-hand.workers.items one inv.made (record {
            header = c.in_ok-machine.ensures.header;
            script_is = c.in_ok-machine.ensures.script ∙ ap (work_script w) c.caller.ensures;
            bound = c.in_ok-machine.ensures.bound ∙ ap (λ n. bounds_of w.header (ops_of n w.ops))
                c.caller.ensures;
          }));
    }
