-- The hands that come back are all hands, what they leave is what their workers did, and the sink
-- has taken it.
use Rattle.vyrd_live.proofs.Prelude.{◌≡◌, ◌<◌, length, true, sym, ap, ◌∙◌, subst, List, rules}
use Rattle.vyrd_live.proofs.Prelude.{arith, All, length-map, Stamped, is_legal, part, Plan}
use Rattle.vyrd_live.proofs.Prelude.{cells_in, last_values, HandView, AreAll, ReceiverView, HasAll}
use Rattle.vyrd_live.proofs.Prelude.{Worker, Stopped, Outbox, IsFirstSpent, IsFresh}
use Rattle.vyrd_live.proofs.WorkerLists.{HaveWorked, hands, endings, all_hands, all_played}
use Rattle.vyrd_live.proofs.WorkerLists.{first_is_long}
use Rattle.vyrd_live.proofs.HistoryLaws.{all_shown}
use Rattle.vyrd_live.proofs.PlayLaws.{of_images, same_callers, same_parts, worked_all}
use Rattle.vyrd_live.proofs.workers.play_all.Given as given
use Rattle.vyrd_live.proofs.workers.play_all.Goals as goal

pub jobs_of-requires-clause-fresh : goal.jobs_of-requires-clause-fresh
jobs_of-requires-clause-fresh g c = λ k d l. let fresh = c.requires.fresh k d l in
    (fresh.empty, fresh.kept)

pub jobs_of-requires-clause-callers : goal.jobs_of-requires-clause-callers
jobs_of-requires-clause-callers g c =
    let many = length-map c.args.workers.items (λ w. g.M.Machine.header_of w.machine) in
    let count : length c.args.workers.items ≡ length c.in_ok-relay.senders.items
    = omega (arith, many, c.requires.made.count, c.callers.ensures, c.in_ok-relay.ensures.count) in
    same_callers c.args.traced c.in_ok-relay.relay _ c.args.workers.items
    c.in_ok-relay.senders.items c.requires.hands count c.in_ok-relay.ensures.senders

pub beside-requires-clause-fresh : goal.beside-requires-clause-fresh
beside-requires-clause-fresh g c κs within =
    let W = Worker g.row.M.Denot in
    let fresh = λ (w : W). IsFresh g.M.Machine.header_of g.M.Machine.script c.args.traced w.machine
    w.hand in
    of_images (λ (j : W × Outbox). j.0) fresh c.in_ok-jobs.jobs.items
    (subst (All fresh) (sym c.in_ok-jobs.ensures.workers) c.requires.fresh)

pub end-requires : goal.end-requires
end-requires g c =
    let jobs = c.in_ok-jobs.jobs.items in
    let done = c.in_ok-done.done.items in
    let stopped = c.in_ok-stopped.stopped.items in
    let count : length done ≡ length jobs = search rules in
    let worked = worked_all g.M.Machine.header_of g.M.Machine.script g.M.Machine.ahead c.args.traced
    c.args.workers.items jobs done stopped
    c.in_ok-jobs.ensures.workers c.in_ok-stopped.ensures.stopped count
    (λ i j d low. c.in_ok-done.ensures.each i j d (search rules)) in
    subst (AreAll c.args.traced) (sym c.in_ok-hands.ensures)
    (all_hands g.M.Machine.header_of g.M.Machine.script g.M.Machine.ahead c.args.traced
    c.args.workers.items stopped worked.0 worked.1 c.requires.hands)

-- the workers have worked, and their hands come back in the order of their callers
module _ (g : given.Over) (c : goal.After-drop-relay-inside-3 g) where
  abbrev stopped : List Stopped
  stopped = c.in_ok-stopped.stopped.items

  worked : HaveWorked g.M.Machine.header_of g.M.Machine.script g.M.Machine.ahead c.args.traced
      c.args.workers.items stopped
      × (length stopped ≡ length c.args.workers.items)
  worked =
      let jobs = c.in_ok-jobs.jobs.items in
      let done = c.in_ok-done.done.items in
      let count : length done ≡ length jobs = search rules in
      worked_all g.M.Machine.header_of g.M.Machine.script g.M.Machine.ahead c.args.traced
      c.args.workers.items jobs done stopped
      c.in_ok-jobs.ensures.workers c.in_ok-stopped.ensures.stopped count
      (λ i j d low. c.in_ok-done.ensures.each i j d (search rules))

  all : AreAll c.args.traced (hands stopped)
  all = all_hands g.M.Machine.header_of g.M.Machine.script g.M.Machine.ahead c.args.traced
      c.args.workers.items stopped worked.0 worked.1 c.requires.hands

  first : IsFirstSpent (endings stopped) (length stopped) c.in_ok-spent.spent
  first = subst
      (λ (stopped : List Stopped). IsFirstSpent (endings stopped)
      (length stopped) c.in_ok-spent.spent) c.deref.ensures.value c.in_ok-spent.ensures

pub returns-clause-long : goal.returns-clause-long
returns-clause-long g c =
    first_is_long g.M.Machine.header_of g.M.Machine.script g.M.Machine.ahead c.args.traced
    c.args.workers.items (stopped g c) c.in_ok-spent.spent
    (worked g c).0 (worked g c).1 (first g c)

pub returns-clause-played : goal.returns-clause-played
returns-clause-played g c =
    let has_taken = g.S.EventSink.has_taken in
    let plan = c.requires.plan in
    let h = c.in-Ok.ensures.history in
    let had = c.take_rest.new.self.receiver.had in
    let parts = subst (All (λ (hand : HandView). part hand.caller h.history ≡ hand.lane))
    c.in_ok-hands.ensures h.parts in
    let sent = subst (All (HasAll had)) c.in_ok-stopped.ensures.lanes c.take_rest.ensures.all in
    let senders : c.take_rest.new.self.receiver.senders ≡ c.args.traced.plan.callers =
    c.take_rest.ensures.senders ∙ c.in_ok-stopped.ensures.goes_on.same.senders
    ∙ c.in_ok-done.ensures.goes_on.same.senders
    ∙ ap (λ (r : ReceiverView). r.senders)
    (c.in_ok-watch.ensures.receiver ∙ c.in_ok-relay.ensures.receiver)
    ∙ c.callers.ensures ∙ sym (ap (λ (p : Plan). p.callers) plan) in
    let theirs = subst (λ n. All (λ (e : Stamped). e.caller < n) had) senders
    c.take_rest.ensures.theirs in
    let watched = c.take_rest.ensures.takes_in.watched
    (c.in_ok-stopped.ensures.goes_on.takes_in.watched
    (c.in_ok-done.ensures.goes_on.takes_in.watched c.in_ok-watch.ensures.watched)) in
    record {
      history = h.history;
      taken = all_shown has_taken (cells_in c.args.traced.plan) c.in-Some.sink had h.history h.legal
          (same_parts c.args.traced (stopped g c) had h.history (all g c) sent parts) theirs
          (c.in-Some.ensures.shown had watched);
      legal = subst (λ p. is_legal (cells_in p) h.history ≡ true) plan h.legal;
      played = all_played g.M.Machine.header_of g.M.Machine.script g.M.Machine.ahead c.args.traced
          c.args.header c.args.workers.items (stopped g c) h.history
          c.in_ok-spent.spent (worked g c).0 (worked g c).1 c.requires.hands h.legal parts
          c.requires.made (first g c);
      words_are = h.words_are ∙ ap (λ p. last_values p h.history) plan;
    }

-- what no event changes of the sink stayed, from call to call
pub returns-clause-fixed : goal.returns-clause-fixed
returns-clause-fixed g c =
    let fixed = g.S.EventSink.fixed in
    let rest = c.take_rest.ensures.takes_in.fixed_is c.in-Some.ensures.stands in
    let parted = c.in_ok-stopped.ensures.goes_on.takes_in.fixed_is rest.0 in
    let played = c.in_ok-done.ensures.goes_on.takes_in.fixed_is parted.0 in
    ap fixed c.in-Some.ensures.sink ∙ rest.1 ∙ parted.1 ∙ played.1
    ∙ ap fixed c.in_ok-watch.ensures.sink

pub part_all-requires-clause-receiver : goal.part_all-requires-clause-receiver
part_all-requires-clause-receiver g c = c.in_ok-done.ensures.goes_on.same.queue
    ∙ ap (λ (r : ReceiverView). r.queue)
    (c.in_ok-watch.ensures.receiver ∙ c.in_ok-relay.ensures.receiver)

pub take_rest-requires-clause-receiver : goal.take_rest-requires-clause-receiver
take_rest-requires-clause-receiver g c =
    c.in_ok-stopped.ensures.goes_on.same.queue ∙ c.in_ok-done.ensures.goes_on.same.queue
    ∙ ap (λ (r : ReceiverView). r.queue)
    (c.in_ok-watch.ensures.receiver ∙ c.in_ok-relay.ensures.receiver)

pub take_rest-requires-clause-first : goal.take_rest-requires-clause-first
take_rest-requires-clause-first g c =
    c.in_ok-stopped.ensures.goes_on.same.settled ∙ c.in_ok-done.ensures.goes_on.same.settled
    ∙ ap (λ (r : ReceiverView). r.settled)
    (c.in_ok-watch.ensures.receiver ∙ c.in_ok-relay.ensures.receiver)

pub take_rest-requires-clause-senders : goal.take_rest-requires-clause-senders
take_rest-requires-clause-senders g c = c.in_ok-stopped.ensures.senders
