use Rattle.vyrd_observers.proofs.Prelude
use Prelude.{◌≡◌, ◌+◌, ◌*◌, ◌≤◌, ⊎_elim, Option, Some, true, List, [], ◌∷◌, length, map, set}
use Prelude.{slice_get, refl, subst, ap, sym, ◌∙◌, arith, length-set, slice_get_within, has_method}
use Prelude.{slice_get-is, Watch, Watched, Seen, unwatched, open_count, answer_count, Asked}
use Prelude.{seen_by, with_asker, kept_by, owed, AreInOrder}
use Rattle.std.proofs.lemmas.List.{set-set}
use Rattle.vyrd_observers.proofs.CostLaws.{owed_by, owed_closed, answers_set, kept_set}
use Rattle.vyrd_observers.proofs.TrailLaws.{seen_recounted, trail_of_seen, trail_stays}
use Rattle.vyrd_observers.proofs.CallersSee.{read_is, begins_seen}
use Rattle.vyrd_observers.proofs.TrailCounts.{keeps_few, order_closed, order_begun, made_few}
use Rattle.vyrd_observers.proofs.TrailCounts.{few_begun, few_askers}
use Rattle.vyrd_observers.proofs.watches.Watches.begin_counted.Goals as goal
use Rattle.vyrd_observers.proofs.watches.Watches.begin_counted.Given as given

pub invariant_of-self : goal.invariant_of-self
invariant_of-self g c = subst (λ (ts : List Asked). AreInOrder c.self.inside.header
    c.close.new.reach ts c.close.new.watches.items) (sym c.in_err-trail.ensures.unchanged)
    (order_closed c.self.inside.header c.args.caller c.self.inside.trails.items
    c.close.new.trails.items c.self.inside.by_caller.items
    c.close.new.watches.items c.self.inside.reach c.close.new.reach c.close.ensures.closes
    c.self.invariant)

pub returns-in_err-trail-clause-keeps_few : goal.returns-in_err-trail-clause-keeps_few
returns-in_err-trail-clause-keeps_few g c = keeps_few c.self.inside.header c.close.new.reach
    c.ask.new.trails.items c.close.new.watches.items
    (subst (λ (ts : List Asked). AreInOrder c.self.inside.header c.close.new.reach ts
    c.close.new.watches.items) (sym c.in_err-trail.ensures.unchanged)
    (order_closed c.self.inside.header c.args.caller c.self.inside.trails.items
    c.close.new.trails.items c.self.inside.by_caller.items
    c.close.new.watches.items c.self.inside.reach c.close.new.reach c.close.ensures.closes
    c.self.invariant))

pub index-requires : goal.index-requires
index-requires g c = let there = c.in_ok-trail.ensures.asked in
    omega (
      arith,
      slice_get_within c.ask.new.trails.items c.in_ok-trail.trail there.0
          there.1,
      c.ask.new.trails.ok.0,
    )

pub join-requires : goal.join-requires
join-requires g c =
    let there = c.in_ok-trail.ensures.asked in
    let order = order_closed c.self.inside.header c.args.caller c.self.inside.trails.items
    c.close.new.trails.items c.self.inside.by_caller.items
    c.close.new.watches.items c.self.inside.reach c.close.new.reach c.close.ensures.closes
    c.self.invariant in
    few_askers c.self.inside.header c.close.new.reach c.close.new.trails.items
    c.ask.new.trails.items c.close.new.watches.items c.args.caller
    c.in_ok-trail.trail c.index_mut-2.result.now order c.close.ensures.closes.none
    c.ask.ensures.kept c.in_ok-trail.ensures.only.0 c.in_ok-trail.ensures.only.1
    (slice_get-is c.ask.new.trails.items c.in_ok-trail.trail c.index_mut-2.result.now
    (slice_get_within c.ask.new.trails.items c.in_ok-trail.trail there.0 there.1)
    c.index_mut-2.ensures.value)

module _ (g : given.Over) (c : goal.After-self-3-1 g) where
  order : AreInOrder c.self.inside.header c.close.new.reach c.close.new.trails.items
      c.close.new.watches.items
  order = order_closed c.self.inside.header c.args.caller c.self.inside.trails.items
      c.close.new.trails.items c.self.inside.by_caller.items
      c.close.new.watches.items c.self.inside.reach c.close.new.reach c.close.ensures.closes
      c.self.invariant

  at_end : c.len.result ≡ length c.in_ok-trail.ensures.asked.0.others
  at_end =
      let there = c.in_ok-trail.ensures.asked in
      let is : there.0 ≡ c.index.result.now = read_is c.ask.new.trails.items c.in_ok-trail.trail
      there.0 c.index.result.now there.1 c.index.ensures in
      c.len.ensures ∙ ap (λ (t : Asked). length t.others) (sym is)

  abbrev begun : Seen
  begun = record {
    is_open = true;
    method = c.args.method;
    args = c.args.args;
    answers = c.args.answer ∷ [];
  }

  abbrev watches_now : List (Option Watch)
  watches_now = set c.close.new.watches.items c.args.caller
      (Some (record { trail = c.in_ok-trail.trail; since = c.len.result }))

  -- the trail counts one more
  is_joined : c.join.new.self ≡ with_asker c.in_ok-trail.ensures.asked.0
  is_joined =
      let there = c.in_ok-trail.ensures.asked in
      c.join.ensures
      ∙ ap with_asker
      (sym (read_is c.ask.new.trails.items c.in_ok-trail.trail there.0 c.index_mut-2.result.now
      there.1 c.index_mut-2.ensures.value))

  -- all trails and watches at the end
  order_now : AreInOrder c.self.inside.header c.max-self-inside.result
      (set c.ask.new.trails.items c.in_ok-trail.trail c.join.new.self) watches_now
  order_now =
      let there = c.in_ok-trail.ensures.asked in
      let within = slice_get_within c.ask.new.trails.items c.in_ok-trail.trail there.0 there.1 in
      subst (λ u. AreInOrder c.self.inside.header c.max-self-inside.result
      (set c.ask.new.trails.items c.in_ok-trail.trail u) watches_now) (sym is_joined)
      (order_begun c.self.inside.header c.close.new.reach c.max-self-inside.result
      c.close.new.trails.items c.ask.new.trails.items c.close.new.watches.items
      c.args.caller c.in_ok-trail.trail c.len.result there.0 order c.close.ensures.closes.none
      c.ask.ensures.kept
      (c.ask.ensures.asking c.self.inside.header
      (ap (λ (k : Watched). has_method k.header c.args.method c.args.args) c.self.view_is
      ∙ c.requires.allowed)
      c.requires.may_answer order.asking)
      c.in_ok-trail.ensures.only.0 there.1 there.2.0 at_end c.in_ok-trail.ensures.only.1
      (few_begun c.self.inside.header c.close.new.reach c.close.new.trails.items
      c.ask.new.trails.items c.close.new.watches.items c.args.caller begun
      order c.close.ensures.closes.none refl c.ask.ensures.reused c.ask.ensures.one)
      (omega (arith, c.max-self-inside.ensures)) (omega (arith, c.max-self-inside.ensures))
      (omega (
        arith,
        c.max-self-inside.ensures,
        within,
        c.close.ensures.closes.within,
        c.close.ensures.closes.trails,
        c.ask.ensures.no_fewer,
      )))

  -- what all callers have seen then
  seen_now : map (seen_by (set c.ask.new.trails.items c.in_ok-trail.trail c.join.new.self))
      watches_now
      ≡ set (map (seen_by c.close.new.trails.items) c.close.new.watches.items) c.args.caller begun
  seen_now =
      let there = c.in_ok-trail.ensures.asked in
      ap (λ u. map (seen_by (set c.ask.new.trails.items c.in_ok-trail.trail u)) watches_now)
      is_joined
      ∙ seen_recounted c.ask.new.trails.items watches_now c.in_ok-trail.trail (there.0.askers + 1)
      there.0 there.1
      ∙ begins_seen c.close.new.trails.items c.ask.new.trails.items c.close.new.watches.items
      c.args.caller c.in_ok-trail.trail c.len.result there.0
      c.args.method c.args.args c.args.answer c.ask.ensures.kept c.close.ensures.closes.on there.1
      there.2.1 there.2.2 there.2.3 at_end

pub invariant_of-self-2 : goal.invariant_of-self-2
invariant_of-self-2 g c = order_now g c

pub returns-clause-watches : goal.returns-clause-watches
returns-clause-watches g c =
    seen_now g c
    ∙ ap (λ ws. set ws c.args.caller (begun g c)) c.close.ensures.closes.seen
    ∙ set-set (map (seen_by c.self.inside.trails.items) c.self.inside.by_caller.items) c.args.caller
    unwatched (begun g c)
    ∙ ap (λ (k : Watched). set k.by_caller c.args.caller (begun g c)) c.self.view_is

pub returns-clause-len : goal.returns-clause-len
returns-clause-len g c = ap length (returns-clause-watches g c)
    ∙ length-set c.args.self.now.by_caller c.args.caller (begun g c)

pub returns-clause-shared : goal.returns-clause-shared
returns-clause-shared g c = λ d seen before here is_open same_method same_args same_answers.
    let there = trail_of_seen c.self.inside.trails.items c.self.inside.by_caller.items d seen before
    c.args.method c.args.args c.args.answer
    c.self.invariant.on (ap (λ (k : Watched). slice_get k.by_caller d) c.self.view_is ∙ here)
    is_open same_method same_args same_answers in
    let now = trail_stays c.self.inside.trails.items c.close.new.trails.items there.0 there.1
    c.args.method c.args.args c.args.answer
    c.close.ensures.closes.stay there.2 there.3 in
    length-set c.ask.new.trails.items c.in_ok-trail.trail c.join.new.self
    ∙ ⊎_elim
    (λ free. c.ask.ensures.reused there.0 now.0 now.1 free)
    (λ is. ap length (c.ask.ensures.shared there.0 now.0 now.1 is).1)
    now.2
    ∙ c.close.ensures.closes.trails ∙ ap (λ (k : Watched). k.trails) c.self.view_is

pub returns-clause-reused : goal.returns-clause-reused
returns-clause-reused g c = λ low.
    let were : length c.close.new.trails.items ≡ c.args.self.now.trails
    = c.close.ensures.closes.trails ∙ ap (λ (k : Watched). k.trails) c.self.view_is in
    ⊎_elim
    (λ same. length-set c.ask.new.trails.items c.in_ok-trail.trail c.join.new.self ∙ same ∙ were)
    (λ more. absurd (omega (arith, low, more, were, ap open_count (seen_now g c))))
    (made_few c.close.new.trails.items c.ask.new.trails.items c.close.new.watches.items
    c.args.caller (begun g c) c.close.ensures.closes.none refl (order g c).used
    c.ask.ensures.reused c.ask.ensures.one)

pub returns-clause-keeps_few : goal.returns-clause-keeps_few
returns-clause-keeps_few g c = keeps_few c.self.inside.header c.max-self-inside.result
    (set c.ask.new.trails.items c.in_ok-trail.trail c.join.new.self) (watches_now g c)
    (order_now g c)

pub returns-in_err-trail-clause-steps : goal.returns-in_err-trail-clause-steps
returns-in_err-trail-clause-steps g c =
    let closed = owed_closed c.self.inside.header c.args.caller c.self.inside.trails.items
    c.close.new.trails.items c.self.inside.by_caller.items
    c.close.new.watches.items c.self.inside.reach c.close.new.reach c.args.steps.now
    c.close.new.steps
    c.close.ensures.closes c.self.invariant c.close.ensures.steps in
    let same = ap (λ ts. answer_count (map (seen_by ts) c.close.new.watches.items))
    c.in_err-trail.ensures.unchanged in
    let few = c.self.invariant.few in
    subst (λ (k : Watched). c.ask.new.steps + owed_by c.ask.new.trails.items
    c.close.new.watches.items
    ≤ c.args.steps.now + owed k + (5 * k.header.callers + 3)) c.self.view_is
    (omega (
      arith,
      closed,
      same,
      c.ask.ensures.steps,
      few,
      c.self.invariant.callers,
      c.close.ensures.closes.trails,
    ))

pub returns-clause-steps : goal.returns-clause-steps
returns-clause-steps g c =
    let there = c.in_ok-trail.ensures.asked in
    let joined : kept_by c.join.new.self ≡ kept_by there.0 = ap kept_by (is_joined g c) in
    let kept = kept_set c.ask.new.trails.items c.in_ok-trail.trail there.0 c.join.new.self
    there.1 in
    let seen = ap answer_count (returns-clause-watches g c) in
    let begins = answers_set c.args.self.now.by_caller c.args.caller (begun g c) in
    let owes = ap owed c.self.view_is in
    let callers = ap (λ (k : Watched). k.header.callers) c.self.view_is in
    omega (
      arith,
      c.close.ensures.steps,
      c.ask.ensures.steps,
      c.self.invariant.few,
      c.self.invariant.callers,
      c.close.ensures.closes.trails,
      joined,
      kept,
      seen,
      begins,
      owes,
      callers,
      ap (λ (k : Watched). answer_count k.by_caller) c.self.view_is,
    )
