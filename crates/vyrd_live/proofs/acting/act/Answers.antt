-- A busy act changes what was found alone.
use Rattle.vyrd_live.proofs.Prelude.{◌≡◌, ℕ, ap, ◌∙◌, sym, subst, Act, Load, Store, Take, Give}
use Rattle.vyrd_live.proofs.Prelude.{Mark, Done, Look, Plan, HandView, with_look, with_one_more}
use Rattle.vyrd_live.proofs.Prelude.{MayAct, HasActed}
use Rattle.vyrd_live.proofs.SendingLaws.{sent_same}
use Rattle.vyrd_live.proofs.acting.act.Goals as goal

-- what an act asks of a hand doesn't depend on what the hand found
may_still : (plan : Plan) (hand : HandView) (look : Look) (act : Act) → MayAct plan hand act
    → MayAct plan (with_look hand look) act
may_still plan hand look (Load cell) may = may
may_still plan hand look (Store cell value) may = may
may_still plan hand look (Take lock) may = may
may_still plan hand look (Give lock) may = may
may_still plan hand look (Mark kind) may = may
may_still plan hand look Done may = may

acted_from : (act : Act) (answer : ℕ) (hand now after : HandView) (look : Look)
    → now ≡ with_look hand look → HasActed act answer now after
    → HasActed act answer hand after
acted_from act answer hand now after look is acted = record {
  did = acted.did;
  number = acted.number;
  event = acted.event;
  answered = acted.answered;
  hand = acted.hand ∙ ap (λ (v : HandView). with_one_more v acted.number acted.did after.look) is;
}

pub try_act-requires-clause-may : goal.try_act-requires-clause-may
try_act-requires-clause-may g c =
    subst (λ (v : HandView). MayAct c.args.traced.now.plan v c.args.act) (sym c.loop.invariant.hand)
    (may_still c.args.traced.now.plan c.args.hand.now c.loop.hand.look c.args.act c.requires.may)

pub pass_round-requires : goal.pass_round-requires
pass_round-requires g c =
    let hand = c.in_default.ensures.busy
    ∙ ap (λ (v : HandView). with_look v c.try_act.new.hand.look) c.loop.invariant.hand in
    sent_same c.args.relay.now c.loop.outbox.sender c.loop.outbox.place c.args.hand.now
    c.try_act.new.hand
    (ap (λ (v : HandView). v.caller) hand) (ap (λ (v : HandView). v.lane) hand)
    (ap (λ (v : HandView). v.forgotten) hand) c.loop.invariant.sent

pub loop-preserved : goal.loop-preserved
loop-preserved g c =
    let hand = c.in_default.ensures.busy
    ∙ ap (λ (v : HandView). with_look v c.try_act.new.hand.look) c.loop.invariant.hand in record {
      hand = hand;
      sent = sent_same c.args.relay.now c.pass_round.new.self.sender c.pass_round.new.self.place
          c.try_act.new.hand c.args.hand.now
          (sym (ap (λ (v : HandView). v.caller) hand)) (sym (ap (λ (v : HandView). v.lane) hand))
          (sym (ap (λ (v : HandView). v.forgotten) hand))
          c.pass_round.ensures;
    }

pub returns-in-Some-try_act-clause-acted : goal.returns-in-Some-try_act-clause-acted
returns-in-Some-try_act-clause-acted g c =
    acted_from c.args.act c.in-Some-try_act.answer c.args.hand.now c.loop.hand c.try_act.new.hand
    c.loop.hand.look c.loop.invariant.hand
    c.in-Some-try_act.ensures.acted

pub returns-in-Some-try_act-clause-sent : goal.returns-in-Some-try_act-clause-sent
returns-in-Some-try_act-clause-sent g c = c.loop.invariant.sent
