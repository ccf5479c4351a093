use Rattle.vyrd_judge.proofs.Prelude.{Ok, List, Some, ◌+◌, ◌≤◌, ap, sym, subst, ◌∙◌, rules_by}
use Rattle.vyrd_judge.proofs.Prelude.{Entry, StartWord, first_fault, debt, debt_by, IsCatchingUp}
use Rattle.vyrd_judge.proofs.Prelude.{MayCatchUp, AdvanceGives, with_first}
use Rattle.vyrd_judge.proofs.FollowerLaws.{caught_up, may_catch_up_on}
use Rattle.vyrd_judge.proofs.CostLaws.{at_most_then}
use Rattle.vyrd_judge.proofs.follower.Follower.go_on.Goals as goal

pub judge-requires-clause-may : goal.judge-requires-clause-may
judge-requires-clause-may g c = subst (λ next. MayCatchUp next c.loop-next.self) c.in-Some.is
    c.loop-next.invariant.may

pub loop-next-preserved : goal.loop-next-preserved
loop-next-preserved g c =
    let on = λ (starting : List StartWord) (log : List Entry) (going : IsCatchingUp c.loop-next.next
    c.loop-next.self starting log).
    subst (AdvanceGives (rules_by c.loop-next.self.charter) starting log c.judge.new.self)
    c.in-Goes.is
    (c.in_ok-more.ensures.gives starting log
    (subst (λ next. IsCatchingUp next c.loop-next.self starting log) c.in-Some.is going)) in
    record {
      header = c.judge.ensures.charter ∙ c.loop-next.invariant.header;
      shows = c.judge.ensures.shows ∙ c.loop-next.invariant.shows;
      entries = c.judge.ensures.entries ∙ c.loop-next.invariant.entries;
      going = λ starting log going. on starting log
          (c.loop-next.invariant.going starting log going);
      may = may_catch_up_on c.loop-next.invariant.may on;
      can_leave = c.judge.ensures.can_leave c.in-Goes.more (c.in_ok-more.was ∙ ap Ok c.in-Goes.is);
      paid = λ starting log going.
          let here = c.loop-next.invariant.going starting log going in
          let one = subst (λ a. c.judge.new.steps + debt_by g.S.Compared.Compare.price
          g.S.Spec.most_touched a c.judge.new.self log
          ≤ c.loop-next.steps + debt g.S.Compared.Compare.price g.S.Spec.most_touched (with_first
          (Some c.in-Some.x) c.loop-next.self) log)
          c.in-Goes.is (c.in_ok-more.ensures.steps starting log (subst
          (λ next. IsCatchingUp next c.loop-next.self starting log) c.in-Some.is here)) in
          at_most_then one (subst (λ next. c.loop-next.steps
          + debt g.S.Compared.Compare.price g.S.Spec.most_touched
          (with_first next c.loop-next.self) log
          ≤ c.args.steps.now + debt g.S.Compared.Compare.price g.S.Spec.most_touched (with_first
          c.args.first c.args.self.now) log) c.in-Some.is
          (c.loop-next.invariant.paid starting log going));
    }

pub returns-clause-answer : goal.returns-clause-answer
returns-clause-answer g c = λ starting log going.
    sym (caught_up (subst (λ next. IsCatchingUp next c.loop-next.self starting log) c.in_default.is
    (c.loop-next.invariant.going starting log going))).faultless
    ∙ ap (λ l. first_fault (rules_by l) starting log) c.loop-next.invariant.header

pub returns-clause-follows : goal.returns-clause-follows
returns-clause-follows g c = λ starting log going none.
    caught_up (subst (λ next. IsCatchingUp next c.loop-next.self starting log) c.in_default.is
    (c.loop-next.invariant.going starting log going))
