use Rattle.vyrd_judge.proofs.Prelude.{Some, ◌+◌, ◌≤◌, sym, subst, arith, IfOk-weaker, rules_by}
use Rattle.vyrd_judge.proofs.Prelude.{debt, debt_by, IsCatchingUp, MayCatchUp, AdvanceGives}
use Rattle.vyrd_judge.proofs.Prelude.{with_first}
use Rattle.vyrd_judge.proofs.FollowerLaws.{caught_up, may_catch_up_on}
use Rattle.vyrd_judge.proofs.CostLaws.{at_most_then}
use Rattle.vyrd_judge.proofs.follower.Follower.catch_up.Goals as goal

pub judge-requires-clause-may : goal.judge-requires-clause-may
judge-requires-clause-may g c = subst (λ first. MayCatchUp first c.args.self.now) c.in-Some.is
    c.requires.may

pub go_on-requires-clause-may : goal.go_on-requires-clause-may
go_on-requires-clause-may g c = may_catch_up_on c.requires.may (λ starting log going.
    subst (AdvanceGives (rules_by c.args.self.now.charter) starting log c.judge.new.self)
    c.in-Goes.is
    (c.in_ok-judge.ensures.gives starting log
    (subst (λ first. IsCatchingUp first c.args.self.now starting log) c.in-Some.is going)))

pub returns-in_default-clause-answer : goal.returns-in_default-clause-answer
returns-in_default-clause-answer g c = λ starting log going. grind (arith, starting, caught_up)

pub returns-in_default-clause-follows : goal.returns-in_default-clause-follows
returns-in_default-clause-follows g c =
    λ starting log going none. grind (arith, starting, caught_up)

pub returns-in-Goes-None-clause-follows : goal.returns-in-Goes-None-clause-follows
returns-in-Goes-None-clause-follows g c =
    λ starting log going none. grind (arith, starting, caught_up)

pub returns-in-Goes-None-clause-answer : goal.returns-in-Goes-None-clause-answer
returns-in-Goes-None-clause-answer g c =
    λ starting log going. grind (arith, c.judge.ensures.charter, starting, caught_up)

pub returns-in_default-clause-steps : goal.returns-in_default-clause-steps
returns-in_default-clause-steps g c = λ starting log going. grind (arith, c.in_default.is)

pub returns-in-Goes-None-clause-steps : goal.returns-in-Goes-None-clause-steps
returns-in-Goes-None-clause-steps g c =
    λ starting log going. grind (
      arith,
      c.in-Some.is,
      c.in-Goes-None.is,
      c.in-Goes-None.field-0-is,
      starting,
    )

pub returns-in-Goes-clause-steps : goal.returns-in-Goes-clause-steps
returns-in-Goes-clause-steps g c = λ starting log going.
    let here = subst (λ first. IsCatchingUp first c.args.self.now starting log) c.in-Some.is
    going in
    let one = subst (λ first. c.judge.new.steps + debt g.S.Compared.Compare.price
    g.S.Spec.most_touched (with_first c.in-Goes.next c.judge.new.self)
    log ≤ c.args.steps.now + debt g.S.Compared.Compare.price g.S.Spec.most_touched (with_first first
    c.args.self.now) log) (sym c.in-Some.is)
    (subst (λ a. c.judge.new.steps + debt_by g.S.Compared.Compare.price g.S.Spec.most_touched a
    c.judge.new.self log ≤ c.args.steps.now + debt g.S.Compared.Compare.price g.S.Spec.most_touched
    (with_first (Some c.in-Some.x) c.args.self.now) log) c.in-Goes.is
    (c.in_ok-judge.ensures.steps starting log here)) in
    IfOk-weaker c.go_on.result _ _ (λ v paid. at_most_then paid one)
    (c.go_on.ensures.steps starting log
    (subst (AdvanceGives (rules_by c.args.self.now.charter) starting log c.judge.new.self)
    c.in-Goes.is (c.in_ok-judge.ensures.gives starting log here)))
