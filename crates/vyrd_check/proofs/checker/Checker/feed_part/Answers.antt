use Rattle.vyrd_check.proofs.Prelude.{◌+◌, ◌≤◌, ◌++◌, ap, subst, sym, ◌∙◌, IsLimit, CheckerState}
use Rattle.vyrd_check.proofs.Prelude.{FollowsBy, HasChecked, bytes_cost, debt_after, checker_debt}
use Rattle.std.proofs.Math.Logic.{∥∥₁_map}
use Rattle.vyrd_check.proofs.CostLaws.{part_paid}
use Rattle.vyrd_check.proofs.checker.Checker.feed_part.Goals as goal

pub invariant_of-self : goal.invariant_of-self
invariant_of-self g c = record {
  limit = subst IsLimit (sym c.in-Ok.ensures.limit) c.self.invariant.limit;
  somewhere = λ works none.
      ∥∥₁_map (c.self.invariant.somewhere works (ap (λ (k : CheckerState). k.so_far) c.self.view_is
      ∙ c.requires.undecided))
      (λ s. (s.0 ++ c.args.part.now, c.in-Ok.ensures.undecided s.0 s.1 none));
}

pub returns-in-Ok-clause-steps : goal.returns-in-Ok-clause-steps
returns-in-Ok-clause-steps g c = λ bytes checked.
    let old : CheckerState = record {
      kept = c.self.inside.text;
      so_far = c.self.inside.so_far;
      has_failed = c.self.inside.has_failed;
    } in
    let none = ap (λ (k : CheckerState). k.so_far) c.self.view_is ∙ c.requires.undecided in
    let before : HasChecked old bytes =
    subst (λ k. HasChecked k bytes) (sym c.self.view_is) checked in
    let undecided = subst (FollowsBy c.self.inside.text bytes) none before.follows in
    subst (λ (k : CheckerState). c.take_in.new.steps
    + debt_after c.in-Ok.verdict c.take_in.new.self (bytes ++ c.args.part.now)
    + bytes_cost k.kept.reader.max_lines bytes
    ≤ c.args.steps.now + checker_debt k bytes
    + bytes_cost k.kept.reader.max_lines (bytes ++ c.args.part.now)) c.self.view_is
    (part_paid old c.take_in.new.self c.in-Ok.verdict bytes c.args.part.now c.args.steps.now
    c.take_in.new.steps none (c.in-Ok.ensures.steps bytes undecided))
