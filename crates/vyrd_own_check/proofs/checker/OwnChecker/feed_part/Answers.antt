use Rattle.vyrd_own_check.proofs.Prelude.{◌++◌, subst, sym, IsLimit, FollowsBy, checker_in, kept_in}
use Rattle.std.proofs.Math.Logic.{∥∥₁_map}
use Rattle.vyrd_own_check.proofs.CostLaws.{part_paid}
use Rattle.vyrd_own_check.proofs.checker.OwnChecker.feed_part.Goals as goal

pub invariant_of-self : goal.invariant_of-self
invariant_of-self g c = record {
  sound = record {
    limit = subst IsLimit (sym c.in-Ok.ensures.limit) c.args.self.now.sound.limit;
    somewhere = λ works none.
        ∥∥₁_map (c.args.self.now.sound.somewhere works c.requires.undecided)
        (λ s. (s.0 ++ c.args.part.now, c.in-Ok.ensures.undecided s.0 s.1 none));
  };
}

pub returns-in-Ok-clause-steps : goal.returns-in-Ok-clause-steps
returns-in-Ok-clause-steps g c = λ bytes checked.
    let old = checker_in c.args.self.now in
    let undecided = subst (FollowsBy old.kept bytes) c.requires.undecided checked.follows in
    part_paid old (kept_in c.take_in.new.self) c.in-Ok.verdict bytes c.args.part.now
    c.args.steps.now c.take_in.new.steps c.requires.undecided
    (c.in-Ok.ensures.steps bytes undecided)
