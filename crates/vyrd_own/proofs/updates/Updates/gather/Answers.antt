use Rattle.vyrd_own.proofs.Prelude.{ap, sym, ◌∙◌, arith, ◌||◌}
use Rattle.vyrd_own.proofs.ApartLaws.{clears_more, shown_more, hidden_more, or_of}
use Rattle.vyrd_own.proofs.updates.Updates.gather.Goals as goal
use Rattle.vyrd_own.proofs.updates.Updates.gather.Goals.{then-branch, else-branch}

pub loop-effect-preserved : goal.loop-effect-preserved
loop-effect-preserved g c = record {
  clears = clears_more c.args.effects.now c.loop-effect.effect-index _ c.loop-effect.clears
      c.in_ok-clears.clears c.if-branch.clears _
      c.loop-effect-test.true c.loop-effect.invariant.clears c.in_ok-clears.ensures.clears
      (elim c.if-branch.branch [
        | then-branch w ↦ w.clears-is ∙ or_of c.in_ok-clears.clears c.loop-effect.clears
            w.if-branch.true
        | else-branch w ↦ w.clears-is ∙ sym (ap (λ b. b || c.loop-effect.clears) w.if-branch.false)
      ]);
  shown = shown_more c.args.effects.now c.loop-effect.effect-index _
      c.loop-effect.self.shown.items c.gather_one.new.self.shown.items _
      c.loop-effect-test.true c.loop-effect.invariant.shown c.in_ok-clears.ensures.shown;
  hidden = hidden_more c.args.effects.now c.loop-effect.effect-index _
      c.loop-effect.self.hidden.items c.gather_one.new.self.hidden.items _
      c.loop-effect-test.true c.loop-effect.invariant.hidden c.in_ok-clears.ensures.hidden;
  steps = omega (arith, c.loop-effect.invariant.steps, c.tick.ensures);
}
