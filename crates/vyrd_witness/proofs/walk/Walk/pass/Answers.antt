use Rattle.std.proofs.Common.{ap, ◌∙◌, arith, vec_len}
use Rattle.vyrd_witness.proofs.EffectLaws.{pass_next}
use Rattle.vyrd_witness.proofs.WrittenLaws.{there_fit}
use Rattle.vyrd_witness.proofs.walk.Walk.pass.Goals as goal

pub apply-requires : goal.apply-requires
apply-requires c = record {
  within = there_fit c.args.header c.args.front.now c.loop-at.at (vec_len c.step.new.self.words)
      c.deref.result.now c.requires.kept
      (ap vec_len c.in_ok-effects.ensures.words ∙ c.loop-at.invariant.count)
      (c.deref.ensures.value ∙ c.in_ok-effects.ensures.effects);
}

pub loop-at-preserved : goal.loop-at-preserved
loop-at-preserved c = record {
  words = pass_next c.args.front.now 0 c.loop-at.at c.deref.result.now
      c.args.self.now.words.items c.step.new.self.words.items c.apply.new.words.items (omega arith)
      (c.deref.ensures.value ∙ c.in_ok-effects.ensures.effects)
      (ap (λ v. v.items) c.in_ok-effects.ensures.words ∙ c.loop-at.invariant.words)
      c.apply.ensures.words;
  count = c.apply.ensures.count ∙ ap vec_len c.in_ok-effects.ensures.words
      ∙ c.loop-at.invariant.count;
  phases = c.in_ok-effects.ensures.next;
}
