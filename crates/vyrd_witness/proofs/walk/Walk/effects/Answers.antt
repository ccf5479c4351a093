use Rattle.vyrd_witness.proofs.Prelude.{ap, ◌∙◌, ◌++◌, effects_there}
use Rattle.vyrd_witness.proofs.EffectLaws.{along_next}
use Rattle.vyrd_witness.proofs.walk.Walk.effects.Goals as goal

pub loop-at-preserved : goal.loop-at-preserved
loop-at-preserved c =
    let front = c.args.front.now in
    let at = c.loop-at.at in
    record {
      phases = c.in_ok-here.ensures.next;
      effects = c.in_ok-extend_from_slice.ensures.items
          ∙ ap (λ es. c.loop-at.effects.items ++ es)
          (c.deref.ensures.value ∙ c.in_ok-here.ensures.effects)
          ∙ ap (λ es. es ++ effects_there front at) c.loop-at.invariant.effects
          ∙ along_next front c.args.from at c.loop-at.auto.at;
    }
