use Rattle.std.proofs.lemmas.Option.{slice_get-get_or}
use Rattle.vyrd_plain.proofs.EffectFacts.{goes_on_past, ahead_next}
use Rattle.vyrd_plain.proofs.effects.len_to_end.Goals as goal
use Rattle.vyrd_plain.proofs.effects.len_to_end.Goals.{then-entry-caller+in_default}
use Rattle.vyrd_plain.proofs.effects.len_to_end.Goals.{else-entry-caller}

pub loop-i-preserved : goal.loop-i-preserved
loop-i-preserved c = elim c.if-entry-caller.branch [
  | then-entry-caller+in_default w ↦
      ahead_next c.args.caller c.args.later.now c.loop-i.i _
      (slice_get-get_or c.args.later.now c.loop-i.i _ c.loop-i-test.true)
      (λ own. goes_on_past _ w.in_default.not-Return w.in_default.not-BlockClose
      w.in_default.not-BlockCommit) c.loop-i.invariant
  | else-entry-caller w ↦
      ahead_next c.args.caller c.args.later.now c.loop-i.i _
      (slice_get-get_or c.args.later.now c.loop-i.i _ c.loop-i-test.true)
      (λ own. absurd (w.if-entry-caller.false own)) c.loop-i.invariant
]
