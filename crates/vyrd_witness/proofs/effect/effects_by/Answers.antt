use Rattle.vyrd_witness.proofs.Prelude.{ap, ◌∙◌, ◌∷◌, ◌++◌, [], arith, slice_get_within}
use Rattle.std.proofs.lemmas.Result.{IfOk-weaker}
use Rattle.vyrd_witness.proofs.EffectKinds.{is_phase, write_inside, write_outside, commit_inside}
use Rattle.vyrd_witness.proofs.EffectKinds.{commit_outside, end_committed, end_alone}
use Rattle.vyrd_witness.proofs.effect.effects_by.Goals as goal

pub returns-then-phase : goal.returns-then-phase
returns-then-phase = grind (arith, write_inside, is_phase)

pub effects_of_commit-requires : goal.effects_of_commit-requires
effects_of_commit-requires c =
    slice_get_within c.args.front.now c.args.at c.args.entry c.requires.here

pub effects_of_end-requires : goal.effects_of_end-requires
effects_of_end-requires c =
    grind (arith, slice_get_within c.args.front.now c.args.at c.args.entry c.requires.here)

pub returns-in_ok-push-in-Write : goal.returns-in_ok-push-in-Write
returns-in_ok-push-in-Write c =
    c.in_ok-push-in-Write.ensures.items
    ∙ ap (λ es. es ++ record {
      written = c.args.at;
      at = c.args.at;
      caller = c.args.entry.caller;
      word = c.in-Write.word;
      value = c.in-Write.value;
    } ∷ []) c.new-effects.ensures.items
    ∙ write_outside c.args.front.now c.args.at c.in-Write.word c.in-Write.value c.args.entry
    c.args.phase c.requires.here
    (is_phase c.args.front.now c.args.at c.args.entry c.args.phase c.requires.phase) c.in-Write.is
    c.if-phase.false

pub returns-then-phase-2 : goal.returns-then-phase-2
returns-then-phase-2 c = IfOk-weaker c.effects_of_commit.result _ _
    (λ es found. commit_inside c.args.front.now c.args.at c.args.entry c.args.phase es.items
    (is_phase c.args.front.now c.args.at c.args.entry c.args.phase c.requires.phase)
    c.in-Commit.is c.if-phase-2.true found) c.effects_of_commit.ensures

pub returns-else-phase-2 : goal.returns-else-phase-2
returns-else-phase-2 = grind (arith, commit_outside, is_phase)

pub returns-then-phase-3 : goal.returns-then-phase-3
returns-then-phase-3 = grind (arith, end_committed, is_phase)

pub returns-else-phase-3 : goal.returns-else-phase-3
returns-else-phase-3 c = IfOk-weaker c.effects_of_end.result _ _
    (λ es found. end_alone c.args.front.now c.args.at c.args.entry c.args.phase es.items
    (is_phase c.args.front.now c.args.at c.args.entry c.args.phase c.requires.phase)
    c.in-BlockClose.is c.if-phase-3.false found) c.effects_of_end.ensures
