use Rattle.vyrd_witness.proofs.Prelude.{◌≡◌, ap, ◌∙◌, vec_len, Rules, rules_by, words_through}
use Rattle.vyrd_witness.proofs.Prelude.{effects_along}
use Rattle.vyrd_witness.proofs.EffectLaws.{pass_next, changes_next}
use Rattle.vyrd_witness.proofs.WrittenLaws.{there_fit}
use Rattle.vyrd_witness.proofs.walk.Walk.changes.Goals as goal

pub push_changes-requires-clause-within : goal.push_changes-requires-clause-within
push_changes-requires-clause-within g c =
    there_fit (rules_by (g.S.Shown.charter c.args.shown.now)).header c.args.front.now c.loop-at.at
    (vec_len c.step.new.self.words) c.deref.result.now c.requires.kept
    (ap vec_len c.in_ok-effects.ensures.words ∙ c.loop-at.invariant.count ∙ c.requires.count)
    (c.deref.ensures.value ∙ c.in_ok-effects.ensures.effects)

pub loop-at-preserved : goal.loop-at-preserved
loop-at-preserved g c =
    let r : Rules = rules_by (g.S.Shown.charter c.args.shown.now) in
    let front = c.args.front.now in
    let at = c.loop-at.at in
    let words = c.args.self.now.words.items in
    let mid = c.step.new.self.words.items in
    let new = c.push_changes.new in
    let pushed = c.in_ok-push_changes.ensures in
    let effects = c.deref.ensures.value ∙ c.in_ok-effects.ensures.effects in
    let same = c.in_ok-effects.ensures.words in
    let before : mid ≡ words_through words (effects_along front c.args.from at) =
    cc (c.loop-at.invariant.words) in
    let key = c.loop-at.invariant.key in
    record {
      words = pass_next front c.args.from at c.deref.result.now words mid new.words.items
          c.loop-at.auto.at effects before pushed.words;
      count = pushed.count ∙ ap vec_len same ∙ c.loop-at.invariant.count;
      phases = rw (← c.header-header.ensures)
          c.in_ok-effects.ensures.next;
      key = pushed.key ∙ key;
      here = cc (pushed.there);
      changes = changes_next r c.args.followed.now.key front c.args.from at c.deref.result.now
          words mid c.loop-at.changes.items new.changes.items c.loop-at.auto.at effects before
          c.loop-at.invariant.changes
          (rw (← key) pushed.changes);
    }
