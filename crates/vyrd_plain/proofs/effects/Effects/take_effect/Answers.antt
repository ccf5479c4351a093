use Rattle.vyrd_plain.proofs.Prelude.{◌≡◌, ◌<◌, [], ◌++◌, ◌+◌, slice_set, take, drop, refl, sym}
use Rattle.vyrd_plain.proofs.Prelude.{subst, ap, ◌∙◌, newest_first, effects_at, words_with}
use Rattle.vyrd_plain.proofs.Prelude.{IsBlockOf}
use Rattle.vyrd_plain.proofs.EffectFacts.{one_effect, write_effects, outer_effects, word_fits}
use Rattle.vyrd_plain.proofs.EffectFacts.{one_read}
use Rattle.vyrd_plain.proofs.effects.Effects.take_effect.Goals as goal

pub index_mut-requires : goal.index_mut-requires
index_mut-requires c =
    let fits = word_fits c.args.self.now.header c.args.front.now c.args.at c.entry_at.result
    c.in-Write.word c.in-Write.value
    c.entry_at.ensures c.in-Write.is c.requires.kept in
    subst (λ n. c.in-Write.word < n) (sym c.args.self.now.all_words) fits

pub returns-in-Write-clause-words : goal.returns-in-Write-clause-words
returns-in-Write-clause-words c = λ e before is starts.
    let h = c.args.self.now.header in
    let front = c.args.front.now in
    let r = c.entry_at.result in
    let fits = word_fits h front c.args.at r c.in-Write.word c.in-Write.value c.entry_at.ensures
    c.in-Write.is c.requires.kept in
    let outside = subst (IsBlockOf (take c.args.at front) r.caller) c.in-None.is
    (c.requires.block r c.entry_at.ensures) in
    let effects = write_effects front c.args.at r c.in-Write.word c.in-Write.value c.in-Write.is
    outside in
    subst (λ x. slice_set c.args.self.now.words.items c.in-Write.word c.in-Write.value
    ≡ words_with h []
    (effects_at (newest_first (take c.args.at front)) x.caller x.kind (drop (c.args.at + 1) front)
    ++ before)) (one_read c.entry_at.ensures is)
    (ap (λ words. slice_set words c.in-Write.word c.in-Write.value) starts
    ∙ sym (one_effect h c.in-Write.word c.in-Write.value before fits)
    ∙ ap (λ ws. words_with h [] (ws ++ before)) (sym effects))

pub returns-in_default : goal.returns-in_default
returns-in_default c = record {
  words = λ e before is starts.
      let h = c.args.self.now.header in
      let front = c.args.front.now in
      let r = c.entry_at.result in
      let outside = subst (IsBlockOf (take c.args.at front) r.caller) c.in-None.is
      (c.requires.block r c.entry_at.ensures) in
      let effects = outer_effects h front c.args.at r c.entry_at.ensures c.requires.kept outside
      c.in_default.not-Write in
      subst (λ x. c.args.self.now.words.items ≡ words_with h []
      (effects_at (newest_first (take c.args.at front)) x.caller x.kind (drop (c.args.at + 1) front)
      ++ before)) (one_read c.entry_at.ensures is)
      (starts ∙ ap (λ ws. words_with h [] (ws ++ before)) (sym effects));
  open_blocks = refl;
  header = refl;
}
