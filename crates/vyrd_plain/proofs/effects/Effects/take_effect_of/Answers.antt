use Rattle.vyrd_plain.proofs.Prelude.{◌≡◌, [], ◌++◌, ◌+◌, cond, Some, take, drop, refl, sym, subst}
use Rattle.vyrd_plain.proofs.Prelude.{ap, ◌∙◌, arith, length-take, newest_first, effects_at}
use Rattle.vyrd_plain.proofs.Prelude.{words_with, writes_ahead, writes_in}
use Rattle.std.proofs.lemmas.Bool.{not-false}
use Rattle.vyrd_plain.proofs.EffectFacts.{commit_effects, end_effects, inner_effects, one_read}
use Rattle.vyrd_plain.proofs.effects.Effects.take_effect_of.Goals as goal

pub write_all-requires-clause-order : goal.write_all-requires-clause-order
write_all-requires-clause-order c =
    let block = c.requires.block _ c.entry_at-entry.ensures in
    omega (arith, block.before, length-take c.args.at c.args.front.now)

pub write_all-requires-then-not-block-clause-order :
    goal.write_all-requires-then-not-block-clause-order
write_all-requires-then-not-block-clause-order c =
    let block = c.requires.block _ c.entry_at-entry.ensures in
    omega (arith, block.before, length-take c.args.at c.args.front.now)

pub returns-in-Some-clause-words : goal.returns-in-Some-clause-words
returns-in-Some-clause-words c = λ e before is starts.
    let h = c.args.self.now.header in
    let front = c.args.front.now in
    let r = c.entry_at-entry.result in
    let ahead = ap (writes_ahead r.caller) (sym c.split_at.ensures.back) ∙ c.in-Some.ensures.writes
    ∙ ap (λ later. Some (writes_in r.caller (take c.in-Some.len later))) c.split_at.ensures.back in
    let effects = commit_effects front c.args.at c.in-Some.len r c.args.block
    c.entry_at-entry.ensures c.in-Commit.is
    (c.requires.block r c.entry_at-entry.ensures) ahead in
    subst (λ x. c.write_all.new.self.words.items ≡ words_with h []
    (effects_at (newest_first (take c.args.at front)) x.caller x.kind (drop (c.args.at + 1) front)
    ++ before)) (one_read c.entry_at-entry.ensures is)
    (c.write_all.ensures.words before starts ∙ ap (λ ws. words_with h [] (ws ++ before)) effects)

pub returns-else-not-block-clause-words : goal.returns-else-not-block-clause-words
returns-else-not-block-clause-words c = λ e before is starts.
    let h = c.args.self.now.header in
    let front = c.args.front.now in
    let r = c.entry_at-entry.result in
    let effects = end_effects front c.args.at r c.args.block c.in-BlockClose.is
    (c.requires.block r c.entry_at-entry.ensures)
    ∙ ap (λ b. cond b [] (writes_in r.caller (drop c.args.block.opened (take c.args.at front))))
    (not-false _ c.if-not-block.false) in
    subst (λ x. c.args.self.now.words.items ≡ words_with h []
    (effects_at (newest_first (take c.args.at front)) x.caller x.kind (drop (c.args.at + 1) front)
    ++ before)) (one_read c.entry_at-entry.ensures is)
    (starts ∙ ap (λ ws. words_with h [] (ws ++ before)) (sym effects))

pub returns-in_default : goal.returns-in_default
returns-in_default c = record {
  words = λ e before is starts.
      let h = c.args.self.now.header in
      let front = c.args.front.now in
      let r = c.entry_at-entry.result in
      let effects = inner_effects front c.args.at r c.args.block
      (c.requires.block r c.entry_at-entry.ensures)
      c.in_default.not-Commit c.in_default.not-BlockClose c.in_default.not-BlockCommit in
      subst (λ x. c.args.self.now.words.items ≡ words_with h []
      (effects_at (newest_first (take c.args.at front)) x.caller x.kind (drop (c.args.at + 1) front)
      ++ before)) (one_read c.entry_at-entry.ensures is)
      (starts ∙ ap (λ ws. words_with h [] (ws ++ before)) (sym effects));
  open_blocks = refl;
  header = refl;
}
