use Rattle.vyrd_plain.proofs.Prelude.{◌<◌, sym, subst, ap, ◌∙◌, plain_words}
use Rattle.vyrd_plain.proofs.EffectFacts.{written_next, other_next, quiet_next, word_fits}
use Rattle.vyrd_plain.proofs.effects.Effects.write_all.Goals as goal
use Rattle.vyrd_plain.proofs.effects.Effects.write_all.Goals.{then-entry-caller+in-Write}
use Rattle.vyrd_plain.proofs.effects.Effects.write_all.Goals.{then-entry-caller+in_default}
use Rattle.vyrd_plain.proofs.effects.Effects.write_all.Goals.{else-entry-caller}

pub index_mut-requires : goal.index_mut-requires
index_mut-requires c =
    let fits = word_fits c.args.self.now.header c.args.front.now c.loop-at.at
    c.entry_at-entry.result c.in-Write.word c.in-Write.value
    c.entry_at-entry.ensures c.in-Write.is c.requires.kept in
    subst (λ n. c.in-Write.word < n)
    (sym (c.loop-at.self.all_words ∙ ap plain_words c.loop-at.invariant.header)) fits

pub loop-at-preserved : goal.loop-at-preserved
loop-at-preserved c =
    let h = c.args.self.now.header in
    let front = c.args.front.now in
    let r = c.entry_at-entry.result in
    elim c.if-entry-caller.branch [
      | then-entry-caller+in-Write w ↦
          let fits = word_fits h front c.loop-at.at r w.in-Write.word w.in-Write.value
          c.entry_at-entry.ensures w.in-Write.is c.requires.kept in
          record {
            header = ap (λ s. s.header) w.self-is ∙ c.loop-at.invariant.header;
            open_blocks = ap (λ s. s.open_blocks) w.self-is ∙ c.loop-at.invariant.open_blocks;
            words = λ before starts. ap (λ s. s.words.items) w.self-is
                ∙ written_next h c.args.caller front c.args.from c.loop-at.at r w.in-Write.word
                w.in-Write.value c.loop-at.self.words.items before
                c.loop-at.auto.at c.entry_at-entry.ensures w.if-entry-caller.true w.in-Write.is fits
                (c.loop-at.invariant.words before starts);
          }
      | then-entry-caller+in_default w ↦ record {
        header = ap (λ s. s.header) w.self-is ∙ c.loop-at.invariant.header;
        open_blocks = ap (λ s. s.open_blocks) w.self-is ∙ c.loop-at.invariant.open_blocks;
        words = λ before starts. ap (λ s. s.words.items) w.self-is
            ∙ quiet_next h c.args.caller front c.args.from c.loop-at.at r c.loop-at.self.words.items
            before
            c.loop-at.auto.at c.entry_at-entry.ensures w.in_default.not-Write
            (c.loop-at.invariant.words before starts);
      }
      | else-entry-caller w ↦ record {
        header = ap (λ s. s.header) w.self-is ∙ c.loop-at.invariant.header;
        open_blocks = ap (λ s. s.open_blocks) w.self-is ∙ c.loop-at.invariant.open_blocks;
        words = λ before starts. ap (λ s. s.words.items) w.self-is
            ∙ other_next h c.args.caller front c.args.from c.loop-at.at r c.loop-at.self.words.items
            before
            c.loop-at.auto.at c.entry_at-entry.ensures w.if-entry-caller.false
            (c.loop-at.invariant.words before starts);
      }
    ]
