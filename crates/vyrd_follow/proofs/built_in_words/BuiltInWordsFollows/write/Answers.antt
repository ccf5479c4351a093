use Rattle.vyrd_follow.proofs.Prelude.{◌++◌, ap, ◌∙◌, sym, slice_index, rules_of, view_of_words}
use Rattle.vyrd_follow.specs.WordsBy.{WordsBy}
use Rattle.vyrd_follow.proofs.TurnLaws.{nothing_written, written_back, word_read, kept_shown}
use Rattle.vyrd_follow.proofs.built_in_words.BuiltInWordsFollows.write.Goals as goal
use Rattle.vyrd_follow.proofs.built_in_words.BuiltInWordsFollows.write.Goals.{in-Some}
use Rattle.vyrd_follow.proofs.built_in_words.BuiltInWordsFollows.write.Goals.{in-None+in_ok-shown-in-None}

pub returns-then-was-effect-clause-items : goal.returns-then-was-effect-clause-items
returns-then-was-effect-clause-items c =
    let s = c.args.self.now in
    let e = c.args.effect in
    let was = c.index-was.result.now in
    let words_are = ap (λ (v : WordsBy). v.words) c.self.view_is in
    let here = word_read c.self.inside.words.items s.words e.word was words_are c.requires.within
    c.index-was.ensures ∙ ap (λ ws. slice_index ws c.args.effect.word) words_are in
    c.in_ok-push.ensures.items
    ∙ ap (λ more. c.args.items.now.items ++ more)
    (sym (nothing_written (rules_of s.header) s.words e was here c.if-was-effect.true))

pub put_items-requires-clause-shown : goal.put_items-requires-clause-shown
put_items-requires-clause-shown c =
    let header = c.self.inside.header in
    let words = c.self.inside.words.items in
    let e = c.args.effect in
    let was = c.index-was.result.now in
    let here = word_read words c.args.self.now.words e.word was
    (ap (λ (v : WordsBy). v.words) c.self.view_is) c.requires.within c.index-was.ensures in
    let back = written_back words c.deref-2.result.now e.word e.value was c.deref-2.ensures.value
    here in
    elim c.match-take.branch [
      | in-Some w ↦
          w.shown-is
          ∙ kept_shown c.self.inside.shown (view_of_words header words) w.in-Some.shown
          c.self.invariant.shown (sym w.in-Some.is ∙ c.take.ensures.value)
          ∙ ap (view_of_words header) back
      | in-None+in_ok-shown-in-None w ↦
          w.shown-is ∙ w.in_ok-shown-in-None.ensures
          ∙ ap (view_of_words header) (w.deref.ensures.value ∙ back)
    ]
