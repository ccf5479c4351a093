use Rattle.vyrd_words.proofs.Prelude.{◌++◌, ◌∷◌, [], get_or, map, ap, sym, ◌∙◌, StartWord}
use Rattle.std.proofs.lemmas.List.{map_more}
use Rattle.vyrd_base.proofs.FrontLaws.{take_past}
use Rattle.vyrd_words.proofs.starting.words_of.Goals as goal

pub loop-s-preserved : goal.loop-s-preserved
loop-s-preserved c = c.in_ok-push.ensures.items
    ∙ ap (λ xs. xs
    ++ (get_or c.args.start.now c.loop-s.s-index (record { word = 0; value = 0 })).word
    ∷ []) c.loop-s.invariant
    ∙ sym (map_more (λ (s : StartWord). s.word) c.args.start.now c.loop-s.s-index
    (record { word = 0; value = 0 }) c.loop-s-test.true)

pub returns : goal.returns
returns c = c.loop-s.invariant
    ∙ ap (map (λ (s : StartWord). s.word))
    (take_past c.args.start.now c.loop-s.s-index c.loop-s.auto.s-index-end c.loop-s-test.false)
