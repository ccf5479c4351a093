use Rattle.vyrd_words.proofs.Prelude.{◌≡◌, map, take, StartWord}
use Rattle.vyrd_words.proofs.starting.words_of.Given as goal

abbrev pub invariant-loop-s : goal.invariant-loop-s
invariant-loop-s l = l.words.items ≡ map (λ (s : StartWord). s.word) (take l.s-index l.fn.start)
