use Rattle.vyrd_words.proofs.Prelude.{◌≡◌, take, words_at_start}
use Rattle.vyrd_words.proofs.starting.words_at_start.Given as goal

abbrev pub invariant-loop-s : goal.invariant-loop-s
invariant-loop-s l = l.words.items ≡ words_at_start l.fn.header (take l.s-index l.fn.start)
