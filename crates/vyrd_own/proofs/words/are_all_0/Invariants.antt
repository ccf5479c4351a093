use Rattle.vyrd_own.proofs.Prelude.{◌≡◌, drop, ◌==◌, list_all}
use Rattle.vyrd_own.proofs.words.are_all_0.Given as goal

abbrev pub invariant-loop-word : goal.invariant-loop-word
invariant-loop-word l =
    list_all (λ word. word == 0) (drop l.word-index l.words) ≡ list_all (λ word. word == 0) l.words
