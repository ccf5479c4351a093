use Rattle.vyrd_own_text.proofs.Prelude.{◌≡◌, ◌++◌, take, drop, word_of, after_word}
use Rattle.vyrd_own_text.proofs.text.word_end.Given as goal

abbrev pub invariant-loop-i : goal.invariant-loop-i
invariant-loop-i l =
    (word_of l.text ≡ take l.i l.text ++ word_of (drop l.i l.text))
    × (after_word l.text ≡ after_word (drop l.i l.text))
