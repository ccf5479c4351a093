use Rattle.vyrd_own_text.proofs.Prelude.{◌≡◌, drop, place_from, texts}
use Rattle.vyrd_own_text.proofs.text.find_name.Given as goal

abbrev pub invariant-loop-i : goal.invariant-loop-i
invariant-loop-i l = place_from l.i (texts (drop l.i l.names)) l.word
    ≡ place_from 0 (texts l.names) l.word
