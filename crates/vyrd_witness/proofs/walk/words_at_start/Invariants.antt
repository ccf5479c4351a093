use Rattle.vyrd_witness.proofs.Prelude.{◌≡◌, ◌-◌, length, drop, words_at_start}
use Rattle.vyrd_witness.proofs.walk.words_at_start.Given as goal

abbrev pub invariant-loop-i : goal.invariant-loop-i
invariant-loop-i l =
    l.words.items ≡ words_at_start l.fn.header (drop (length l.starting - l.i) l.starting)
