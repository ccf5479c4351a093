use Rattle.std.proofs.Common.{ℕ, ◌<◌, get_or}
use Rattle.vyrd_view.proofs.room.are_below.Given as goal

abbrev pub invariant-loop-word : goal.invariant-loop-word
invariant-loop-word l = (i : ℕ) → i < l.word-index → get_or l.changed i 0 < l.words
