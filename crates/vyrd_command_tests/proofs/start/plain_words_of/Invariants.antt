use Rattle.std.proofs.Common.{◌≡◌, ◌<◌, ◌^◌, ℕ, List, length, slice_index}
use Rattle.vyrd_base.specs.Layout.{plain_words}
use Rattle.vyrd_command_tests.proofs.start.plain_words_of.Given as goal

pub record IsPlain (words : List ℕ) (count : ℕ) : Type 0 where
  pub all : length words ≡ count
  pub low : (w : ℕ) → slice_index words w < 2 ^ 63

abbrev pub invariant-loop-i : goal.invariant-loop-i
invariant-loop-i l = IsPlain l.plain.items (plain_words l.fn.header)
