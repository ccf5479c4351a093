-- Effects without their positions.
use Rattle.std.specs.Prelude.{ℕ, List, map}
use Rattle.vyrd_base.specs.Places.{newest_first}
use Rattle.vyrd_witness.specs.declared.effect.Effect.{Effect}

-- the word and the value
abbrev pub plain : Effect → ℕ × ℕ
plain e = (e.word, e.value)

-- the words and the values, the last effect first
abbrev pub plain_writes : List Effect → List (ℕ × ℕ)
plain_writes effects = newest_first (map plain effects)
