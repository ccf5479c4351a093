-- The writes that take effect along a log, each with the positions where it was written and where
-- it takes effect. They are the effects of the numbered log: that of a word and a position is the
-- write at that position, to that word.
use Rattle.std.specs.Prelude.{ℕ, ◌+◌, ◌-◌, List, [], map, take, drop, slice_get, flat_map}
use Rattle.std.specs.Option.{option_map_or}
use Rattle.vyrd_base.specs.declared.log.Kind.{Kind}
use Rattle.vyrd_base.specs.declared.log.Kind.TheVariants.{Write}
use Rattle.vyrd_base.specs.declared.log.Entry.{Entry}
use Rattle.vyrd_base.specs.Places.{newest_first, numbers_from}
use Rattle.vyrd_base.specs.Words.{effects_at}
use Rattle.vyrd_witness.specs.declared.effect.Effect.{Effect}
use Rattle.vyrd_witness.specs.Numbered.{numbered, numbered_kind}

-- the value that is written, and 0 if none is
abbrev pub value_of : Kind → ℕ
value_of (Write word value) = value
value_of _ = 0

-- the value that the entry at a position writes
abbrev pub value_at : List Entry → ℕ → ℕ
value_at log position = option_map_or (λ e. value_of e.kind) (slice_get log position) 0

-- the write of the caller to a word, by its position, that takes effect at an entry
abbrev pub effect_of : List Entry → ℕ → ℕ → ℕ × ℕ → Effect
effect_of log at c write = record {
  written = write.1;
  at = at;
  caller = c;
  word = write.0;
  value = value_at log write.1;
}

-- the writes that take effect at the entry that stands at a position, the first to do so first
abbrev pub effects_by : List Entry → ℕ → Entry → List Effect
effects_by log at e = map (effect_of log at e.caller) (newest_first
    (effects_at (newest_first (take at (numbered log))) e.caller (numbered_kind at e.kind)
    (drop (at + 1) (numbered log))))

-- the same of a position, where an entry may stand
abbrev pub effects_there : List Entry → ℕ → List Effect
effects_there log at = option_map_or (effects_by log at) (slice_get log at) []

-- the writes that take effect from one position on and before another, the first to do so first
abbrev pub effects_along : List Entry → ℕ → ℕ → List Effect
effects_along log from to = flat_map (effects_there log) (numbers_from from (to - from))
