-- What is kept while a history is gone through from its end: for each caller what its block has
-- ahead, how many blocks end, and the first that is broken.
use Rattle.std.specs.Prelude.{◌≡◌, ℕ, ◌+◌, ◌<◌, ◌≤◌, Bool, true, false, List, [], ◌∷◌, length}
use Rattle.std.specs.Prelude.{slice_index_or, slice_set, Option, Some, None, if◌then◌else◌}
use Rattle.std.specs.Option.{option_map, option_or}
use Rattle.std.specs.List.{filter_map}
use Rattle.vyrd_base.specs.declared.history.Stamped.{Stamped}
use Rattle.vyrd_base.specs.Places.{places_after, first_answer}
use Rattle.vyrd_mover.specs.declared.ahead.Ahead.{Ahead}
use Rattle.vyrd_mover.specs.declared.step.Role.{Role}
use Rattle.vyrd_mover.specs.declared.step.Role.TheVariants.{Opens, Ends, Marks, Takes, Gives}
use Rattle.vyrd_mover.specs.declared.step.Role.TheVariants.{Accesses}
use Rattle.vyrd_mover.specs.Movers.{is_right_mover, is_left_mover}
use Rattle.vyrd_mover.specs.Blocks.{line_of, up_to_end, events_of, block_at, broken_at}

-- the line of an event that isn't a left mover
abbrev pub line_of_other : (ℕ → Bool) → Stamped → Option ℕ
line_of_other free e = if is_left_mover free e then None else Some (line_of e)

-- the line of the first event that isn't a left mover
abbrev pub first_not_left : (ℕ → Bool) → List Stamped → Option ℕ
first_not_left free events = first_answer (line_of_other free) events

-- the line of the last event of the shortest prefix that has no cut: after the right movers and one
-- more event, the first that isn't a left mover
abbrev pub break_line : (ℕ → Bool) → List Stamped → Option ℕ
break_line free [] = None
break_line free (e ∷ later) =
    if is_right_mover free e then break_line free later else first_not_left free later

-- what is kept of the events of a block
abbrev pub kept_of : (ℕ → Bool) → List Stamped → Ahead
kept_of free events =
    record { not_left = first_not_left free events; uncut = break_line free events }

-- what the caller has ahead up to its next block end, if there is one
abbrev pub ahead_of : (ℕ → Bool) → ℕ → List Stamped → Option Ahead
ahead_of free c later = option_map (λ rest. kept_of free (events_of c rest)) (up_to_end c later)

-- the same with one more event before it, which stands on a line
abbrev pub with_line : ℕ → Bool → Bool → Ahead → Ahead
with_line line is_left is_right ahead = record {
  not_left = if is_left then ahead.not_left else Some line;
  uncut = if is_right then ahead.uncut else ahead.not_left;
}

-- what is kept of a history from some place on: what each caller has ahead, how many blocks end,
-- and the lines of the first broken one
pub record Surveyed : Type 0 where
  pub ahead : List (Option Ahead)
  pub blocks : ℕ
  pub broken : Option (ℕ × ℕ)

-- the same with other things ahead of a caller
abbrev pub with_ahead : Surveyed → ℕ → Option Ahead → Surveyed
with_ahead s c ahead =
    record { ahead = slice_set s.ahead c ahead; blocks = s.blocks; broken = s.broken }

-- the same with a block opened before it on a line, by what its caller has ahead
abbrev pub opened_before : Surveyed → ℕ → Option Ahead → Surveyed
opened_before s line None = s
opened_before s line (Some ahead) = record {
  ahead = s.ahead;
  blocks = s.blocks + 1;
  broken = option_or (option_map (λ break. (line, break)) ahead.uncut) s.broken;
}

-- what a caller has ahead
abbrev pub ahead_at : Surveyed → ℕ → Option Ahead
ahead_at s caller = slice_index_or s.ahead caller None

-- the same with one more event before it that isn't a mark, a left mover or not, and a right mover
-- or not
abbrev pub acted_before : Surveyed → ℕ → ℕ → Bool → Bool → Surveyed
acted_before s line caller is_left is_right =
    with_ahead s caller (option_map (with_line line is_left is_right) (ahead_at s caller))

-- the same with one more event before it, by its line, its caller and what it is to the block
abbrev pub preceded_by : (ℕ → Bool) → Surveyed → ℕ → ℕ → Role → Surveyed
preceded_by free s line caller Opens = opened_before s line (ahead_at s caller)
preceded_by free s line caller Ends = with_ahead s caller (Some (kept_of free []))
preceded_by free s line caller Marks = s
preceded_by free s line caller Takes = acted_before s line caller false true
preceded_by free s line caller Gives = acted_before s line caller true false
preceded_by free s line caller (Accesses cell) =
    acted_before s line caller (free cell) (free cell)

-- what is kept says what these events say, whatever stands before them
pub record HasSurveyed (free : ℕ → Bool) (later : List Stamped) (s : Surveyed) : Type 0 where
  pub ahead : (c : ℕ) → c < length s.ahead → slice_index_or s.ahead c None ≡ ahead_of free c later
  pub blocks : (earlier : List Stamped)
      → s.blocks ≡ length (filter_map block_at (places_after earlier later))
  pub few : s.blocks ≤ length later
  pub broken : (earlier : List Stamped)
      → s.broken ≡ first_answer (broken_at free) (places_after earlier later)
