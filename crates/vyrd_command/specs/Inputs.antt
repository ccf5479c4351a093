-- What was read of an input, and how much of it was taken. Bytes that a source doesn't tell are
-- None.
use Rattle.std.specs.Prelude.{◌≡◌, ◌⊎◌, ℕ, ◌<◌, ◌≤◌, false, List, ◌++◌, length}
use Rattle.vyrd_base.specs.Devices.{SourceKnown, IsAtEnd}
use Rattle.vyrd_check_command.specs.Inputs.{IsTaken, longest_read}

-- These bytes were read of a source: all to its end, or as many as are read at most.
pub record IsInputRead (most : ℕ) (before after : SourceKnown) (bytes : List ℕ) : Type 0 where
  pub told : IsTaken before.rest bytes after.rest
  pub enough : IsAtEnd after ⊎ (length bytes ≡ most)
  pub few : length bytes ≤ most

-- One read gave the next n bytes of a source, `most` at most, and they were appended to those that
-- there were. If n is 0, the source has said its end, and else it hasn't.
pub record IsMoreRead (most : ℕ) (before after : SourceKnown) (old new : List ℕ)
    (n : ℕ) : Type 0 where
  pub piece : List ℕ
  pub told : IsTaken before.rest piece after.rest
  pub grown : new ≡ old ++ piece
  pub many : length piece ≡ n
  pub few : n ≤ most
  pub short : n ≤ longest_read
  pub at_end : n ≡ 0 → IsAtEnd after
  pub goes_on : 0 < n → after.ended ≡ false

-- The source has said its end; or as many bytes were taken of it as are read at most, and the
-- status is the one of inputs that are refused.
abbrev pub IsInputTaken : ℕ → ℕ → ℕ → SourceKnown → SourceKnown → Type 0
IsInputTaken most refused status before after = IsAtEnd after ⊎ ((status ≡ refused)
    × ((taken : List ℕ) × IsTaken before.rest taken after.rest × (length taken ≡ most)))

-- At most as many bytes were taken of a source as are read at most, if they are told.
abbrev pub IsFewTaken : ℕ → SourceKnown → SourceKnown → Type 0
IsFewTaken most before after =
    (taken : List ℕ) × IsTaken before.rest taken after.rest × (length taken ≤ most)
