-- What is read of a text.
use Rattle.std.specs.Prelude.{ℕ, List}
use Rattle.vyrd_base.specs.declared.own.line.SpecificationLine.{SpecificationLine}
use Rattle.vyrd_base.specs.Own.Reader.{nothing_read, read_next, read_lines}

-- what a line is after these
abbrev pub outcome_after : List (List ℕ) → List ℕ → SpecificationLine
outcome_after lines line = (read_next (read_lines nothing_read lines) line).0
