-- How a specification is read, line by line.
use Rattle.std.specs.Prelude.{ℕ, ◌+◌, ◌-◌, ◌==◌, Bool, true, not, ◌||◌, nat_lt, nat_le, List, []}
use Rattle.std.specs.Prelude.{◌∷◌, length, drop, codes, Option, Some, None, Ok, Err, if◌then◌else◌}
use Rattle.std.specs.Option.{is_some}
use Rattle.std.specs.Str.{bytes_eq}
use Rattle.vyrd_base.specs.declared.own.last.Last.{Last}
use Rattle.vyrd_base.specs.declared.own.last.Last.TheVariants as lasts
use Rattle.vyrd_base.specs.declared.own.line.SpecificationLine.{SpecificationLine}
use Rattle.vyrd_base.specs.declared.own.line.SpecificationLine.TheVariants as outcomes
use Rattle.vyrd_base.specs.declared.own.rule.SpecificationRule.{SpecificationRule}
use Rattle.vyrd_base.specs.declared.own.rule.SpecificationRule.TheVariants as rules
use Rattle.vyrd_base.specs.Own.Reading.{Taken, after, if_after}
use Rattle.vyrd_base.specs.Own.Programs.{Method, Written}
use Rattle.vyrd_base.specs.Own.Lines.{Line, has_any, remark, inner, with_line}
use Rattle.vyrd_base.specs.Own.Lines.{nothing_written}
use Rattle.vyrd_base.specs.Own.Pieces.{taken_with}
use Rattle.vyrd_base.specs.Own.Outer.{outer_read}
use Rattle.vyrd_base.specs.Own.Methods.{last_in, is_unfinished, method_read}
use Rattle.vyrd_base.specs.Own.Changes.{within_read}

-- an empty line, or a remark: it says nothing
abbrev pub is_remark : List ℕ → Bool
is_remark [] = true
is_remark (b ∷ line) = b == 35

-- the rule that a line breaks that is no line outside methods, where there is no method
abbrev pub unplaced : List ℕ → SpecificationRule
unplaced line = if is_some (after (codes "  ") line) then rules.OutOfPlace else rules.BadLine

-- a line of the last method
abbrev pub of_method : Written → List ℕ → Option Method → Taken Line
of_method w line (Some m) = taken_with inner (within_read w m line)
of_method w line None = Err (unplaced line, line)

unfoldable pub method_line_read : Written → List ℕ → Taken Line
method_line_read w line = of_method w line (last_in w.methods)

-- a line, by how it begins
abbrev pub or_method : Written → List ℕ → Option (Taken Line) → Taken Line
or_method w line (Some read) = read
or_method w line None =
    if_after (after (codes "method ") line) (method_read w) (method_line_read w line)

unfoldable pub line_read : Written → Last → List ℕ → Taken Line
line_read w below line =
    if nat_lt 200 (length line) then Err (rules.TooLong, drop 200 line)
    else (if is_remark line then Ok (remark line)
    else or_method w line (outer_read w below line))

-- what may stand directly below a line; a remark changes nothing
abbrev pub begins : List ℕ → List ℕ → Bool
begins word line = is_some (after word line)

unfoldable pub last_after : Last → List ℕ → Last
last_after below line =
    if is_remark line then below
    else (if begins (codes "list ") line || begins (codes "  holds ") line then lasts.List
    else (if begins (codes "part ") line || begins (codes "  shows ") line then lasts.Part
    else lasts.Other))

-- what was read so far: the specification, what may stand directly below, and how many lines
pub record SoFar : Type 0 where
  pub specification : Written
  pub below : Last
  pub lines : ℕ

abbrev pub nothing_read : SoFar
nothing_read = record { specification = nothing_written; below = lasts.Other; lines = 0 }

-- the column of what stands at the end of a line
abbrev pub column : List ℕ → List ℕ → ℕ
column line rest = length line - length rest + 1

-- the rule that a specification breaks which ends here
abbrev pub unfinished : List Method → Option SpecificationRule
unfinished methods =
    if not (has_any methods) then Some rules.NoMethod
    else (if is_unfinished methods then Some rules.NoCase else None)

-- what a line is, and what was read then: a line that breaks a rule changes nothing
abbrev pub ended_with : SoFar → Option SpecificationRule → SpecificationLine × SoFar
ended_with s (Some rule) = (outcomes.Refused rule 1, s)
ended_with s None = (outcomes.Log, s)

abbrev pub told : SoFar → List ℕ → Taken Line → SpecificationLine × SoFar
told s line (Ok says) = (
  outcomes.More,
  record {
    specification = with_line s.specification says;
    below = last_after s.below line;
    lines = s.lines + 1;
  },
)
told s line (Err stop) = (outcomes.Refused stop.0 (column line stop.1), s)

unfoldable pub read_next : SoFar → List ℕ → SpecificationLine × SoFar
read_next s line =
    if bytes_eq line (codes "log") then ended_with s (unfinished s.specification.methods)
    else (if nat_le 1000 s.lines then (outcomes.Refused rules.TooMany 1, s)
    else told s line (line_read s.specification s.below line))

-- what was read after these lines
abbrev pub read_lines : SoFar → List (List ℕ) → SoFar
read_lines s [] = s
read_lines s (line ∷ lines) = read_lines (read_next s line).1 lines

-- the specification that lines spell, without their line feeds and without the line `log`
abbrev pub written_in : List (List ℕ) → Written
written_in lines = (read_lines nothing_read lines).specification
