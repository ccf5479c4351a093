-- What the bytes after the last line feed are to a reader.
use Rattle.std.specs.Prelude.{ℕ, Bool, ◌&&◌, nat_lt, List, length, Option, Some, None}
use Rattle.std.specs.Prelude.{if◌then◌else◌}
use Rattle.std.specs.Option.{option_or}
use Rattle.vyrd_base.specs.declared.verdict.Rule.{Rule}
use Rattle.vyrd_base.specs.declared.verdict.Rule.TheVariants.{TooManyLines, AfterEnd, BadHeader}
use Rattle.vyrd_base.specs.declared.verdict.Rule.TheVariants.{BadEntry, NoLineFeed, NoEnd}
use Rattle.vyrd_base.specs.Reading.{TextFault, has_any}
use Rattle.vyrd_base.specs.Own.Reader.{SoFar}
use Rattle.vyrd_base.specs.Own.Log.{long_rule}
use Rattle.vyrd_own_log.specs.declared.stage.Stage.{Stage}
use Rattle.vyrd_own_log.specs.declared.stage.Stage.TheVariants.{Header, Specification, Starts}
use Rattle.vyrd_own_log.specs.declared.stage.Stage.TheVariants.{Entries, End}
use Rattle.vyrd_own_log.specs.States.{LineState, has_ended}

-- the rule that a line of more than 200 bytes breaks, by which lines may come
abbrev pub bad_at : SoFar → Stage → Rule
bad_at s Header = BadHeader
bad_at s (Specification h) = long_rule s
bad_at s (Starts h last) = BadEntry
bad_at s (Entries h) = BadEntry
bad_at s (End h) = AfterEnd

-- the rule that the unfinished line breaks already, if it has some bytes, and if it is too long
abbrev pub rest_if : LineState → Bool → Bool → Option Rule
rest_if r some long =
    if some && nat_lt r.max_lines r.line then Some TooManyLines
    else (if has_ended r.stage && some then Some AfterEnd
    else (if long then Some (bad_at r.said r.stage) else None))

abbrev pub rest_rule : LineState → List ℕ → Option Rule
rest_rule r rest = rest_if r (has_any rest) (nat_lt 200 (length rest))

-- the fault of a text that ends here, where none was known
abbrev pub end_fault : LineState → List ℕ → Option TextFault
end_fault r rest =
    if has_ended r.stage then None
    else Some (record { line = r.line; rule = if has_any rest then NoLineFeed else NoEnd })

-- the fault of a text that ends here
abbrev pub fault_at_end : LineState → List ℕ → Option TextFault
fault_at_end r rest = option_or r.fault (end_fault r rest)
