-- How a line of a case is read, after its four spaces.
use Rattle.std.specs.Prelude.{ℕ, List, [], ◌∷◌, length, not, nat_le, codes, Option, Some, None}
use Rattle.std.specs.Prelude.{Ok, Err, if◌then◌else◌}
use Rattle.std.specs.Str.{bytes_eq}
use Rattle.vyrd_base.specs.Own.Spelling.{Scope}
use Rattle.vyrd_base.specs.Own.Reading.{Taken, after, if_after}
use Rattle.vyrd_base.specs.Own.Programs.{Case, Method, Written}
use Rattle.vyrd_base.specs.Own.Lines.{Inner, has_any, changing}
use Rattle.vyrd_base.specs.Own.Methods.{last_in, method_scope, inner_read}
use Rattle.vyrd_base.specs.Own.Programs.{Change, of_shown, of_hidden, of_register, append, prepend}
use Rattle.vyrd_base.specs.Own.Programs.{drop_first, drop_last, clear, clear_shown}
use Rattle.vyrd_base.specs.Own.Pieces.{taken_with, two_read, last_name, named_value}
use Rattle.vyrd_base.specs.declared.own.rule.SpecificationRule.TheVariants as rules

-- a change of a list that has no expression
unfoldable pub plain_read : List (List ℕ) → List ℕ → Taken Change
plain_read lists text =
    if_after (after (codes "drop first ") text)
    (λ rest. taken_with drop_first (last_name lists rest))
    (if_after (after (codes "drop last ") text)
    (λ rest. taken_with drop_last (last_name lists rest))
    (if_after (after (codes "clear ") text) (λ rest. taken_with clear (last_name lists rest))
    (Err (rules.BadLine, text))))

-- a change, after its four spaces
unfoldable pub change_read : List (List ℕ) → Scope → List ℕ → Taken Change
change_read registers s text =
    if_after (after (codes "set [") text)
    (λ rest. taken_with (λ r. of_shown r.0 r.1) (two_read s (codes "] ") rest))
    (if_after (after (codes "set {") text)
    (λ rest. taken_with (λ r. of_hidden r.0 r.1) (two_read s (codes "} ") rest))
    (if_after (after (codes "set ") text)
    (λ rest. taken_with (λ r. of_register r.0 r.1) (named_value s registers rest))
    (if_after (after (codes "append ") text)
    (λ rest. taken_with (λ r. append r.0 r.1) (named_value s s.lists rest))
    (if_after (after (codes "prepend ") text)
    (λ rest. taken_with (λ r. prepend r.0 r.1) (named_value s s.lists rest))
    (if bytes_eq text (codes "clear") then Ok clear_shown else plain_read s.lists text)))))

-- how many changes the last case has
abbrev pub changes_in : Option Case → ℕ
changes_in (Some case) = length case.changes
changes_in None = 0

-- a line of a case, after its four spaces
abbrev pub case_line_read : Written → Method → List ℕ → Taken Inner
case_line_read w m text =
    if not (has_any m.cases) then Err (rules.OutOfPlace, text)
    else (if nat_le 8 (changes_in (last_in m.cases)) then Err (rules.TooMany, text)
    else taken_with changing
    (change_read w.register_names (method_scope w m (codes "reply" ∷ [])) text))

-- a line of a method
abbrev pub if_line : List ℕ → Option (Taken Inner) → Taken Inner
if_line line (Some read) = read
if_line line None = Err (rules.BadLine, line)

unfoldable pub within_read : Written → Method → List ℕ → Taken Inner
within_read w m line =
    if_after (after (codes "    ") line) (case_line_read w m) (if_line line (inner_read w m line))
