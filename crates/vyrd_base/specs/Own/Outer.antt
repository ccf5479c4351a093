-- How a line outside methods is read, after the lines before it.
use Rattle.std.specs.Prelude.{if◌then◌else◌}
use Rattle.std.specs.Prelude.{ℕ, ◌==◌, Bool, true, false, not, ◌&&◌, ◌||◌, nat_le, List, [], ◌∷◌}
use Rattle.std.specs.Prelude.{◌++◌}
use Rattle.std.specs.Prelude.{length, take, min, codes, Option, Some, None, Ok, Err}
use Rattle.vyrd_base.specs.Own.Spelling.{Scope}
use Rattle.vyrd_base.specs.Own.Reading.{Taken, and_then, after, if_after, word_of, number_in}
use Rattle.vyrd_base.specs.Own.Programs.{Written}
use Rattle.vyrd_base.specs.Own.Lines.{Line, has_any, constant, register, list, holds}
use Rattle.vyrd_base.specs.Own.Lines.{hidden, part, shows}
use Rattle.vyrd_base.specs.Own.Names.{words_of_parts, is_known, new_name}
use Rattle.vyrd_base.specs.Own.Pieces.{last_number, taken_with, named_number, ended, two_numbers}
use Rattle.vyrd_base.specs.Own.Pieces.{two_read}
use Rattle.vyrd_base.specs.declared.own.last.Last.{Last}
use Rattle.vyrd_base.specs.declared.own.last.Last.TheVariants as lasts
use Rattle.vyrd_base.specs.declared.own.rule.SpecificationRule.TheVariants as rules

-- whether the line above is a list's or one of its elements; and whether it is the part's or one of
-- what a part gives
abbrev pub is_list : Last → Bool
is_list lasts.List = true
is_list _ = false

abbrev pub is_part : Last → Bool
is_part lasts.Part = true
is_part _ = false

-- whether constants can't stand any more
abbrev pub is_past_constants : Written → Bool
is_past_constants w = has_any w.registers || has_any w.lists || has_any w.hidden
    || not (w.words == 0) || has_any w.methods

-- the text after `let `
abbrev pub constant_read : Written → List ℕ → Taken Line
constant_read w text =
    if is_past_constants w
    then Err (rules.OutOfPlace, text)
    else (if nat_le 64 (length w.constants) then Err (rules.TooMany, text)
    else taken_with (λ r. constant r.0 r.1) (named_number (is_known w (word_of text)) text))

-- the text after `register `
abbrev pub register_read : Written → List ℕ → Taken Line
register_read w text =
    if has_any w.methods then Err (rules.OutOfPlace, text)
    else (if nat_le 16 (length w.registers) then Err (rules.TooMany, text)
    else taken_with (λ r. register r.0 r.1) (named_number (is_known w (word_of text)) text))

-- the text after `list `
abbrev pub list_line_read : Written → List ℕ → Taken Line
list_line_read w text =
    if has_any w.methods then Err (rules.OutOfPlace, text)
    else (if nat_le 16 (length w.lists) then Err (rules.TooMany, text)
    else and_then (λ name rest. ended (list name) rest) (new_name (is_known w (word_of text)) text))

-- the text after `  holds `
abbrev pub holds_read : Last → List ℕ → Taken Line
holds_read below text =
    if is_list below then taken_with holds (last_number text) else Err (rules.OutOfPlace, text)

-- the text after `hidden `
abbrev pub hidden_read : Written → List ℕ → Taken Line
hidden_read w text =
    if has_any w.methods then Err (rules.OutOfPlace, text)
    else taken_with (λ r. hidden r.0 r.1) (two_numbers text)

-- the text after `part `
abbrev pub part_of : List ℕ → Option ℕ → Taken Line
part_of text (Some k) = if nat_le 1 k && nat_le k 16 then Ok (part k) else Err (rules.BadLine, text)
part_of text None = Err (rules.BadLine, text)

abbrev pub part_read : Written → List ℕ → Taken Line
part_read w text =
    if not (w.words == 0) || has_any w.methods then Err (rules.OutOfPlace, text)
    else part_of text (number_in text)

-- the text after `  shows `: two expressions of the words
abbrev pub part_scope : Written → Scope
part_scope w = record {
  names = w.constant_names ++ codes "part" ∷ take (min w.words 16) words_of_parts;
  lists = [];
  reads = false;
}

abbrev pub shows_read : Written → Last → List ℕ → Taken Line
shows_read w below text =
    if not (is_part below) then Err (rules.OutOfPlace, text)
    else (if nat_le 4 (length w.shows) then Err (rules.TooMany, text)
    else taken_with (λ r. shows r.0 r.1) (two_read (part_scope w) (codes " ") text))

-- What is read of a line outside methods, by how it begins; none for the line that begins a method,
-- and for what is no such line.
unfoldable pub outer_read : Written → Last → List ℕ → Option (Taken Line)
outer_read w below line =
    if_after (after (codes "let ") line) (λ text. Some (constant_read w text))
    (if_after (after (codes "register ") line) (λ text. Some (register_read w text))
    (if_after (after (codes "list ") line) (λ text. Some (list_line_read w text))
    (if_after (after (codes "  holds ") line) (λ text. Some (holds_read below text))
    (if_after (after (codes "hidden ") line) (λ text. Some (hidden_read w text))
    (if_after (after (codes "part ") line) (λ text. Some (part_read w text))
    (if_after (after (codes "  shows ") line) (λ text. Some (shows_read w below text)) None))))))
