-- What a line spells: a guess from its fields, which counts only if its one spelling is the line.
use Rattle.std.specs.Prelude.{◌≡◌, ℕ, ◌^◌, Bool, true, false, ◌==◌, ◌&&◌, nat_lt, List, [], ◌∷◌}
use Rattle.std.specs.Prelude.{find, Option, Some, None, option_map, option_and_then, Result, Err}
use Rattle.std.specs.Prelude.{ok_or, codes, refl, if◌then◌else◌}
use Rattle.std.specs.Str.{bytes_eq}
use Rattle.std.specs.Str.Parse.{digits_value}
use Rattle.std.specs.List.{slice_split}
use Rattle.vyrd_base.specs.declared.header.Header.{Header}
use Rattle.vyrd_base.specs.declared.subject.Subject.{Subject}
use Rattle.vyrd_base.specs.declared.subject.Method.{Method}
use Rattle.vyrd_base.specs.declared.subject.Args.{Args}
use Rattle.vyrd_base.specs.declared.log.Kind.{Kind}
use Rattle.vyrd_base.specs.declared.log.Kind.TheVariants.{Call, Return, Write, Commit, BlockOpen}
use Rattle.vyrd_base.specs.declared.log.Kind.TheVariants.{BlockClose, BlockCommit}
use Rattle.vyrd_base.specs.declared.log.Entry.{Entry}
use Rattle.vyrd_base.specs.declared.log.StartWord.{StartWord}
use Rattle.vyrd_base.specs.declared.verdict.Rule.{Rule}
use Rattle.vyrd_base.specs.declared.verdict.Rule.TheVariants.{BadHeader, UnknownVersion}
use Rattle.vyrd_base.specs.Limits.{is_sized}
use Rattle.vyrd_base.specs.Spelling.{subject_name, method_name, header_line, start_line, entry_line}
use Rattle.vyrd_base.specs.Spelling.{is_entry_of}
use Rattle.vyrd_base.specs.Subjects.{subjects, methods_of, limits_of}

-- the parts between spaces
abbrev pub fields_of : List ℕ → List (List ℕ)
fields_of line = slice_split (λ b. b == 32) line

-- the number that a field of digits stands for
abbrev pub number_of : List ℕ → ℕ
number_of field = digits_value 10 field

-- the subject's method of that name
abbrev pub method_called : Subject → List ℕ → Option Method
method_called subject name =
    find (λ method. bytes_eq (method_name method) name) (methods_of subject)

-- up to three arguments; those that aren't there are 0
abbrev pub args_from : List (List ℕ) → Args
args_from [] = record { a = 0; b = 0; c = 0 }
args_from (a ∷ []) = record { a = number_of a; b = 0; c = 0 }
args_from (a ∷ b ∷ []) = record { a = number_of a; b = number_of b; c = 0 }
args_from (a ∷ b ∷ c ∷ more) = record { a = number_of a; b = number_of b; c = number_of c }

-- a guess at the kind, from the fields after the caller
abbrev pub guessed_kind : Subject → List (List ℕ) → Option Kind
guessed_kind subject (word ∷ []) = if bytes_eq word (codes "commit") then Some Commit
    else (if bytes_eq word (codes "open") then Some BlockOpen else Some BlockClose)
guessed_kind subject (word ∷ x ∷ fields) = if bytes_eq word (codes "call")
    then option_map (λ method. Call method (args_from fields)) (method_called subject x)
    else (if bytes_eq word (codes "return") then Some (Return (number_of x))
    else (if bytes_eq word (codes "write") then Some (Write (number_of x) (args_from fields).a)
    else Some BlockCommit))
guessed_kind subject [] = None

-- a guess at the entry: the caller, and what it did
abbrev pub guessed_entry : Subject → List (List ℕ) → Option Entry
guessed_entry subject (caller ∷ fields) =
    option_map (λ kind. record { caller = number_of caller; kind = kind })
    (guessed_kind subject fields)
guessed_entry subject [] = None

-- the entry of the subject that the line spells
unfoldable pub entry_in : Subject → List ℕ → Option Entry
entry_in subject line = option_and_then
    (λ e. if is_entry_of subject e && bytes_eq (entry_line e) line then Some e else None)
    (guessed_entry subject (fields_of line))

-- a guess at a starting word: its number and its value, after one more field
abbrev pub guessed_start : List (List ℕ) → Option StartWord
guessed_start (name ∷ word ∷ value ∷ more) =
    Some (record { word = number_of word; value = number_of value })
guessed_start _ = None

-- The starting word that the line spells, with a number of 32 bits and a value of 64. Whether they
-- are in range and in order is another rule.
unfoldable pub start_in : List ℕ → Option StartWord
start_in line = option_and_then
    (λ s. if nat_lt s.word (2 ^ 32) && nat_lt s.value (2 ^ 64) && bytes_eq (start_line s) line
    then Some s
    else None)
    (guessed_start (fields_of line))

-- the subject of that name
abbrev pub subject_called : List ℕ → Option Subject
subject_called name = find (λ subject. bytes_eq (subject_name subject) name) subjects

-- the header with these numbers, whose limits were tested
abbrev pub header_if : (version : ℕ) (subject : Subject) (size callers : ℕ) (b : Bool)
    → limits_of subject version size callers ≡ b → Option Header
header_if version subject size callers true e = Some
    (record { version = version; subject = subject; size = size; callers = callers; within = e })
header_if version subject size callers false e = None

-- the header with these numbers, if they are within the limits
abbrev pub header_of : ℕ → Subject → ℕ → ℕ → Option Header
header_of version subject size callers =
    header_if version subject size callers (limits_of subject version size callers) refl

-- the header with these numbers, if they are within the limits and the line is its spelling
abbrev pub header_spelled : List ℕ → ℕ → Option Subject → ℕ → ℕ → Result Header Rule
header_spelled line version (Some subject) size callers =
    if nat_lt version (2 ^ 32) && is_sized size callers
    && bytes_eq (header_line version subject size callers) line
    then ok_or (header_of version subject size callers) UnknownVersion
    else Err BadHeader
header_spelled line version None size callers = Err BadHeader

-- a header's line names a version, a subject, a size and a number of callers
abbrev pub header_from : List ℕ → List (List ℕ) → Result Header Rule
header_from line (word ∷ version ∷ subject ∷ size ∷ callers ∷ more) =
    header_spelled line (number_of version) (subject_called subject) (number_of size)
    (number_of callers)
header_from line _ = Err BadHeader

-- the header that a line spells; a header of another version is known as one
unfoldable pub header_in : List ℕ → Result Header Rule
header_in line = header_from line (fields_of line)
