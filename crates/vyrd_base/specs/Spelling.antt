-- The one spelling of each line of a log, and of the whole log. Numbers are decimal without sign
-- and without leading zeros, one space stands between two fields, and each line ends with one line
-- feed.
use Rattle.std.specs.Prelude.{ℕ, ◌^◌, Bool, true, ◌&&◌, nat_lt, List, [], ◌∷◌, ◌++◌, map, take}
use Rattle.std.specs.Prelude.{codes, decimal, flat_map}
use Rattle.std.specs.List.{join_with_byte}
use Rattle.vyrd_base.specs.declared.header.Header.{Header}
use Rattle.vyrd_base.specs.declared.subject.Subject.{Subject}
use Rattle.vyrd_base.specs.declared.subject.Method.{Method}
use Rattle.vyrd_base.specs.declared.subject.Args.{Args}
use Rattle.vyrd_base.specs.declared.log.Kind.{Kind}
use Rattle.vyrd_base.specs.declared.log.Kind.TheVariants.{Call, Return, Write, Commit, BlockOpen}
use Rattle.vyrd_base.specs.declared.log.Kind.TheVariants.{BlockClose, BlockCommit}
use Rattle.vyrd_base.specs.declared.log.Entry.{Entry}
use Rattle.vyrd_base.specs.declared.log.StartWord.{StartWord}
use Rattle.vyrd_base.specs.Subjects.{by_subject, by_method, arity_of, are_padded, is_named}

-- fields with a space between each two
abbrev pub spaced : List (List ℕ) → List ℕ
spaced fields = join_with_byte 32 fields

-- a line with its line feed
abbrev pub ended_line : List ℕ → List ℕ
ended_line line = line ++ 10 ∷ []

-- the name of a subject
abbrev pub subject_name : Subject → List ℕ
subject_name = by_subject (λ M s. s.name)

-- the name of a method, which identifies it only together with its subject
abbrev pub method_name : Method → List ℕ
method_name = by_method (λ M s. s.called)

-- line 1: `vyrd`, the version, the subject, the size and the number of callers
abbrev pub header_line : ℕ → Subject → ℕ → ℕ → List ℕ
header_line version subject size callers =
    spaced (codes "vyrd" ∷ decimal version ∷ subject_name subject ∷ decimal size ∷ decimal callers
    ∷ [])

-- the arguments that the method has
abbrev pub arg_fields : Method → Args → List (List ℕ)
arg_fields method args = map decimal (take (arity_of method) (args.a ∷ args.b ∷ args.c ∷ []))

-- the fields after the caller
abbrev pub kind_fields : Kind → List (List ℕ)
kind_fields (Call method args) = codes "call" ∷ method_name method ∷ arg_fields method args
kind_fields (Return reply) = codes "return" ∷ decimal reply ∷ []
kind_fields (Write word value) = codes "write" ∷ decimal word ∷ decimal value ∷ []
kind_fields Commit = codes "commit" ∷ []
kind_fields BlockOpen = codes "open" ∷ []
kind_fields BlockClose = codes "close" ∷ []
kind_fields BlockCommit = codes "close" ∷ codes "commit" ∷ []

-- a line of a starting word: its number and its value
abbrev pub start_line : StartWord → List ℕ
start_line s = spaced (codes "start" ∷ decimal s.word ∷ decimal s.value ∷ [])

-- a later line: the caller's number, and what it did
abbrev pub entry_line : Entry → List ℕ
entry_line e = spaced (decimal e.caller ∷ kind_fields e.kind)

-- the last line
abbrev pub end_line : List ℕ
end_line = codes "end"

-- the text of a whole log: the header, the starting words, the entries and `end`
unfoldable pub log_text : Header → List StartWord → List Entry → List ℕ
log_text h starting entries = ended_line (header_line h.version h.subject h.size h.callers)
    ++ flat_map (λ s. ended_line (start_line s)) starting
    ++ flat_map (λ e. ended_line (entry_line e)) entries ++ ended_line end_line

-- whether the numbers of a kind are in the text's ranges, the method is one of the subject, which
-- is
-- built in, and arguments that it doesn't have are 0
abbrev pub is_kind_of : Subject → Kind → Bool
is_kind_of subject (Call method args) =
    is_named method subject && are_padded (arity_of method) args
    && nat_lt args.a (2 ^ 32) && nat_lt args.b (2 ^ 32) && nat_lt args.c (2 ^ 32)
is_kind_of subject (Return reply) = nat_lt reply (2 ^ 64)
is_kind_of subject (Write word value) = nat_lt word (2 ^ 32) && nat_lt value (2 ^ 64)
is_kind_of subject _ = true

-- whether the entry can stand in the text of a log of the subject
abbrev pub is_entry_of : Subject → Entry → Bool
is_entry_of subject e = nat_lt e.caller (2 ^ 32) && is_kind_of subject e.kind
