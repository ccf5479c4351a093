-- What stands at the front of a text, for the scan that reads whole entries where they lie.
use Rattle.std.specs.Prelude.{◌≡◌, ℕ, ◌≤◌, true, List, [], ◌∷◌, ◌++◌, length, take, decimal}
use Rattle.std.specs.List.{list_all}
use Rattle.vyrd_base.specs.declared.subject.Subject.{Subject}
use Rattle.vyrd_base.specs.declared.subject.Args.{Args}
use Rattle.vyrd_base.specs.declared.log.Kind.{Kind}
use Rattle.vyrd_base.specs.declared.log.Entry.{Entry}
use Rattle.vyrd_base.specs.Spelling.{is_kind_of, is_entry_of, entry_line}
use Rattle.vyrd_base.specs.Subjects.{are_padded}
use Rattle.vyrd_text.specs.Spelled.{args_text, kind_text}

-- the first `end` bytes spell the number
pub record IsFrontNumber (text : List ℕ) (number end : ℕ) : Type 0 where
  pub within : end ≤ length text
  pub spelled : take end text ≡ decimal number

-- the kind of the subject stands at the front of the text, and after its line feed the rest
abbrev pub IsKindAtFront : Subject → List ℕ → Kind → List ℕ → Type 0
IsKindAtFront subject text kind rest =
    (is_kind_of subject kind ≡ true) × (text ≡ kind_text kind ++ 10 ∷ rest)

-- the first `arity` arguments stand at the front of the text, and after their line feed the rest
abbrev pub AreArgsAtFront : ℕ → List ℕ → Args → List ℕ → Type 0
AreArgsAtFront arity text args rest =
    (are_padded arity args ≡ true) × (text ≡ args_text arity args ++ 10 ∷ rest)

-- the entry of the subject stands at the front of the text, and after its line feed the rest
abbrev pub IsEntryAtFront : Subject → List ℕ → Entry → List ℕ → Type 0
IsEntryAtFront subject text e rest =
    (is_entry_of subject e ≡ true) × (text ≡ entry_line e ++ 10 ∷ rest)

-- the text of entries, each with its line feed
abbrev pub entries_text : List Entry → List ℕ
entries_text [] = []
entries_text (e ∷ es) = entry_line e ++ 10 ∷ entries_text es

-- That many entries of the subject stand at the front of the text, each with its line feed, and
-- after them the rest; they were appended to a list.
pub record AreEntriesAtFront (subject : Subject) (text : List ℕ) (before after : List Entry)
    (rest : List ℕ) (count : ℕ) : Type 0 where
  pub found : List Entry
  pub grown : after ≡ before ++ found
  pub counted : length found ≡ count
  pub spelled : text ≡ entries_text found ++ rest
  pub of_subject : list_all (is_entry_of subject) found ≡ true
