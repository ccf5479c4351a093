-- What stands at the front of a text, by a specification, for the scan that reads whole entries
-- where they lie.
use Rattle.std.specs.Prelude.{◌≡◌, ℕ, ◌==◌, ◌||◌, Bool, true, false, List, [], ◌∷◌, ◌++◌, Some}
use Rattle.vyrd_base.specs.declared.own.method.OwnMethod.{OwnMethod}
use Rattle.vyrd_base.specs.declared.subject.Args.{Args}
use Rattle.vyrd_base.specs.declared.log.Kind.{Kind}
use Rattle.vyrd_base.specs.declared.log.Entry.{Entry}
use Rattle.vyrd_base.specs.Subjects.{are_padded}
use Rattle.vyrd_base.specs.Own.Programs.{Method, Written}
use Rattle.vyrd_base.specs.Own.Entries.{named_from, own_entry_line, is_own_kind, is_own_entry}
use Rattle.vyrd_text.specs.Fields.{after_field}
use Rattle.vyrd_own_log.specs.Spelled.{own_kind_text, own_args, IsOf, HasNoOther}

-- whether a name may end before the text: a space or a line feed comes next
abbrev pub ends_name : List ℕ → Bool
ends_name [] = false
ends_name (b ∷ rest) = b == 32 || b == 10

-- a name stands at the front of the text, behind it the rest, and this is the method that it finds
pub record IsMethodAtFront (methods : List Method) (text : List ℕ) (m : OwnMethod) (rest : List ℕ)
    : Type 0 where
  pub name : List ℕ
  pub parted : text ≡ name ++ rest
  pub found : named_from 0 methods name ≡ Some m

-- the arguments of a method that has so many of them stand at the front of the text, behind a space
-- if there are some, and after their line feed the rest
abbrev pub AreOwnArgsAtFront : ℕ → List ℕ → Args → List ℕ → Type 0
AreOwnArgsAtFront arity text args rest = (are_padded arity args ≡ true)
    × (arity ≡ 0 → args.a ≡ 0) × (text ≡ after_field (own_args arity args) ++ 10 ∷ rest)

-- the kind stands at the front of the text, and after its line feed the rest
abbrev pub IsOwnKindAtFront : Written → List ℕ → Kind → List ℕ → Type 0
IsOwnKindAtFront w text kind rest = (is_own_kind w kind ≡ true) × IsOf w kind × HasNoOther w kind
    × (text ≡ own_kind_text w kind ++ 10 ∷ rest)

-- the entry stands at the front of the text, and after its line feed the rest
pub record IsOwnEntryAtFront (w : Written) (text : List ℕ) (e : Entry) (rest : List ℕ)
    : Type 0 where
  pub ranged : is_own_entry w e ≡ true
  pub of : IsOf w e.kind
  pub no_other : HasNoOther w e.kind
  pub spelled : text ≡ own_entry_line w e ++ 10 ∷ rest
