-- What the parts of a line spell: the reader of a part finds exactly what has the text as its
-- spelling.
use Rattle.std.specs.Prelude.{◌≡◌, ℕ, ◌<◌, ◌^◌, true, List, [], ◌∷◌, ◌++◌, map, take, Option, Some}
use Rattle.std.specs.Prelude.{None, decimal}
use Rattle.vyrd_base.specs.declared.subject.Subject.{Subject}
use Rattle.vyrd_base.specs.declared.subject.Method.{Method}
use Rattle.vyrd_base.specs.declared.subject.Args.{Args}
use Rattle.vyrd_base.specs.declared.log.Kind.{Kind}
use Rattle.vyrd_base.specs.Limits.{is_sized}
use Rattle.vyrd_base.specs.Subjects.{arity_of, are_padded, is_named, is_built_in}
use Rattle.vyrd_base.specs.Spelling.{spaced, header_line, method_name, arg_fields, kind_fields}
use Rattle.vyrd_base.specs.Spelling.{is_kind_of}

-- the text of the first `arity` arguments
abbrev pub args_text : ℕ → Args → List ℕ
args_text arity args = spaced (map decimal (take arity (args.a ∷ args.b ∷ args.c ∷ [])))

-- the text after the caller and a space
abbrev pub kind_text : Kind → List ℕ
kind_text kind = spaced (kind_fields kind)

-- the text of a method with its arguments
abbrev pub call_text : Method → Args → List ℕ
call_text method args = spaced (method_name method ∷ arg_fields method args)

-- the arguments below 2^32 whose text it is
abbrev pub AreArgsRead : ℕ → List ℕ → Option Args → Type 0
AreArgsRead arity text None = (args : Args) → are_padded arity args ≡ true → args.a < 2 ^ 32
    → args.b < 2 ^ 32 → args.c < 2 ^ 32 → text ≡ args_text arity args → ⊥
AreArgsRead arity text (Some args) = (are_padded arity args ≡ true) × (text ≡ args_text arity args)

-- the method of the subject and its arguments below 2^32 whose text it is
abbrev pub IsCallRead : Subject → List ℕ → Option (Method × Args) → Type 0
IsCallRead subject text None = (method : Method) (args : Args)
    → is_named method subject ≡ true → are_padded (arity_of method) args ≡ true
    → args.a < 2 ^ 32 → args.b < 2 ^ 32 → args.c < 2 ^ 32 → text ≡ call_text method args → ⊥
IsCallRead subject text (Some (method, args)) =
    (is_named method subject ≡ true) × (are_padded (arity_of method) args ≡ true)
    × (text ≡ call_text method args)

-- the kind whose text it is, of the subject and in the text's ranges
abbrev pub IsKindRead : Subject → List ℕ → Option Kind → Type 0
IsKindRead subject text None =
    (kind : Kind) → is_kind_of subject kind ≡ true → text ≡ kind_text kind → ⊥
IsKindRead subject text (Some kind) = (is_kind_of subject kind ≡ true) × (text ≡ kind_text kind)

-- the size and the number of callers whose text it is, within the limits
abbrev pub AreLimitsRead : List ℕ → Option (ℕ × ℕ) → Type 0
AreLimitsRead text None = (size callers : ℕ) → is_sized size callers ≡ true
    → text ≡ decimal size ++ 32 ∷ decimal callers → ⊥
AreLimitsRead text (Some (size, callers)) =
    (is_sized size callers ≡ true) × (text ≡ decimal size ++ 32 ∷ decimal callers)

-- the version below 2^32, the built-in subject, the size and the number of callers within the
-- limits
-- whose text it is
abbrev pub AreNumbersRead : List ℕ → Option (ℕ × Subject × ℕ × ℕ) → Type 0
AreNumbersRead text None = (version : ℕ) (subject : Subject) (size callers : ℕ) → version < 2 ^ 32
    → is_built_in subject ≡ true → is_sized size callers ≡ true
    → text ≡ header_line version subject size callers → ⊥
AreNumbersRead text (Some (version, subject, size, callers)) =
    (version < 2 ^ 32) × (is_built_in subject ≡ true) × (is_sized size callers ≡ true)
    × (text ≡ header_line version subject size callers)
