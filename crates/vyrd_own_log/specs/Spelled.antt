-- What the parts of an entry's line spell, by a specification: the reader of a part finds exactly
-- what has the text as its spelling.
use Rattle.std.specs.Prelude.{◌≡◌, ℕ, ◌^◌, ◌<◌, zero, suc, true, List, ◌++◌}
use Rattle.std.specs.Prelude.{Option, Some, None, not, ◌==◌}
use Rattle.std.specs.List.{list_all}
use Rattle.vyrd_base.specs.declared.own.method.OwnMethod.{OwnMethod}
use Rattle.vyrd_base.specs.declared.subject.Method.{Method}
use Rattle.vyrd_base.specs.declared.subject.Args.{Args}
use Rattle.vyrd_base.specs.declared.log.Kind.{Kind}
use Rattle.vyrd_base.specs.declared.log.Kind.TheVariants.{Call}
use Rattle.vyrd_base.specs.Subjects.{own_call, own_number, are_padded}
use Rattle.vyrd_base.specs.Spelling.{spaced}
use Rattle.vyrd_base.specs.Own.Programs.{Written}
use Rattle.vyrd_base.specs.Own.OwnRules.{own_arity}
use Rattle.vyrd_base.specs.Own.Entries.{own_name, named_from, own_fields, is_own_kind}
use Rattle.vyrd_text.specs.Fields.{after_field}
use Rattle.vyrd_text.specs.Spelled.{args_text}

-- the text after the caller and a space
abbrev pub own_kind_text : Written → Kind → List ℕ
own_kind_text w kind = spaced (own_fields w kind)

-- the text of so many arguments after a name, if there are some
abbrev pub own_args : ℕ → Args → Option (List ℕ)
own_args zero args = None
own_args (suc more) args = Some (args_text (suc more) args)

-- a call names the method that its name finds
pub record IsCalled (w : Written) (method : Method) : Type 0 where
  pub named : OwnMethod
  pub is : own_call named ≡ method
  pub found : named_from 0 w.methods (own_name w named.number) ≡ Some named

-- a called method is the one that its name finds
abbrev pub IsOf : Written → Kind → Type 0
IsOf w (Call method args) = IsCalled w method
IsOf w kind = Unit {0}

-- where a method has no argument, the first is 0
abbrev pub HasNoOther : Written → Kind → Type 0
HasNoOther w (Call method args) =
    (i : ℕ) → own_number method ≡ Some i → own_arity w i ≡ 0 → args.a ≡ 0
HasNoOther w kind = Unit {0}

-- the kind in the text's ranges whose text it is
abbrev pub IsOwnKindRead : Written → List ℕ → Option Kind → Type 0
IsOwnKindRead w text None =
    (kind : Kind) → is_own_kind w kind ≡ true → IsOf w kind → text ≡ own_kind_text w kind → ⊥
IsOwnKindRead w text (Some kind) = (is_own_kind w kind ≡ true) × IsOf w kind × HasNoOther w kind
    × (text ≡ own_kind_text w kind)

-- the arguments below 2^32 whose text this is, behind the name of a method that has so many of them
abbrev pub AreOwnArgsRead : ℕ → Option (List ℕ) → Option Args → Type 0
AreOwnArgsRead arity text None = (args : Args) → are_padded arity args ≡ true → args.a < 2 ^ 32
    → args.b < 2 ^ 32 → args.c < 2 ^ 32 → text ≡ own_args arity args → ⊥
AreOwnArgsRead arity text (Some args) = (are_padded arity args ≡ true)
    × (arity ≡ 0 → args.a ≡ 0) × (text ≡ own_args arity args)

-- the text is the field without a space, and behind it stands nothing, or a space and the rest
pub record IsFieldSplit (text field : List ℕ) (rest : Option (List ℕ)) : Type 0 where
  pub parts : text ≡ field ++ after_field rest
  pub one_word : list_all (λ b. not (b == 32)) field ≡ true
