-- The entries of a log of version 3: a method is called by the name that its specification gives
-- it,
-- with as many arguments as it has parameters there.
use Rattle.std.specs.Prelude.{ℕ, ◌+◌, ◌^◌, Bool, true, false, ◌&&◌, nat_lt, List, [], ◌∷◌, map}
use Rattle.std.specs.Prelude.{codes, decimal, Option, Some, None, is_some, option_map}
use Rattle.std.specs.Prelude.{option_and_then}
use Rattle.std.specs.Prelude.{slice_get, if◌then◌else◌}
use Rattle.std.specs.Option.{option_map_or}
use Rattle.std.specs.Str.{bytes_eq}
use Rattle.vyrd_base.specs.declared.own.method.OwnMethod.{OwnMethod}
use Rattle.vyrd_base.specs.declared.subject.Args.{Args}
use Rattle.vyrd_base.specs.declared.subject.Commits.{Commits}
use Rattle.vyrd_base.specs.declared.subject.Commits.TheVariants.{Never, AtMostOnce, Once}
use Rattle.vyrd_base.specs.declared.log.Kind.{Kind}
use Rattle.vyrd_base.specs.declared.log.Kind.TheVariants.{Call, Return, Write, Commit, BlockOpen}
use Rattle.vyrd_base.specs.declared.log.Kind.TheVariants.{BlockClose, BlockCommit}
use Rattle.vyrd_base.specs.declared.log.Entry.{Entry}
use Rattle.vyrd_base.specs.Subjects.{own_call, own_number, are_padded}
use Rattle.vyrd_base.specs.Spelling.{spaced, kind_fields}
use Rattle.vyrd_base.specs.Lines.{fields_of, number_of, args_from}
use Rattle.vyrd_base.specs.Own.Expressions.{most}
use Rattle.vyrd_base.specs.Own.Lines.{has_any}
use Rattle.vyrd_base.specs.Own.Programs.{Method, Written}
use Rattle.vyrd_base.specs.Own.OwnRules.{own_arity}
use Rattle.vyrd_base.specs.Rules.{given}

-- How often an execution commits: never, if the method has an answer alone; once, if it has cases
-- alone; and at most once, if it has both.
abbrev pub own_commits : Method → Commits
own_commits m = if has_any m.cases then (if is_some m.answer then AtMostOnce else Once) else Never

-- the method that has that number
abbrev pub own_method : ℕ → Method → OwnMethod
own_method i m = record { number = i; arity = m.arity; commits = own_commits m }

-- the method of that name, among those from a number on
abbrev pub named_from : ℕ → List Method → List ℕ → Option OwnMethod
named_from i [] name = None
named_from i (m ∷ methods) name =
    if bytes_eq m.name name then Some (own_method i m) else named_from (i + 1) methods name

-- the name of the method of that number
abbrev pub own_name : Written → ℕ → List ℕ
own_name w i = option_map_or (λ m. m.name) (slice_get w.methods i) []

-- the fields of a call of the method of that number; without a number there are none
abbrev pub call_fields : Written → Args → Option ℕ → List (List ℕ)
call_fields w args (Some i) = codes "call" ∷ own_name w i ∷ map decimal (given w i args)
call_fields w args None = []

-- the fields after the caller
abbrev pub own_fields : Written → Kind → List (List ℕ)
own_fields w (Call method args) = call_fields w args (own_number method)
own_fields w kind = kind_fields kind

-- the one spelling of an entry
abbrev pub own_entry_line : Written → Entry → List ℕ
own_entry_line w e = spaced (decimal e.caller ∷ own_fields w e.kind)

-- whether a call of the method of that number has these arguments: those that it doesn't have are 0
abbrev pub takes_args : Written → Args → Option ℕ → Bool
takes_args w args (Some i) = are_padded (own_arity w i) args
    && nat_lt args.a (2 ^ 32) && nat_lt args.b (2 ^ 32) && nat_lt args.c (2 ^ 32)
takes_args w args None = false

-- whether the numbers of a kind are in the text's ranges: replies are below 2^64 - 1, for which
-- `none` stands
abbrev pub is_own_kind : Written → Kind → Bool
is_own_kind w (Call method args) = takes_args w args (own_number method)
is_own_kind w (Return reply) = nat_lt reply most
is_own_kind w (Write word value) = nat_lt word (2 ^ 32) && nat_lt value (2 ^ 64)
is_own_kind w Commit = true
is_own_kind w BlockOpen = true
is_own_kind w BlockClose = true
is_own_kind w BlockCommit = true

abbrev pub is_own_entry : Written → Entry → Bool
is_own_entry w e = nat_lt e.caller (2 ^ 32) && is_own_kind w e.kind

-- a guess at the kind, from the fields after the caller
abbrev pub guessed_own_kind : Written → List (List ℕ) → Option Kind
guessed_own_kind w (word ∷ []) = if bytes_eq word (codes "commit") then Some Commit
    else (if bytes_eq word (codes "open") then Some BlockOpen else Some BlockClose)
guessed_own_kind w (word ∷ x ∷ fields) = if bytes_eq word (codes "call")
    then option_map (λ m. Call (own_call m) (args_from fields)) (named_from 0 w.methods x)
    else (if bytes_eq word (codes "return") then Some (Return (number_of x))
    else (if bytes_eq word (codes "write") then Some (Write (number_of x) (args_from fields).a)
    else Some BlockCommit))
guessed_own_kind w [] = None

abbrev pub guessed_own_entry : Written → List (List ℕ) → Option Entry
guessed_own_entry w (caller ∷ fields) =
    option_map (λ kind. record { caller = number_of caller; kind = kind })
    (guessed_own_kind w fields)
guessed_own_entry w [] = None

-- the entry that a line spells
unfoldable pub own_entry_in : Written → List ℕ → Option Entry
own_entry_in w line = option_and_then
    (λ e. if is_own_entry w e && bytes_eq (own_entry_line w e) line then Some e else None)
    (guessed_own_entry w (fields_of line))
