-- What the code's types say, in the words of the definitions.
use Rattle.std.specs.Prelude.{ℕ, List, Option, Some, None, Result, Ok, Err, ⊤}
use Rattle.std.specs.Global.{Vec}
use denote.Ref.{Bor}
use Rattle.vyrd_own.specs.declared.code.Code.{Code}
use Rattle.vyrd_own.specs.declared.program.Change as declared_change
use Rattle.vyrd_base.specs.Own.Expressions.{Expr}
use Rattle.vyrd_base.specs.Own.Programs.{Change}
use Rattle.vyrd_own.specs.Layout.{texts, expr_in, change_of, written}
use Rattle.vyrd_base.specs.declared.own.rule.SpecificationRule.{SpecificationRule}
use Rattle.vyrd_own_text.specs.declared.took.Took.{Took}
use Rattle.vyrd_own_text.specs.declared.took.Took.TheVariants.{In, Refused}
use Rattle.vyrd_own_text.specs.declared.reader.SpecificationReader.{SpecificationReader}
use Rattle.vyrd_base.specs.Own.Reading.{Taken, Found}
use Rattle.vyrd_base.specs.Own.Reader.{SoFar}

-- what the code has read
abbrev pub number_as : Result ℕ (SpecificationRule × Bor (List ℕ)) → Taken ℕ
number_as (Ok n) = Ok n
number_as (Err stop) = Err (stop.0, stop.1.now)

abbrev pub word_as : Result (Bor (List ℕ) × Bor (List ℕ)) (SpecificationRule × Bor (List ℕ))
    → Found (List ℕ)
word_as (Ok found) = Ok (found.0.now, found.1.now)
word_as (Err stop) = Err (stop.0, stop.1.now)

abbrev pub named_as : Result (Bor (List ℕ) × ℕ) (SpecificationRule × Bor (List ℕ))
    → Taken (List ℕ × ℕ)
named_as (Ok found) = Ok (found.0.now, found.1)
named_as (Err stop) = Err (stop.0, stop.1.now)

abbrev pub pair_as : Result (ℕ × ℕ) (SpecificationRule × Bor (List ℕ)) → Taken (ℕ × ℕ)
pair_as (Ok found) = Ok found
pair_as (Err stop) = Err (stop.0, stop.1.now)

abbrev pub code_as : Result (Code × Bor (List ℕ)) (SpecificationRule × Bor (List ℕ)) → Found Expr
code_as (Ok found) = Ok (expr_in found.0, found.1.now)
code_as (Err stop) = Err (stop.0, stop.1.now)

abbrev pub last_as : Result Code (SpecificationRule × Bor (List ℕ)) → Taken Expr
last_as (Ok code) = Ok (expr_in code)
last_as (Err stop) = Err (stop.0, stop.1.now)

abbrev pub two_as : Result (Code × Code) (SpecificationRule × Bor (List ℕ)) → Taken (Expr × Expr)
two_as (Ok found) = Ok (expr_in found.0, expr_in found.1)
two_as (Err stop) = Err (stop.0, stop.1.now)

abbrev pub let_as : Result (Bor (List ℕ) × Code) (SpecificationRule × Bor (List ℕ))
    → Taken (List ℕ × Expr)
let_as (Ok found) = Ok (found.0.now, expr_in found.1)
let_as (Err stop) = Err (stop.0, stop.1.now)

abbrev pub value_as : Result (ℕ × Code) (SpecificationRule × Bor (List ℕ)) → Taken (ℕ × Expr)
value_as (Ok found) = Ok (found.0, expr_in found.1)
value_as (Err stop) = Err (stop.0, stop.1.now)

abbrev pub change_as : Result declared_change.Change (SpecificationRule × Bor (List ℕ))
    → Taken Change
change_as (Ok change) = Ok (change_of change)
change_as (Err stop) = Err (stop.0, stop.1.now)

abbrev pub begun_as : Result (Bor (List ℕ) × Vec (Vec ℕ)) (SpecificationRule × Bor (List ℕ))
    → Taken (List ℕ × List (List ℕ))
begun_as (Ok found) = Ok (found.0.now, texts found.1.items)
begun_as (Err stop) = Err (stop.0, stop.1.now)

-- what the code took in
abbrev pub took_as : {A : Type 0} → A → Took → Taken A
took_as new In = Ok new
took_as new (Refused rule rest) = Err (rule, rest.now)

-- what holds where a line was refused
abbrev pub OnRefused : Took → Type 0 → Type 0
OnRefused In holds = ⊤
OnRefused (Refused rule rest) holds = holds

-- what holds where nothing was taken in
abbrev pub OnKept : Option Took → Type 0 → Type 0
OnKept (Some took) holds = OnRefused took holds
OnKept None holds = holds

-- what a reader has read so far
abbrev pub so_far : SpecificationReader → SoFar
so_far r = record { specification = written r.program; below = r.last; lines = r.lines }
