-- The pieces of a line, up to its end: numbers, expressions, names that are known.
use Rattle.std.specs.Prelude.{ℕ, Bool, List, [], ◌∷◌, codes, Option, Some, None, Ok, Err}
use Rattle.vyrd_base.specs.Own.Expressions.{Expr}
use Rattle.vyrd_base.specs.Own.Spelling.{Scope}
use Rattle.vyrd_base.specs.Own.Reading.{Taken, and_then, after, if_after, word_of, after_word}
use Rattle.vyrd_base.specs.Own.Reading.{number_in, expr_read, name_read}
use Rattle.vyrd_base.specs.Own.Names.{new_name}
use Rattle.vyrd_base.specs.declared.own.rule.SpecificationRule.TheVariants as rules

-- a number that is the whole text
abbrev pub number_found : List ℕ → Option ℕ → Taken ℕ
number_found text (Some n) = Ok n
number_found text None = Err (rules.BadLine, text)

abbrev pub last_number : List ℕ → Taken ℕ
last_number text = number_found text (number_in text)

-- something made of what was taken
abbrev pub taken_with : {A B : Type 0} → (A → B) → Taken A → Taken B
taken_with make (Ok x) = Ok (make x)
taken_with make (Err stop) = Err stop

-- a new name, a space and a number
abbrev pub named_number : Bool → List ℕ → Taken (List ℕ × ℕ)
named_number taken text = and_then
    (λ name rest. if_after (after (codes " ") rest)
    (λ number. taken_with (λ n. (name, n)) (last_number number)) (Err (rules.BadLine, rest)))
    (new_name taken text)

-- what was read, if the text ends there
abbrev pub ended : {A : Type 0} → A → List ℕ → Taken A
ended x [] = Ok x
ended x (b ∷ rest) = Err (rules.BadLine, b ∷ rest)

-- a number, a space and a number
abbrev pub two_numbers : List ℕ → Taken (ℕ × ℕ)
two_numbers text = elim (number_in (word_of text)) [
  | Some key ↦ if_after (after (codes " ") (after_word text))
      (λ rest. taken_with (λ n. (key, n)) (last_number rest)) (Err (rules.BadLine, after_word text))
  | None ↦ Err (rules.BadLine, text)
]

-- an expression that is the whole text
abbrev pub last_read : Scope → List ℕ → Taken Expr
last_read s text = and_then ended (expr_read s 32 text)

-- two expressions with a word between them
abbrev pub two_read : Scope → List ℕ → List ℕ → Taken (Expr × Expr)
two_read s word text = and_then
    (λ a rest. if_after (after word rest) (λ more. taken_with (λ b. (a, b)) (last_read s more))
    (Err (rules.BadLine, rest)))
    (expr_read s 32 text)

-- a list's name that is the whole text
abbrev pub last_name : List (List ℕ) → List ℕ → Taken ℕ
last_name names text = and_then ended (name_read names text)

-- a name, a space and an expression
abbrev pub named_value : Scope → List (List ℕ) → List ℕ → Taken (ℕ × Expr)
named_value s names text = and_then
    (λ i rest. if_after (after (codes " ") rest)
    (λ more. taken_with (λ e. (i, e)) (last_read s more)) (Err (rules.BadLine, rest)))
    (name_read names text)
