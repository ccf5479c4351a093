-- How a line of a method is read, after the lines before it.
use Rattle.std.specs.Prelude.{if◌then◌else◌}
use Rattle.std.specs.Prelude.{ℕ, Bool, true, ◌||◌, nat_le, List, [], ◌∷◌, ◌++◌, length, codes}
use Rattle.std.specs.Prelude.{Option, Some, None, Ok, Err, zero, suc, ◌-◌, not, false, slice_get}
use Rattle.std.specs.Option.{is_some}
use Rattle.std.specs.List.{list_any}
use Rattle.std.specs.Str.{bytes_eq}
use Rattle.vyrd_base.specs.Own.Expressions.{Expr}
use Rattle.vyrd_base.specs.Own.Spelling.{Scope}
use Rattle.vyrd_base.specs.Own.Reading.{Taken, and_then, after, if_after, word_of}
use Rattle.vyrd_base.specs.Own.Programs.{Method, Written}
use Rattle.vyrd_base.specs.Own.Lines.{Inner, Line, has_any, method, naming, answering}
use Rattle.vyrd_base.specs.Own.Lines.{allowing}
use Rattle.vyrd_base.specs.Own.Names.{is_among, is_known, new_name}
use Rattle.vyrd_base.specs.Own.Pieces.{taken_with, last_read}
use Rattle.vyrd_base.specs.declared.own.rule.SpecificationRule.TheVariants as rules

-- what the expressions of a method see; `reply` in its cases
abbrev pub method_scope : Written → Method → List (List ℕ) → Scope
method_scope w m more = record {
  names = w.constant_names ++ w.register_names ++ m.names ++ more;
  lists = w.list_names;
  reads = true;
}

-- the last of a list
abbrev pub last_in : {A : Type 0} → List A → Option A
last_in xs = slice_get xs (length xs - 1)

-- whether a method has an answer or a case
abbrev pub is_closed : Method → Bool
is_closed m = is_some m.answer || has_any m.cases

-- whether the last method has neither
abbrev pub is_open : Option Method → Bool
is_open (Some m) = not (is_closed m)
is_open None = false

abbrev pub is_unfinished : List Method → Bool
is_unfinished methods = is_open (last_in methods)

-- whether a method has the name
abbrev pub is_method : List ℕ → List Method → Bool
is_method word methods = list_any (λ m. bytes_eq m.name word) methods

-- So many parameters at most, each after a space, behind those that have these names.
abbrev pub parameters_read : Written → ℕ → List (List ℕ) → List ℕ → Taken (List (List ℕ))
parameters_read w left names [] = Ok names
parameters_read w zero names (b ∷ text) = Err (rules.TooMany, b ∷ text)
parameters_read w (suc left) names (b ∷ text) = if_after (after (codes " ") (b ∷ text))
    (λ next. and_then (λ name rest. parameters_read w left (names ++ name ∷ []) rest)
    (new_name (is_known w (word_of next) || is_among (word_of next) names) next))
    (Err (rules.BadLine, b ∷ text))

-- a name that no method has, and parameters
abbrev pub named_method : Written → List ℕ → Taken (List ℕ × List (List ℕ))
named_method w text = and_then
    (λ name rest. taken_with (λ names. (name, names)) (parameters_read w 3 [] rest))
    (new_name (is_method (word_of text) w.methods) text)

-- the text after `method `
abbrev pub method_read : Written → List ℕ → Taken Line
method_read w text =
    if is_unfinished w.methods then Err (rules.NoCase, text)
    else (if nat_le 64 (length w.methods) then Err (rules.TooMany, text)
    else taken_with (λ r. method r.0 r.1) (named_method w text))

-- a new name, a space and an expression
abbrev pub named_expr : Written → Method → List ℕ → Taken (List ℕ × Expr)
named_expr w m text = and_then
    (λ name rest. if_after (after (codes " ") rest)
    (λ more. taken_with (λ e. (name, e)) (last_read (method_scope w m []) more))
    (Err (rules.BadLine, rest)))
    (new_name (is_known w (word_of text) || is_among (word_of text) m.names) text)

-- the text after `  let `, `  answer ` and `  allow `
abbrev pub naming_read : Written → Method → List ℕ → Taken Inner
naming_read w m text =
    if is_closed m then Err (rules.OutOfPlace, text)
    else (if nat_le 16 (length m.names) then Err (rules.TooMany, text)
    else taken_with (λ r. naming r.0 r.1) (named_expr w m text))

abbrev pub answer_read : Written → Method → List ℕ → Taken Inner
answer_read w m text =
    if is_closed m then Err (rules.OutOfPlace, text)
    else taken_with answering (last_read (method_scope w m []) text)

abbrev pub allow_read : Written → Method → List ℕ → Taken Inner
allow_read w m text =
    if nat_le 8 (length m.cases) then Err (rules.TooMany, text)
    else taken_with allowing (last_read (method_scope w m (codes "reply" ∷ [])) text)

-- What is read of a line of a method, by how it begins; none for what is no such line. A line of a
-- case begins with four spaces, and is read elsewhere.
unfoldable pub inner_read : Written → Method → List ℕ → Option (Taken Inner)
inner_read w m line =
    if_after (after (codes "  let ") line) (λ text. Some (naming_read w m text))
    (if_after (after (codes "  answer ") line) (λ text. Some (answer_read w m text))
    (if_after (after (codes "  allow ") line) (λ text. Some (allow_read w m text)) None))
