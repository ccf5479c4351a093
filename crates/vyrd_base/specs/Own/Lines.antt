-- What a line says, and what it adds to the lines before it.
use Rattle.std.specs.Prelude.{ℕ, ◌==◌, Bool, not, List, [], ◌∷◌, ◌++◌, length, Some}
use Rattle.std.specs.Prelude.{None}
use Rattle.vyrd_base.specs.Own.Expressions.{Expr}
use Rattle.vyrd_base.specs.Own.Programs.{Change, Case, Method, Written}

-- what a line of a method says
pub data Inner : Type 0 where
  naming : List ℕ → Expr → Inner
  answering : Expr → Inner
  allowing : Expr → Inner
  changing : Change → Inner

-- what a line says
pub data Line : Type 0 where
  remark : List ℕ → Line
  constant : List ℕ → ℕ → Line
  register : List ℕ → ℕ → Line
  list : List ℕ → Line
  holds : ℕ → Line
  hidden : ℕ → ℕ → Line
  part : ℕ → Line
  shows : Expr → Expr → Line
  method : List ℕ → List (List ℕ) → Line
  inner : Inner → Line

-- the specification that has no line
abbrev pub nothing_written : Written
nothing_written = record {
  constant_names = [];
  constants = [];
  register_names = [];
  registers = [];
  list_names = [];
  lists = [];
  hidden = [];
  words = 0;
  shows = [];
  methods = [];
}

-- whether there is one at least
abbrev pub has_any : {A : Type 0} → List A → Bool
has_any xs = not (length xs == 0)

-- the last case with one more change
abbrev pub with_change : Change → List Case → List Case
with_change c [] = []
with_change c (case ∷ []) = record case { changes = case.changes ++ c ∷ [] } ∷ []
with_change c (case ∷ next ∷ cases) = case ∷ with_change c (next ∷ cases)

-- the method with one more line
abbrev pub with_inner : Method → Inner → Method
with_inner m (naming name e) =
    record m { names = m.names ++ name ∷ []; lets = m.lets ++ e ∷ [] }
with_inner m (answering e) = record m { answer = Some e }
with_inner m (allowing e) =
    record m { cases = m.cases ++ record { allow = e; changes = [] } ∷ [] }
with_inner m (changing c) = record m { cases = with_change c m.cases }

-- a number put at the end of the last list
abbrev pub holding : ℕ → List (List ℕ) → List (List ℕ)
holding n [] = []
holding n (items ∷ []) = (items ++ n ∷ []) ∷ []
holding n (items ∷ next ∷ lists) = items ∷ holding n (next ∷ lists)

-- the last method changed
abbrev pub change_last : (Method → Method) → List Method → List Method
change_last change [] = []
change_last change (m ∷ []) = change m ∷ []
change_last change (m ∷ next ∷ methods) = m ∷ change_last change (next ∷ methods)

-- the specification with one more line
abbrev pub with_line : Written → Line → Written
with_line w (remark text) = w
with_line w (constant name n) = record w {
  constant_names = w.constant_names ++ name ∷ [];
  constants = w.constants ++ n ∷ [];
}
with_line w (register name n) = record w {
  register_names = w.register_names ++ name ∷ [];
  registers = w.registers ++ n ∷ [];
}
with_line w (list name) = record w {
  list_names = w.list_names ++ name ∷ [];
  lists = w.lists ++ [] ∷ [];
}
with_line w (holds n) = record w { lists = holding n w.lists }
with_line w (hidden key amount) = record w { hidden = w.hidden ++ (key, amount) ∷ [] }
with_line w (part k) = record w { words = k }
with_line w (shows key amount) = record w { shows = w.shows ++ (key, amount) ∷ [] }
with_line w (method name parameters) = record w {
  methods = w.methods ++ record {
    name = name;
    names = parameters;
    arity = length parameters;
    lets = [];
    answer = None;
    cases = [];
  }
      ∷ [];
}
with_line w (inner i) = record w { methods = change_last (λ m. with_inner m i) w.methods }
