-- A specification as the code has it, as it is written.
use Rattle.std.specs.Prelude.{ℕ, List, map, option_map}
use Rattle.std.specs.Global.{Vec}
use Rattle.vyrd_own.specs.declared.code.Code.{Code}
use Rattle.vyrd_own.specs.declared.program.Program.{Program}
use Rattle.vyrd_own.specs.declared.program.Method as declared_method
use Rattle.vyrd_own.specs.declared.program.Case as declared_case
use Rattle.vyrd_own.specs.declared.program.Show.{Show}
use Rattle.vyrd_own.specs.declared.program.Change as declared_change
use Rattle.vyrd_own.specs.declared.program.Change.TheVariants as changes
use Rattle.vyrd_base.specs.Own.Expressions.{Expr}
use Rattle.vyrd_own.specs.Nodes.{expr_of}
use Rattle.vyrd_base.specs.Own.Programs.{Change, of_shown, of_hidden, of_register, append, prepend}
use Rattle.vyrd_base.specs.Own.Programs.{drop_first, drop_last, clear, clear_shown, Case, Method}
use Rattle.vyrd_base.specs.Own.Programs.{Written}

-- the bytes of texts
abbrev pub texts : List (Vec ℕ) → List (List ℕ)
texts names = map (λ name. name.items) names

abbrev pub expr_in : Code → Expr
expr_in code = expr_of code.nodes.items

abbrev pub change_of : declared_change.Change → Change
change_of (changes.Shown key new) = of_shown (expr_in key) (expr_in new)
change_of (changes.Hidden key new) = of_hidden (expr_in key) (expr_in new)
change_of (changes.Register i new) = of_register i (expr_in new)
change_of (changes.Append i new) = append i (expr_in new)
change_of (changes.Prepend i new) = prepend i (expr_in new)
change_of (changes.DropFirst i) = drop_first i
change_of (changes.DropLast i) = drop_last i
change_of (changes.Clear i) = clear i
change_of changes.ClearShown = clear_shown

abbrev pub case_of : declared_case.Case → Case
case_of case = record { allow = expr_in case.allow; changes = map change_of case.changes.items }

abbrev pub method_of : declared_method.Method → Method
method_of m = record {
  name = m.name.items;
  names = texts m.names.items;
  arity = m.arity;
  lets = map expr_in m.lets.items;
  answer = option_map expr_in m.answer;
  cases = map case_of m.cases.items;
}

abbrev pub show_of : Show → Expr × Expr
show_of show = (expr_in show.key, expr_in show.amount)

-- a specification as it was read, as it is written
abbrev pub written : Program → Written
written p = record {
  constant_names = texts p.constant_names.items;
  constants = p.constants.items;
  register_names = texts p.register_names.items;
  registers = p.registers.items;
  list_names = texts p.list_names.items;
  lists = map (λ list. list.items) p.lists.items;
  hidden = p.hidden.items;
  words = p.words;
  shows = map show_of p.shows.items;
  methods = map method_of p.methods.items;
}
