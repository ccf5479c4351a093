-- The one spelling of a line, after the lines before it.
use Rattle.std.specs.Prelude.{ℕ, List, [], ◌∷◌, ◌++◌, codes, decimal, Option, Some, None}
use Rattle.vyrd_base.specs.Own.Spelling.{Scope, spelled, name_at}
use Rattle.vyrd_base.specs.Own.Programs.{Change, of_shown, of_hidden, of_register, append, prepend}
use Rattle.vyrd_base.specs.Own.Programs.{drop_first, drop_last, clear, clear_shown, Method, Written}
use Rattle.vyrd_base.specs.Own.Lines.{Inner, naming}
use Rattle.vyrd_base.specs.Own.Lines.{answering, allowing, changing, Line, remark, constant}
use Rattle.vyrd_base.specs.Own.Lines.{register}
use Rattle.vyrd_base.specs.Own.Lines.{list, holds, hidden, part, shows, method, inner}
use Rattle.vyrd_base.specs.Own.Outer.{part_scope}
use Rattle.vyrd_base.specs.Own.Methods.{last_in, method_scope}

-- what changes something, where the registers have these names
abbrev pub change_text : List (List ℕ) → Scope → Change → List ℕ
change_text registers s (of_shown key new) =
    codes "set [" ++ spelled s key ++ codes "] " ++ spelled s new
change_text registers s (of_hidden key new) =
    codes "set {" ++ spelled s key ++ codes "} " ++ spelled s new
change_text registers s (of_register i new) =
    codes "set " ++ name_at registers i ++ codes " " ++ spelled s new
change_text registers s (append i new) =
    codes "append " ++ name_at s.lists i ++ codes " " ++ spelled s new
change_text registers s (prepend i new) =
    codes "prepend " ++ name_at s.lists i ++ codes " " ++ spelled s new
change_text registers s (drop_first i) = codes "drop first " ++ name_at s.lists i
change_text registers s (drop_last i) = codes "drop last " ++ name_at s.lists i
change_text registers s (clear i) = codes "clear " ++ name_at s.lists i
change_text registers s clear_shown = codes "clear"

-- what the expressions of a case see, and those of all other lines of a method
abbrev pub in_case : Written → Method → Scope
in_case w m = method_scope w m (codes "reply" ∷ [])

abbrev pub in_method : Written → Method → Scope
in_method w m = method_scope w m []

-- a line of a method
abbrev pub inner_text : Written → Method → Inner → List ℕ
inner_text w m (naming name e) = codes "  let " ++ name ++ codes " " ++ spelled (in_method w m) e
inner_text w m (answering e) = codes "  answer " ++ spelled (in_method w m) e
inner_text w m (allowing e) = codes "  allow " ++ spelled (in_case w m) e
inner_text w m (changing c) = codes "    " ++ change_text w.register_names (in_case w m) c

abbrev pub last_text : Written → Inner → Option Method → List ℕ
last_text w i (Some m) = inner_text w m i
last_text w i None = []

-- words, each after a space
abbrev pub words_text : List (List ℕ) → List ℕ
words_text [] = []
words_text (word ∷ words) = codes " " ++ word ++ words_text words

-- a line
abbrev pub line_text : Written → Line → List ℕ
line_text w (remark text) = text
line_text w (constant name n) = codes "let " ++ name ++ codes " " ++ decimal n
line_text w (register name n) = codes "register " ++ name ++ codes " " ++ decimal n
line_text w (list name) = codes "list " ++ name
line_text w (holds n) = codes "  holds " ++ decimal n
line_text w (hidden key amount) = codes "hidden " ++ decimal key ++ codes " " ++ decimal amount
line_text w (part k) = codes "part " ++ decimal k
line_text w (shows key amount) =
    codes "  shows " ++ spelled (part_scope w) key ++ codes " " ++ spelled (part_scope w) amount
line_text w (method name parameters) = codes "method " ++ name ++ words_text parameters
line_text w (inner i) = last_text w i (last_in w.methods)
