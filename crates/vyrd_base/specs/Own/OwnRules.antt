-- The rules that a specification gives. A method is named by its number, which is its place among
-- the specification's methods from 0 on, and arguments are a list of numbers.
use Rattle.std.specs.Prelude.{ℕ, ◌*◌, ◌/◌, ◌^◌, ◌==◌, Bool, ◌||◌, ◌&&◌, nat_lt, List, [], length}
use Rattle.std.specs.Prelude.{Option, option_and_then, unwrap_or, slice_get}
use Rattle.std.specs.List.{list_all}
use Rattle.std.specs.Prelude.{if◌then◌else◌}
use Rattle.std.specs.Option.{option_map_or}
use Rattle.vyrd_base.specs.Amounts.{Amounts}
use Rattle.vyrd_base.specs.States.{State}
use Rattle.vyrd_base.specs.Own.Expressions.{most}
use Rattle.vyrd_base.specs.Own.Programs.{Method, Written}
use Rattle.vyrd_base.specs.Own.Steps.{next_of, answer_of, start_of, view_of}

-- the method of that number, or none if there are not so many
abbrev pub own_method : Written → ℕ → Option Method
own_method w i = slice_get w.methods i

-- how many arguments a call of it has
abbrev pub own_arity : Written → ℕ → ℕ
own_arity w i = option_map_or (λ m. m.arity) (own_method w i) 0

-- the state after a call of the method with this reply; none if the reply is refused, or if there
-- is no such method
abbrev pub own_next : Written → ℕ → List ℕ → ℕ → State → Option State
own_next w i args reply s = option_and_then (λ m. next_of w m args reply s) (own_method w i)

-- what an execution that commits nothing answers in a state; `none`, which no reply is, if the
-- method has no answer, or if there is no such method
abbrev pub own_answer : Written → State → ℕ → List ℕ → ℕ
own_answer w s i args =
    unwrap_or (option_and_then (λ m. answer_of w m args s) (own_method w i)) most

-- what a state shows of itself to the words, and what the words show. If the specification has no
-- part, that is nothing on either side: then no views are compared.
abbrev pub own_shown : Written → State → Amounts
own_shown w s = if w.words == 0 then [] else s.shown

abbrev pub own_view : Written → List ℕ → Amounts
own_view w words = if w.words == 0 then [] else view_of w words

-- the state at the start: it shows what the words show, and all else is as the specification says
abbrev pub own_start : Written → List ℕ → State
own_start w words = record (start_of w) { shown = own_view w words }

-- whether so many words are a whole number of parts
abbrev pub is_whole : Written → ℕ → Bool
is_whole w n = w.words == 0 || n / w.words * w.words == n

-- whether words stand for a state: they are a whole number of parts, and show less than 2^64 of
-- each
-- key
abbrev pub may_stand : Written → List ℕ → Bool
may_stand w words =
    is_whole w (length words) && list_all (λ p. nat_lt p.1 (2 ^ 64)) (own_view w words)
