-- What a specification says of a call: which replies are allowed, which state comes next, and what
-- an execution answers that commits nothing. And what words show.
use Rattle.std.specs.Prelude.{ℕ, ◌+◌, ◌-◌, ◌*◌, ◌/◌, ◌==◌, Bool, true, false, List, [], ◌∷◌, ◌++◌}
use Rattle.std.specs.Prelude.{map}
use Rattle.std.specs.Prelude.{filter_map, flat_map, find, length, take, drop, slice_set}
use Rattle.std.specs.Prelude.{slice_range}
use Rattle.std.specs.Prelude.{Option, Some, None, option_map, if◌then◌else◌}
use Rattle.std.specs.List.{list_all}
use Rattle.vyrd_base.specs.Amounts.{Amounts, with_amount, collected}
use Rattle.vyrd_base.specs.Places.{numbers_below}
use Rattle.vyrd_base.specs.declared.own.effect.Effect.{Effect}
use Rattle.vyrd_base.specs.declared.own.effect.Effect.TheVariants.{SetShown, SetHidden, SetRegister}
use Rattle.vyrd_base.specs.declared.own.effect.Effect.TheVariants.{PutLast}
use Rattle.vyrd_base.specs.declared.own.effect.Effect.TheVariants.{PutFirst, TakeFirst, TakeLast}
use Rattle.vyrd_base.specs.declared.own.effect.Effect.TheVariants.{Empty, EmptyShown}
use Rattle.vyrd_base.specs.States.{State}
use Rattle.vyrd_base.specs.Own.Expressions.{Expr, holds, value, list_at}
use Rattle.vyrd_base.specs.Own.Programs.{Change, of_shown, of_hidden, of_register, append, prepend}
use Rattle.vyrd_base.specs.Own.Programs.{drop_first, drop_last, clear, clear_shown, Case, Method}
use Rattle.vyrd_base.specs.Own.Programs.{Written}

-- the values with one more for each `let`, which sees those before it
abbrev pub with_lets : State → List ℕ → List Expr → List ℕ
with_lets s values [] = values
with_lets s values (e ∷ lets) = with_lets s (values ++ value s values e ∷ []) lets

-- what has a name in a method: the constants, the registers, the arguments and each `let`
abbrev pub at_hand : Written → Method → State → List ℕ → List ℕ
at_hand w m s args = with_lets s (w.constants ++ s.registers ++ args) m.lets

-- what a line of a case does, in numbers
abbrev pub effect_of : State → List ℕ → Change → Effect
effect_of s values (of_shown key new) = SetShown (value s values key) (value s values new)
effect_of s values (of_hidden key new) = SetHidden (value s values key) (value s values new)
effect_of s values (of_register i new) = SetRegister i (value s values new)
effect_of s values (append i new) = PutLast i (value s values new)
effect_of s values (prepend i new) = PutFirst i (value s values new)
effect_of s values (drop_first i) = TakeFirst i
effect_of s values (drop_last i) = TakeLast i
effect_of s values (clear i) = Empty i
effect_of s values clear_shown = EmptyShown

-- what the first case does whose expression isn't 0, or none if there is no such case
abbrev pub allowed_effects : State → List ℕ → List Case → Option (List Effect)
allowed_effects s values cases = option_map (λ case. map (effect_of s values) case.changes)
    (find (λ case. holds (value s values case.allow)) cases)

-- the state with another list of that number, if there is one
abbrev pub with_list : State → ℕ → List ℕ → State
with_list s i new = record s { lists = slice_set s.lists i new }

-- a list without its first, and without its last
abbrev pub without_first : List ℕ → List ℕ
without_first list = drop 1 list

abbrev pub without_last : List ℕ → List ℕ
without_last list = take (length list - 1) list

-- the state after one effect
abbrev pub with_effect : State → Effect → State
with_effect s (SetShown key amount) = record s { shown = with_amount s.shown key amount }
with_effect s (SetHidden key amount) = record s { hidden = with_amount s.hidden key amount }
with_effect s (SetRegister i new) = record s { registers = slice_set s.registers i new }
with_effect s (PutLast i new) = with_list s i (list_at s i ++ new ∷ [])
with_effect s (PutFirst i new) = with_list s i (new ∷ list_at s i)
with_effect s (TakeFirst i) = with_list s i (without_first (list_at s i))
with_effect s (TakeLast i) = with_list s i (without_last (list_at s i))
with_effect s (Empty i) = with_list s i []
with_effect s EmptyShown = record s { shown = [] }

-- the state after effects, one after the other
abbrev pub with_effects : State → List Effect → State
with_effects s [] = s
with_effects s (effect ∷ effects) = with_effects (with_effect s effect) effects

-- what a call with its reply does, all of it computed in the state before; none if the reply is
-- refused
abbrev pub effects_of : Written → Method → State → List ℕ → ℕ → Option (List Effect)
effects_of w m s args reply = allowed_effects s (at_hand w m s args ++ reply ∷ []) m.cases

-- the state after a call with its reply, or none if the reply is refused
unfoldable pub next_of : Written → Method → List ℕ → ℕ → State → Option State
next_of w m args reply s = option_map (with_effects s) (effects_of w m s args reply)

-- what an execution that commits nothing has to reply, if the method has an answer
unfoldable pub answer_of : Written → Method → List ℕ → State → Option ℕ
answer_of w m args s = option_map (value s (at_hand w m s args)) m.answer

-- the keys whose shown amount is set
abbrev pub shown_key : Effect → Option ℕ
shown_key (SetShown key amount) = Some key
shown_key _ = None

abbrev pub shown_keys : List Effect → List ℕ
shown_keys effects = filter_map shown_key effects

-- whether an effect clears all shown amounts
abbrev pub is_clearing : Effect → Bool
is_clearing EmptyShown = true
is_clearing _ = false

-- the state at the start: hidden amounts by key, where a later one for a key counts, registers and
-- lists
abbrev pub hidden_with : Amounts → List (ℕ × ℕ) → Amounts
hidden_with amounts [] = amounts
hidden_with amounts (pair ∷ pairs) = hidden_with (with_amount amounts pair.0 pair.1) pairs

unfoldable pub start_of : Written → State
start_of w = record {
  shown = [];
  hidden = hidden_with [] w.hidden;
  registers = w.registers;
  lists = w.lists;
}

-- the state in which nothing was set: what `shows` sees
abbrev pub blank : State
blank = record { shown = []; hidden = []; registers = []; lists = [] }

-- what a line `shows` gives to a key
abbrev pub given_by : List ℕ → Expr × Expr → ℕ × ℕ
given_by values show = (value blank values show.0, value blank values show.1)

-- what part i gives to keys, by its words: nothing, if they are all 0
unfoldable pub part_gives : Written → ℕ → List ℕ → List (ℕ × ℕ)
part_gives w i words =
    if list_all (λ word. word == 0) words then []
    else map (given_by (w.constants ++ i ∷ words)) w.shows

-- what all words show: part i has the words from number `words * i` on
abbrev pub part_words : Written → List ℕ → ℕ → List ℕ
part_words w words i = slice_range words (w.words * i) (w.words * i + w.words)

unfoldable pub view_of : Written → List ℕ → Amounts
view_of w words = collected (flat_map (λ i. part_gives w i (part_words w words i))
    (numbers_below (length words / w.words)))
