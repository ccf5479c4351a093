-- The keys whose shown amount a step can change.
use Rattle.std.specs.Prelude.{ℕ, List, [], ◌++◌, Option, option_and_then, if◌then◌else◌}
use Rattle.std.specs.Option.{option_map_or}
use Rattle.std.specs.List.{list_any}
use Rattle.vyrd_base.specs.Amounts.{keys_of}
use Rattle.vyrd_base.specs.States.{State}
use Rattle.vyrd_base.specs.Subjects.{own_number}
use Rattle.vyrd_base.specs.Rules.{given}
use Rattle.vyrd_base.specs.declared.subject.Method as declared
use Rattle.vyrd_base.specs.declared.subject.Args.{Args}
use Rattle.vyrd_base.specs.declared.own.effect.Effect.{Effect}
use Rattle.vyrd_base.specs.Own.Programs.{Written}
use Rattle.vyrd_base.specs.Own.OwnRules.{own_method, own_next}
use Rattle.vyrd_base.specs.Own.Steps.{effects_of, answer_of, shown_keys, is_clearing}

-- the keys of effects: those that are set, and all that were there before if they are cleared
abbrev pub touched_by : State → List Effect → List ℕ
touched_by s effects =
    (if list_any is_clearing effects then keys_of s.shown else []) ++ shown_keys effects

-- what a call does, by its number
abbrev pub own_effects : Written → ℕ → Args → ℕ → State → Option (List Effect)
own_effects w i args reply s =
    option_and_then (λ m. effects_of w m s (given w i args) reply) (own_method w i)

-- what a call does with its reply, if it is allowed
abbrev pub effects_by : Written → declared.Method → Args → ℕ → State → Option (List Effect)
effects_by w method args reply s =
    option_and_then (λ i. own_effects w i args reply s) (own_number method)

-- the state after a call
abbrev pub next_by : Written → declared.Method → Args → ℕ → State → Option State
next_by w method args reply s =
    option_and_then (λ i. own_next w i (given w i args) reply s) (own_number method)

-- what a call answers, if it has an answer
abbrev pub answer_by : Written → declared.Method → Args → State → Option ℕ
answer_by w method args s = option_and_then
    (λ i. option_and_then (λ m. answer_of w m (given w i args) s) (own_method w i))
    (own_number method)

-- the keys of a call with its reply; without its leave there are none
abbrev pub touches : Written → State → declared.Method → Args → ℕ → List ℕ
touches w s method args reply = option_map_or (touched_by s) (effects_by w method args reply s) []
