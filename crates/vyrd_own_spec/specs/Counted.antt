-- What counts for whether a call may have a reply, by the name of the call's method.
use Rattle.std.specs.Prelude.{ℕ, List, []}
use Rattle.std.specs.Option.{option_map_or}
use Rattle.vyrd_base.specs.States.{State}
use Rattle.vyrd_base.specs.Subjects.{own_number}
use Rattle.vyrd_base.specs.Rules.{given}
use Rattle.vyrd_base.specs.declared.subject.Method as declared
use Rattle.vyrd_base.specs.declared.subject.Args.{Args}
use Rattle.vyrd_base.specs.Own.Programs.{Written}
use Rattle.vyrd_base.specs.Own.OwnRules.{own_method}
use Rattle.vyrd_own.specs.declared.reads.Worth.{Worth}
use Rattle.vyrd_own.specs.Reads.{worths}

-- what counts for a call of the method of that number; nothing if there is no such method
abbrev pub own_worths : Written → ℕ → Args → ℕ → State → List Worth
own_worths w i args reply s =
    option_map_or (λ m. worths w m s (given w i args) reply) (own_method w i) []

-- the same, by the call's method
abbrev pub worths_by : Written → declared.Method → Args → ℕ → State → List Worth
worths_by w method args reply s =
    option_map_or (λ i. own_worths w i args reply s) (own_number method) []
