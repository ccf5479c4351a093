-- What the steps of a specification do along a front: at each commit whose state before it is
-- known, what its call does to that state.
use Rattle.std.specs.Prelude.{ℕ, ◌==◌, Bool, not, List, [], map, filter, slice_get, unwrap_or}
use Rattle.std.specs.Prelude.{if◌then◌else◌}
use Rattle.std.specs.Option.{option_map_or}
use Rattle.vyrd_base.specs.declared.log.Entry.{Entry}
use Rattle.vyrd_base.specs.declared.log.StartWord.{StartWord}
use Rattle.vyrd_base.specs.declared.own.effect.Effect.{Effect}
use Rattle.vyrd_base.specs.declared.own.effect.Effect.TheVariants.{SetShown}
use Rattle.vyrd_base.specs.Amounts.{Amounts, amount_of}
use Rattle.vyrd_base.specs.Callers.{Called}
use Rattle.vyrd_base.specs.Commits.{is_commit}
use Rattle.vyrd_base.specs.Own.Reader.{written_in}
use Rattle.vyrd_base.specs.Rules.{Charter, built_in, own, rules_by, rules_of}
use Rattle.vyrd_base.specs.States.{State}
use Rattle.vyrd_own_spec.specs.Touched.{effects_by}
use Rattle.vyrd_witness.specs.declared.execution.Execution.{Execution}
use Rattle.vyrd_witness.specs.Executions.{execution_in}
use Rattle.vyrd_states.specs.Known.{state_then}
use Rattle.vyrd_states.specs.Looks.{keys_looked_at}
use Rattle.vyrd_states.specs.Running.{called_by}

-- whether amounts differ at a key
abbrev pub differ_at : Amounts → Amounts → ℕ → Bool
differ_at before after key = not (amount_of before key == amount_of after key)

-- those of these keys that get another amount, with that
abbrev pub amounts_set : Amounts → Amounts → List ℕ → List Effect
amounts_set before after keys =
    map (λ key. SetShown key (amount_of after key)) (filter (differ_at before after) keys)

-- What a call with its reply does to a state: nothing if the state doesn't allow the reply. A call
-- of a structure that is built in sets amounts of the keys that it looks at, and of no others.
abbrev pub done_to : Charter → Called → ℕ → State → List Effect
done_to (built_in h) called reply before = option_map_or
    (λ after. amounts_set before.shown after.shown (keys_looked_at called.method called.args))
    ((rules_of h).next called.method called.args reply before) []
done_to (own h lines) called reply before =
    unwrap_or (effects_by (written_in lines) called.method called.args reply before) []

-- what an execution does to the state before its commit: nothing if it doesn't return
abbrev pub done_by : Charter → State → Execution → List Effect
done_by c before x =
    option_map_or (λ back. done_to c (called_by x) back.reply before) x.returned []

-- what the commit that stands at a position does to the state before it
abbrev pub done_by_entry : Charter → List Entry → ℕ → State → Entry → List Effect
done_by_entry c front at before e = if is_commit e.kind
    then option_map_or (done_by c before) (execution_in front at e.caller) []
    else []

-- what the entry at a position of a front does to the state before it, if that is known
abbrev pub done_at : Charter → List StartWord → List Entry → ℕ → List Effect
done_at c starting front at = option_map_or
    (λ before. option_map_or (done_by_entry c front at before) (slice_get front at) [])
    (state_then (rules_by c) starting front at) []
