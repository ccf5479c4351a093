-- What is said of a view that differs at a key, item by item: the execution whose commit is at
-- fault, what the words showed of the key before and show now, which parts of them give that, and
-- what changed it.
use Rattle.std.specs.Prelude.{ℕ, ◌+◌, ◌++◌, List, [], ◌∷◌, map, Option, Some, None, slice_get}
use Rattle.std.specs.Option.{option_and_then, option_map_or}
use Rattle.vyrd_base.specs.declared.log.Entry.{Entry}
use Rattle.vyrd_base.specs.declared.log.StartWord.{StartWord}
use Rattle.vyrd_base.specs.Rules.{Charter, rules_by}
use Rattle.vyrd_witness.specs.declared.execution.Execution.{Execution}
use Rattle.vyrd_witness.specs.declared.item.Item.{Item}
use Rattle.vyrd_witness.specs.declared.view.ViewWitness.{ViewWitness}
use Rattle.vyrd_witness.specs.declared.item.Item.TheVariants.{Called, Replied, Agreed}
use Rattle.vyrd_witness.specs.declared.item.Item.TheVariants.{AgreedAtStart, Shown, Changed}
use Rattle.vyrd_witness.specs.Executions.{execution_in}
use Rattle.vyrd_witness.specs.Given.{given_items}
use Rattle.vyrd_witness.specs.ViewWitnesses.{commit_before, up_to, amount_then, parts_then}
use Rattle.vyrd_witness.specs.ViewWitnesses.{changes_along}

-- where an execution was called, and where it returns if it does
abbrev pub execution_items : Execution → List Item
execution_items x =
    Called x.called_at ∷ option_map_or (λ back. Replied back.at ∷ []) x.returned []

-- the execution of its caller in whose midst the entry at a position stands
abbrev pub execution_at : List Entry → ℕ → Option Execution
execution_at front at = option_and_then (λ e. execution_in front at e.caller) (slice_get front at)

-- where that execution was called, and where it returns
abbrev pub called_items : List Entry → ℕ → List Item
called_items front at = option_map_or execution_items (execution_at front at) []

-- what the words showed at the commit before, or at the start
abbrev pub agreed_item : ℕ → Option ℕ → ℕ → Item
agreed_item key None amount = AgreedAtStart key amount
agreed_item key (Some commit) amount = Agreed commit key amount

-- what a witness of the entry at a position says
abbrev pub witness_items : ℕ → ViewWitness → List Item
witness_items at w = agreed_item w.key w.since w.agreed ∷ Shown at w.key w.shown
    ∷ (given_items at w.key w.parts.items ++ map (Changed w.key) w.changes.items)

-- all that is said of the key and of the entry at a position of a front
abbrev pub view_items : Charter → List StartWord → List Entry → ℕ → ℕ → List Item
view_items c starting front at key =
    let since = up_to (commit_before front at) in
    called_items front at
    ++ (agreed_item key (commit_before front at)
    (amount_then (rules_by c) starting front since key)
    ∷ Shown at key (amount_then (rules_by c) starting front (at + 1) key)
    ∷ (given_items at key (parts_then c starting front (at + 1) key)
    ++ map (Changed key) (changes_along (rules_by c) starting front since (at + 1) key)))
