-- What is said of a reply that isn't allowed: what the state before the commit has of the keys that
-- the call looks at, and which replies that state allows.
use Rattle.std.specs.Prelude.{ℕ, List, [], ◌∷◌, ◌++◌, map, filter, take, Option, is_some, slice_get}
use Rattle.std.specs.Option.{option_and_then, option_map_or}
use Rattle.vyrd_base.specs.declared.log.Entry.{Entry}
use Rattle.vyrd_base.specs.declared.log.StartWord.{StartWord}
use Rattle.vyrd_base.specs.Callers.{Called, open_call}
use Rattle.vyrd_base.specs.Places.{newest_first}
use Rattle.vyrd_base.specs.Rules.{Rules}
use Rattle.vyrd_base.specs.States.{State}
use Rattle.vyrd_witness.specs.declared.item.Item.{Item}
use Rattle.vyrd_witness.specs.declared.item.Item.TheVariants.{Before, Allowed}
use Rattle.vyrd_states.specs.Known.{state_then, amount_in}
use Rattle.vyrd_states.specs.Looks.{keys_looked_at}

-- what the caller of the entry at a position has called, if it has an open execution there
abbrev pub called_at : List Entry → ℕ → Option Called
called_at front at =
    option_and_then (λ e. open_call e.caller (newest_first (take at front))) (slice_get front at)

-- the replies that a state allows, of those that a structure that is built in may allow at all
abbrev pub allowed_replies : Rules → Called → State → List ℕ
allowed_replies r called state =
    filter (λ reply. is_some (r.next called.method called.args reply state)) (0 ∷ 1 ∷ 2 ∷ [])

-- what the state before a position has of the keys that a call looks at
abbrev pub before_items : Rules → ℕ → State → Called → List Item
before_items r at state called =
    map (λ key. Before at key (amount_in r state key)) (keys_looked_at called.method called.args)

-- what is said of a call that commits at a position, in the state before
abbrev pub call_items : Rules → ℕ → State → Called → List Item
call_items r at state called =
    before_items r at state called ++ map Allowed (allowed_replies r called state)

-- what is said of the commit at a position of a front, if the state before it is known
abbrev pub reply_items : Rules → List StartWord → List Entry → ℕ → List Item
reply_items r starting front at = option_map_or
    (λ state. option_map_or (call_items r at state) (called_at front at) [])
    (state_then r starting front at) []
