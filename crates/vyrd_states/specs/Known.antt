-- The specification's state at a place of a front, as far as it is known there: it is known up to
-- the first commit whose execution doesn't return, or whose reply is refused.
use Rattle.std.specs.Prelude.{ℕ, ◌+◌, List, [], ◌∷◌, take, Option, slice_get}
use Rattle.std.specs.Option.{option_map_or}
use Rattle.vyrd_base.specs.declared.log.Entry.{Entry}
use Rattle.vyrd_base.specs.declared.log.StartWord.{StartWord}
use Rattle.vyrd_base.specs.Amounts.{amount_of}
use Rattle.vyrd_base.specs.Commits.{commit_count}
use Rattle.vyrd_base.specs.Places.{newest_first}
use Rattle.vyrd_base.specs.Rules.{Rules}
use Rattle.vyrd_base.specs.States.{State}
use Rattle.vyrd_base.specs.Verdicts.{states_along}
use Rattle.vyrd_witness.specs.declared.item.Item.{Item}
use Rattle.vyrd_witness.specs.declared.item.Item.TheVariants.{After}

-- the state after the first n entries of a front
abbrev pub state_then : Rules → List StartWord → List Entry → ℕ → Option State
state_then r starting front n =
    slice_get (states_along r starting front) (commit_count (newest_first (take n front)))

-- what a state shows of a key
abbrev pub amount_in : Rules → State → ℕ → ℕ
amount_in r state key = amount_of (r.shown state) key

-- what the state has of a key after the entry at a position
abbrev pub after_items : Rules → List StartWord → List Entry → ℕ → ℕ → List Item
after_items r starting front at key =
    option_map_or (λ state. After at key (amount_in r state key) ∷ [])
    (state_then r starting front (at + 1)) []
