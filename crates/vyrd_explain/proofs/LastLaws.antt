-- Without a state at the start no step is known.
use Rattle.std.proofs.Common.{◌≡◌, ℕ, List, [], ◌∷◌, None, refl}
use Rattle.std.specs.Prelude.{map, filter_map, flat_map}
use Rattle.vyrd_base.specs.declared.log.Entry.{Entry}
use Rattle.vyrd_base.specs.declared.log.StartWord.{StartWord}
use Rattle.vyrd_base.specs.Places.{numbers_below}
use Rattle.vyrd_base.specs.Rules.{Charter, rules_by}
use Rattle.vyrd_base.specs.Starts.{state_at_start}
use Rattle.vyrd_witness.specs.declared.item.Item.{Item}
use Rattle.vyrd_states.specs.Known.{state_then}
use Rattle.vyrd_follow.specs.Doings.{done_at}
use Rattle.vyrd_follow.specs.LastSteps.{placed_at, last_item, last_items}

module _ (c : Charter) (starting : List StartWord) (front : List Entry)
    (none : state_at_start (rules_by c) starting ≡ None) where
  unknown : (n : ℕ) → state_then (rules_by c) starting front n ≡ None
  unknown n = cc

  nothing_done : (p : ℕ) → done_at c starting front p ≡ []
  nothing_done p = cc (unknown p)

  none_before : (ns : List ℕ)
      → flat_map (λ p. map (placed_at p) (done_at c starting front p)) ns ≡ []
  none_before [] = refl
  none_before (p ∷ ns) = cc (nothing_done p, none_before ns)

  none_last : (items : List Item) → filter_map (last_item []) items ≡ []
  none_last [] = refl
  none_last (item ∷ items) = none_last items

  pub no_last : (at : ℕ) (items : List Item) → last_items c starting front at items ≡ []
  no_last at items = cc (none_before (numbers_below at), none_last items)
