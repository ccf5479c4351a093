-- Which step before a commit was the last that set what an item tells of the state before it.
use Rattle.std.specs.Prelude.{ℕ, ◌==◌, Bool, true, false, List, map, filter, filter_map, flat_map}
use Rattle.std.specs.Prelude.{Option, option_map}
use Rattle.vyrd_base.specs.declared.log.Entry.{Entry}
use Rattle.vyrd_base.specs.declared.log.StartWord.{StartWord}
use Rattle.vyrd_base.specs.declared.own.effect.Effect.{Effect}
use Rattle.vyrd_base.specs.declared.own.effect.Effect.TheVariants.{SetShown, SetHidden, SetRegister}
use Rattle.vyrd_base.specs.declared.own.effect.Effect.TheVariants.{PutLast, PutFirst}
use Rattle.vyrd_base.specs.declared.own.effect.Effect.TheVariants.{TakeFirst, TakeLast}
use Rattle.vyrd_base.specs.declared.own.effect.Effect.TheVariants.{Empty, EmptyShown}
use Rattle.vyrd_base.specs.Own.Methods.{last_in}
use Rattle.vyrd_base.specs.Places.{numbers_below}
use Rattle.vyrd_base.specs.Rules.{Charter}
use Rattle.vyrd_witness.specs.declared.item.Item.{Item}
use Rattle.vyrd_witness.specs.declared.item.Item.TheVariants.{Before, Register, Elements, Hidden}
use Rattle.vyrd_witness.specs.declared.item.Item.TheVariants.{LastStepped}
use Rattle.vyrd_follow.specs.declared.thing.Thing.{Thing}
use Rattle.vyrd_follow.specs.declared.thing.Thing.TheVariants as thing
use Rattle.vyrd_follow.specs.Doings.{done_at}

-- what an item tells of the state before a commit, if it does
abbrev pub told_by : Item → Thing
told_by (Before at key amount) = thing.Shown key
told_by (Hidden at key amount) = thing.Hidden key
told_by (Register at number value) = thing.Register number
told_by (Elements at number size first last) = thing.List number
told_by _ = thing.Nothing

-- what an effect sets, except for all shown amounts at once
abbrev pub set_by : Effect → Thing
set_by (SetShown key amount) = thing.Shown key
set_by (SetHidden key amount) = thing.Hidden key
set_by (SetRegister number value) = thing.Register number
set_by (PutLast number value) = thing.List number
set_by (PutFirst number value) = thing.List number
set_by (TakeFirst number) = thing.List number
set_by (TakeLast number) = thing.List number
set_by (Empty number) = thing.List number
set_by EmptyShown = thing.Nothing

-- whether two of them are one
abbrev pub is_same : Thing → Thing → Bool
is_same (thing.Shown a) (thing.Shown b) = a == b
is_same (thing.Hidden a) (thing.Hidden b) = a == b
is_same (thing.Register a) (thing.Register b) = a == b
is_same (thing.List a) (thing.List b) = a == b
is_same _ _ = false

-- whether an effect sets something: what it names, or any shown amount if it clears them all
abbrev pub does_set : Thing → Effect → Bool
does_set (thing.Shown key) EmptyShown = true
does_set told effect = is_same told (set_by effect)

-- a position, and what the step at it does
abbrev pub placed_at : ℕ → Effect → ℕ × Effect
placed_at at effect = (at, effect)

-- what all steps before a position do, the first to do so first
abbrev pub done_before : Charter → List StartWord → List Entry → ℕ → List (ℕ × Effect)
done_before c starting front at =
    flat_map (λ p. map (placed_at p) (done_at c starting front p)) (numbers_below at)

-- the last of these that sets something
abbrev pub last_setting : Thing → List (ℕ × Effect) → Option (ℕ × Effect)
last_setting told done = last_in (filter (λ step. does_set told step.1) done)

-- the same as an item
abbrev pub last_of : List (ℕ × Effect) → Thing → Option Item
last_of done told = option_map (λ step. LastStepped step.0 step.1) (last_setting told done)

-- the last of these that sets what an item tells
abbrev pub last_item : List (ℕ × Effect) → Item → Option Item
last_item done item = last_of done (told_by item)

-- for each item that tells something of the state before a position, the last step that set it
abbrev pub last_items : Charter → List StartWord → List Entry → ℕ → List Item → List Item
last_items c starting front at items =
    filter_map (last_item (done_before c starting front at)) items
