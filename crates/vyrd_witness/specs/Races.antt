-- What has to do with a write that races: the writes of other callers' open blocks to its word, and
-- those that took effect on the word behind the commit inside the writer's own block.
use Rattle.std.specs.Prelude.{ℕ, ◌+◌, ◌==◌, ◌&&◌, not, List, [], ◌∷◌, ◌++◌, length, map, filter}
use Rattle.std.specs.Prelude.{flat_map, Bool, true, false, Option, Some, None, if◌then◌else◌}
use Rattle.std.specs.Option.{option_map_or}
use Rattle.vyrd_base.specs.declared.header.Header.{Header}
use Rattle.vyrd_base.specs.declared.log.Entry.{Entry}
use Rattle.vyrd_base.specs.declared.log.Kind.{Kind}
use Rattle.vyrd_base.specs.declared.log.Kind.TheVariants.{Write}
use Rattle.vyrd_base.specs.Callers.{holds_word, has_inner_commit}
use Rattle.vyrd_base.specs.Places.{newest_first, numbers_below}
use Rattle.vyrd_base.specs.Words.{is_lone_commit}
use Rattle.vyrd_witness.specs.declared.effect.Effect.{Effect}
use Rattle.vyrd_witness.specs.declared.item.Item.{Item}
use Rattle.vyrd_witness.specs.declared.item.Item.TheVariants.{Held, Passed}
use Rattle.vyrd_witness.specs.Effects.{effects_along}

-- whether an entry writes the word
abbrev pub is_write_to : ℕ → Kind → Bool
is_write_to w (Write word value) = word == w
is_write_to w _ = false

-- the position of the last of these entries, given the newest first, that is the caller's and of
-- this kind
abbrev pub last_of : ℕ → (Kind → Bool) → List Entry → Option ℕ
last_of c is [] = None
last_of c is (e ∷ earlier) =
    if e.caller == c && is e.kind then Some (length earlier) else last_of c is earlier

-- What is the last one since an open after the entry at a position, given the last one before it.
-- The entry is told by what it answers: `Some true` is one more, and `Some false` an open.
abbrev pub last_after : Option Bool → ℕ → Option ℕ → Option ℕ
last_after (Some true) at last = Some at
last_after (Some false) at last = None
last_after None at last = last

-- the last write of another caller to the word, if the caller's open block holds it
abbrev pub held_by : ℕ → ℕ → List Entry → ℕ → List Item
held_by c w earlier d = if not (d == c) && holds_word d w earlier
    then option_map_or (λ at. Held at ∷ []) (last_of d (is_write_to w) earlier) []
    else []

-- the same of all callers
abbrev pub held_items : Header → List Entry → ℕ → ℕ → List Item
held_items h front c w = flat_map (held_by c w (newest_first front)) (numbers_below h.callers)

-- whether an effect is another caller's on the word
abbrev pub is_of_other : ℕ → ℕ → Effect → Bool
is_of_other c w effect = effect.word == w && not (effect.caller == c)

-- the effects of other callers on the word from a position on
abbrev pub passed_from : List Entry → ℕ → ℕ → ℕ → List Item
passed_from front c w from =
    map Passed (filter (is_of_other c w) (effects_along front from (length front)))

-- the same behind the commit inside the caller's open block, if there is one
abbrev pub passed_items : List Entry → ℕ → ℕ → List Item
passed_items front c w = if has_inner_commit c (newest_first front)
    then option_map_or (λ commit. passed_from front c w (commit + 1))
    (last_of c is_lone_commit (newest_first front)) []
    else []

-- what has to do with an entry of the caller that stands behind the front, if it is a write
abbrev pub race_items_of : Header → List Entry → ℕ → Kind → List Item
race_items_of h front c (Write word value) =
    held_items h front c word ++ passed_items front c word
race_items_of h front c _ = []

abbrev pub race_items : Header → List Entry → Entry → List Item
race_items h front e = race_items_of h front e.caller e.kind
