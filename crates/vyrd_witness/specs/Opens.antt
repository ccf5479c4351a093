-- What is open after the entries of a log: calls that haven't returned, and blocks that haven't
-- ended.
use Rattle.std.specs.Prelude.{ℕ, ◌==◌, List, [], ◌∷◌, ◌++◌, length, flat_map, Option, Some, None}
use Rattle.std.specs.Prelude.{if◌then◌else◌}
use Rattle.std.specs.Option.{option_map_or}
use Rattle.vyrd_base.specs.declared.header.Header.{Header}
use Rattle.vyrd_base.specs.declared.log.Entry.{Entry}
use Rattle.vyrd_base.specs.declared.log.Kind.{Kind}
use Rattle.vyrd_base.specs.declared.log.Kind.TheVariants.{BlockOpen, BlockClose, BlockCommit}
use Rattle.vyrd_base.specs.Places.{newest_first, numbers_below}
use Rattle.vyrd_witness.specs.declared.item.Item.{Item}
use Rattle.vyrd_witness.specs.declared.item.Item.TheVariants.{OpenCall, OpenBlock}
use Rattle.vyrd_witness.specs.Executions.{begun_in}

-- where the caller's open block begins after its entry at a position, by where it does before
abbrev pub opened_by : Kind → ℕ → Option ℕ → Option ℕ
opened_by BlockOpen at before = Some at
opened_by BlockClose at before = None
opened_by BlockCommit at before = None
opened_by _ at before = before

-- the position at which the caller's open block begins, if it has one after these entries, which
-- are given the newest first
abbrev pub opened_in : ℕ → List Entry → Option ℕ
opened_in c [] = None
opened_in c (e ∷ earlier) = if e.caller == c
    then opened_by e.kind (length earlier) (opened_in c earlier)
    else opened_in c earlier

-- what the caller has open after these entries
abbrev pub open_items_of : List Entry → ℕ → List Item
open_items_of earlier c = option_map_or (λ begun. OpenCall begun.at ∷ []) (begun_in c earlier) []
    ++ option_map_or (λ at. OpenBlock at ∷ []) (opened_in c earlier) []

-- what each caller has open after a front, the first caller first
abbrev pub open_items : Header → List Entry → List Item
open_items h front = flat_map (open_items_of (newest_first front)) (numbers_below h.callers)
