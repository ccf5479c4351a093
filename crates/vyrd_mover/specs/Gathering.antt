-- Blocks whose events stand side by side in some legal history in which each caller does the same.
use Rattle.std.specs.Prelude.{◌≡◌, ℕ, true, ◌==◌, List, ◌∷◌, ◌++◌, Some, None, if◌then◌else◌}
use Rattle.std.specs.List.{list_all, filter_map}
use Rattle.vyrd_base.specs.declared.history.Did.{Did}
use Rattle.vyrd_base.specs.declared.history.Stamped.{Stamped}
use Rattle.vyrd_base.specs.Histories.{Cells, is_legal}
use Rattle.vyrd_mover.specs.Blocks.{is_block_open, up_to_end}

-- what the caller did, in order, numbers aside
abbrev pub done_by : ℕ → List Stamped → List Did
done_by c history = filter_map (λ e. if e.caller == c then Some e.did else None) history

-- a block that ends: its open, the rest of it up to and with its end, and the events before and
-- after it
pub record IsBlock (history before : List Stamped) (opening : Stamped)
    (rest after : List Stamped) : Type 0 where
  pub stands : history ≡ before ++ opening ∷ (rest ++ after)
  pub opens : is_block_open opening.did ≡ true
  pub ends : up_to_end opening.caller (rest ++ after) ≡ Some rest

-- a legal history in which each caller does what it does in the given events, and in which all that
-- the block's caller does from the block's open to its end, and nothing else, stands in the middle
pub record IsGathered (cells : Cells) (c : ℕ)
    (before block after front middle back : List Stamped) : Type 0 where
  pub legal : is_legal cells (front ++ (middle ++ back)) ≡ true
  pub same : (caller : ℕ)
      → done_by caller (front ++ (middle ++ back)) ≡ done_by caller (before ++ (block ++ after))
  pub side_by_side : list_all (λ e. e.caller == c) middle ≡ true
  pub whole : done_by c middle ≡ done_by c block
  pub in_place : done_by c front ≡ done_by c before

-- there is such a history
abbrev pub CanBeGathered : Cells → ℕ → List Stamped → List Stamped → List Stamped → Type 0
CanBeGathered cells c before block after =
    (front : List Stamped) × (middle : List Stamped) × (back : List Stamped)
    × IsGathered cells c before block after front middle back

-- each block that ends can be gathered
abbrev pub EachIsGathered : Cells → List Stamped → Type 0
EachIsGathered cells history = (before rest after : List Stamped) (opening : Stamped)
    → IsBlock history before opening rest after
    → CanBeGathered cells opening.caller before (opening ∷ rest) after
