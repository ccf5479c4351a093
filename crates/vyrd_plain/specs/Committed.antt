-- Which callers have committed in the executions that they are in.
use Rattle.std.specs.Prelude.{◌≡◌, ◌<◌, ℕ, Bool, true, false, List, Some, slice_get, slice_set}
use Rattle.vyrd_base.specs.declared.header.Header.{Header}
use Rattle.vyrd_base.specs.declared.log.Kind.{Kind}
use Rattle.vyrd_base.specs.declared.log.Kind.TheVariants.{Call, Return, Commit, BlockCommit}
use Rattle.vyrd_base.specs.declared.log.Entry.{Entry}
use Rattle.vyrd_base.specs.Callers.{has_committed}

-- how the callers that have committed change with one more entry
abbrev pub committed_after : List Bool → ℕ → Kind → List Bool
committed_after committed c (Call method args) = slice_set committed c false
committed_after committed c (Return reply) = slice_set committed c false
committed_after committed c Commit = slice_set committed c true
committed_after committed c BlockCommit = slice_set committed c true
committed_after committed c _ = committed

-- the list says of each caller whether it has committed
abbrev pub AreCommitted : Header → List Entry → List Bool → Type 0
AreCommitted h earlier committed =
    (c : ℕ) → c < h.callers → slice_get committed c ≡ Some (has_committed c earlier)
