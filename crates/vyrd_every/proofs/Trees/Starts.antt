-- The words at the start hold a tree: node 0 alone is linked, and it is an empty leaf.
use Rattle.vyrd_every.proofs.Prelude.{ℕ, ◌<◌, [], arith, start, shown_by, first_shape, IsLinked}
use Rattle.vyrd_every.proofs.Prelude.{ShowsState}

pub starts_linked : (size : ℕ) → 0 < size → IsLinked size first_shape (shown_by [])
starts_linked size some = grind arith

-- and it shows the empty state
pub starts_state : ShowsState first_shape (shown_by []) start.shown
starts_state = grind arith
