-- What a linked tree shows.
use Rattle.std.specs.Prelude.{◌≡◌, ℕ, true}
use Rattle.vyrd_base.specs.Amounts.{Amounts, IsAmounts, amount_of}
use Rattle.vyrd_memory.specs.Alone.{Memory}
use Rattle.vyrd_tree.specs.Contents.{level_at, entries_at, Covers, gives}
use Rattle.vyrd_every.specs.Trees.Shapes.{Shape}

-- the state in which each key has the amount that the leaf of its range gives
pub record ShowsState (g : Shape) (m : Memory) (state : Amounts) : Type 0 where
  pub shows : (q n : ℕ) → g.linked n ≡ true → level_at m n ≡ 0 → Covers m g.low n q
      → amount_of state q ≡ gives q (entries_at m n)
  pub formed : IsAmounts state
