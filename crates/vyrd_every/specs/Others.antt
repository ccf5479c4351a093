-- What callers leave to one another. This is rely and guarantee: what a caller relies on while the
-- others act is what each of them guarantees with each of its acts. A lock guards its words for the
-- one that holds it, and a slot is left to the one that has reserved it. The memories are those
-- that the log shows.
use Rattle.std.specs.Prelude.{◌≡◌, ℕ, ◌<◌, true, false}
use Rattle.vyrd_memory.specs.Alone.{Memory}
use Rattle.vyrd_memory.specs.Soundness.{Situation, holds}
use Rattle.vyrd_every.specs.Structures.{Structure}
use Rattle.vyrd_every.specs.Locals.{Locals, Access}

-- What the others leave alone between two acts of a caller: the words whose lock it holds, and the
-- slots that it has reserved.
pub record Rely (S : Structure) (s : Situation) (k : Locals) (shown now : Memory) : Type 0 where
  pub held : (cell : ℕ) → Access S s cell → now cell ≡ shown cell
  pub owned : (slot : ℕ) → k.owned slot ≡ true → S.Same shown now slot

-- What an act of a caller leaves alone: the words whose lock it doesn't hold, and the slots that
-- others have reserved.
pub record Guarantee (S : Structure) (s : Situation) (k : Locals)
    (shown now : Memory) : Type 0 where
  pub others : (cell : ℕ) → cell < S.words → holds s (S.guard cell) ≡ false → now cell ≡ shown cell
  pub reserved : (slot : ℕ) → S.Reserved shown slot → k.owned slot ≡ false → S.Same shown now slot
