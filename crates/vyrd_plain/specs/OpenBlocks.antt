-- The open blocks and the words at a place of a front, as the plain judge keeps them: `seen` stands
-- before the place, the oldest entry first, and `later` from it on.
use Rattle.std.specs.Prelude.{◌≡◌, ◌<◌, ◌==◌, ℕ, Bool, true, false, List, [], ◌∷◌, ◌++◌, length}
use Rattle.std.specs.Prelude.{drop, Option, Some, None, option_map, slice_get}
use Rattle.vyrd_base.specs.declared.header.Header.{Header}
use Rattle.vyrd_base.specs.declared.log.Kind.{Kind}
use Rattle.vyrd_base.specs.declared.log.Kind.TheVariants.{Write, Commit, BlockOpen, BlockClose}
use Rattle.vyrd_base.specs.declared.log.Kind.TheVariants.{BlockCommit}
use Rattle.vyrd_base.specs.declared.log.Entry.{Entry}
use Rattle.vyrd_base.specs.Places.{newest_first}
use Rattle.vyrd_base.specs.Callers.{has_block, has_inner_commit}
use Rattle.vyrd_base.specs.Words.{block_writes, effects, words_with}
use Rattle.vyrd_plain.specs.declared.effects.Block.{Block}

-- what an entry writes, if it is the caller's
abbrev pub written_by : Bool → Kind → List (ℕ × ℕ)
written_by true (Write word value) = (word, value) ∷ []
written_by _ _ = []

-- the words and values that the caller wrote among these entries, the newest first
abbrev pub writes_in : ℕ → List Entry → List (ℕ × ℕ)
writes_in c [] = []
writes_in c (e ∷ entries) = writes_in c entries ++ written_by (e.caller == c) e.kind

-- What is kept of the caller's open block: where its open stands, and whether a lone commit stands
-- in it.
pub record IsOpenBlock (seen : List Entry) (c : ℕ) (b : Block) : Type 0 where
  pub before : b.opened < length seen
  pub inside : has_block c (newest_first seen) ≡ true
  pub has_commit : has_inner_commit c (newest_first seen) ≡ b.has_commit
  pub writes : block_writes c (newest_first seen) ≡ writes_in c (drop b.opened seen)

-- the same for a caller that may have no open block
abbrev pub IsBlockOf : List Entry → ℕ → Option Block → Type 0
IsBlockOf seen c None = has_block c (newest_first seen) ≡ false
IsBlockOf seen c (Some b) = IsOpenBlock seen c b

-- an open block with a lone commit in it
abbrev pub committed : Block → Block
committed b = record b { has_commit = true }

-- the block of an entry's caller after the entry, which stands at this position
abbrev pub block_after : ℕ → Kind → Option Block → Option Block
block_after at Commit block = option_map committed block
block_after at BlockOpen block = Some (record { opened = at; has_commit = false })
block_after at BlockClose block = None
block_after at BlockCommit block = None
block_after at _ block = block

-- each caller's block is kept, and the words are those that the effects of the entries before the
-- place leave
pub record HasEffects (h : Header) (words : List ℕ) (blocks : List (Option Block))
    (seen later : List Entry) : Type 0 where
  pub values : words ≡ words_with h [] (effects (newest_first seen) later)
  pub open_blocks : (c : ℕ) → c < h.callers
      → (o : Option Block) × (slice_get blocks c ≡ Some o) × IsBlockOf seen c o
