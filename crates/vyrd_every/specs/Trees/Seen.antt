-- The memory that callers of the tree see. It is the one that the log shows, with one exception:
-- the root's word is loaded without its lock, so a new root is seen from the store of the root's
-- word on, with all that was written in its block before, while the block is still open. Nothing
-- but its close is to come in that block.
use Rattle.std.specs.Prelude.{Bool, false, ◌∷◌, ◌==◌, ◌&&◌, ◌||◌, cond}
use Rattle.vyrd_base.specs.declared.header.Header.{Header}
use Rattle.vyrd_base.specs.declared.log.Kind.TheVariants.{BlockOpen, BlockClose, BlockCommit}
use Rattle.vyrd_memory.specs.declared.act.Act.{Act}
use Rattle.vyrd_memory.specs.declared.act.Act.TheVariants.{Store, Mark}
use Rattle.vyrd_memory.specs.Alone.{Memory, with_cell}
use Rattle.vyrd_memory.specs.Soundness.{Situation}
use Rattle.vyrd_tree.specs.Cells.{root_cell}
use Rattle.vyrd_every.specs.Locals.{written}
use Rattle.vyrd_every.specs.Trees.Locals.{TreeLocals}

-- whether the act is the store from which on its block's writes are seen
abbrev pub comes_out : Header → Situation → Act → Bool
comes_out h s (Store cell value) = s.in_block && cell == root_cell h
comes_out h s act = false

-- What an act makes of the memory that callers see. A store outside of blocks is seen at once. The
-- writes of a block are seen when it ends, or from the store of the root's word on.
abbrev pub seen_after : Header → Situation → TreeLocals → Memory → Act → Memory
seen_after h s k m (Store cell value) =
    cond s.in_block (cond (cell == root_cell h) (written ((cell, value) ∷ k.pending) m) m)
    (with_cell m cell value)
seen_after h s k m (Mark BlockClose) = cond k.out m (written k.pending m)
seen_after h s k m (Mark BlockCommit) = cond k.out m (written k.pending m)
seen_after h s k m _ = m

-- whether an open block's writes are seen after the act
abbrev pub out_after : Header → Situation → Act → Bool → Bool
out_after h s (Mark BlockOpen) out = false
out_after h s (Mark BlockClose) out = false
out_after h s (Mark BlockCommit) out = false
out_after h s act out = out || comes_out h s act
