-- The line that says what is said of a history's blocks.
use Rattle.std.specs.Prelude.{ℕ, List, ◌++◌, codes, decimal}
use Rattle.vyrd_base.specs.Spelling.{ended_line}
use Rattle.vyrd_mover.specs.declared.blocks.Blocks.{Blocks}
use Rattle.vyrd_mover.specs.declared.blocks.Blocks.TheVariants.{Reducible, Broken}

-- the line, with its line feed
abbrev pub blocks_text : Blocks → List ℕ
blocks_text (Reducible count) =
    ended_line (codes "movers: " ++ decimal count ++ codes " blocks, all reducible")
blocks_text (Broken open_line at_line) =
    ended_line (codes "block at line " ++ decimal open_line ++ codes ": not reducible at line "
    ++ decimal at_line)
