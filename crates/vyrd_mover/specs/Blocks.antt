-- The blocks of a history, and the first of them that isn't reducible.
use Rattle.std.specs.Prelude.{ℕ, ◌+◌, Bool, true, false, not, ◌&&◌, ◌==◌, List, [], ◌∷◌, length}
use Rattle.std.specs.Prelude.{Option, Some, None, if◌then◌else◌}
use Rattle.std.specs.Option.{option_map, option_and_then}
use Rattle.std.specs.List.{filter, filter_map}
use Rattle.vyrd_base.specs.declared.log.Kind.TheVariants.{BlockOpen, BlockClose, BlockCommit}
use Rattle.vyrd_base.specs.declared.history.Did.{Did}
use Rattle.vyrd_base.specs.declared.history.Did.TheVariants.{Marked}
use Rattle.vyrd_base.specs.declared.history.Stamped.{Stamped}
use Rattle.vyrd_base.specs.Places.{Place, places, first_answer}
use Rattle.vyrd_base.specs.Histories.{Cells}
use Rattle.vyrd_mover.specs.declared.blocks.Blocks.{Blocks}
use Rattle.vyrd_mover.specs.declared.blocks.Blocks.TheVariants.{Reducible, Broken}
use Rattle.vyrd_mover.specs.RaceFree.{is_race_free}
use Rattle.vyrd_mover.specs.Movers.{has_cut, break_of}

-- whether this is a mark
abbrev pub is_mark : Did → Bool
is_mark (Marked kind) = true
is_mark _ = false

-- whether this is the mark that opens a block
abbrev pub is_block_open : Did → Bool
is_block_open (Marked BlockOpen) = true
is_block_open _ = false

-- whether this is one of the two marks that end a block
abbrev pub is_block_end : Did → Bool
is_block_end (Marked BlockClose) = true
is_block_end (Marked BlockCommit) = true
is_block_end _ = false

-- the events up to and with the next block end of the caller, if there is one
abbrev pub up_to_end : ℕ → List Stamped → Option (List Stamped)
up_to_end c [] = None
up_to_end c (e ∷ later) = if e.caller == c && is_block_end e.did
    then Some (e ∷ [])
    else option_map (◌∷◌ e) (up_to_end c later)

-- the caller's reads, writes, takes and gives among these events
abbrev pub events_of : ℕ → List Stamped → List Stamped
events_of c history = filter (λ e. e.caller == c && not (is_mark e.did)) history

-- the events of the block that is opened at a place, if one is and it ends
abbrev pub block_at : Place Stamped → Option (List Stamped)
block_at place = if is_block_open place.here.did
    then option_map (events_of place.here.caller) (up_to_end place.here.caller place.later)
    else None

-- whether the caller's events among these, which are those of a block, have a cut in this history
abbrev pub is_reducible : Cells → List Stamped → ℕ → List Stamped → Bool
is_reducible cells history c block = has_cut (is_race_free cells history) (events_of c block)

-- the line of an event in the text of a history
abbrev pub line_of : Stamped → ℕ
line_of e = e.number + 2

-- the lines of a block's open and of its break, if it isn't reducible, by its open and its events
abbrev pub broken_lines : (ℕ → Bool) → Stamped → List Stamped → Option (ℕ × ℕ)
broken_lines free opening events = if has_cut free events
    then None
    else option_map (λ e. (line_of opening, line_of e)) (break_of free events)

-- the same of the block that is opened at a place
abbrev pub broken_at : (ℕ → Bool) → Place Stamped → Option (ℕ × ℕ)
broken_at free place = option_and_then (broken_lines free place.here) (block_at place)

-- the lines of the first block that ends and isn't reducible
abbrev pub first_broken : (ℕ → Bool) → List Stamped → Option (ℕ × ℕ)
first_broken free history = first_answer (broken_at free) (places history)

-- how many blocks end
abbrev pub blocks_ended : List Stamped → ℕ
blocks_ended history = length (filter_map block_at (places history))

-- what is said of the blocks, by the first broken one and their number
abbrev pub said_of : Option (ℕ × ℕ) → ℕ → Blocks
said_of None count = Reducible count
said_of (Some lines) count = Broken lines.0 lines.1

-- the answer about a history's blocks
unfoldable pub blocks_of : Cells → List Stamped → Blocks
blocks_of cells history =
    said_of (first_broken (is_race_free cells history) history) (blocks_ended history)
