-- The words, from zeros on, with each block's writes taking effect at the block's end. So they did
-- while version 1 was the only one, and so they do still in a log without commits inside blocks.
-- `Words` says when the writes of other blocks do. After all entries of a log that keeps the rules
-- the last effect on a word is the same by both. So what follows a log may let each block take
-- effect at its end.
use Rattle.std.specs.Prelude.{ℕ, List, [], ◌∷◌, ◌++◌, map, unwrap_or, if◌then◌else◌}
use Rattle.vyrd_base.specs.declared.header.Header.{Header}
use Rattle.vyrd_base.specs.declared.log.Kind.{Kind}
use Rattle.vyrd_base.specs.declared.log.Kind.TheVariants.{Write, BlockClose, BlockCommit}
use Rattle.vyrd_base.specs.declared.log.Entry.{Entry}
use Rattle.vyrd_base.specs.Places.{first_answer, numbers_below}
use Rattle.vyrd_base.specs.Callers.{has_block}
use Rattle.vyrd_base.specs.Layout.{plain_words}
use Rattle.vyrd_base.specs.Words.{block_writes, given_to}

-- the writes that take effect at an entry, the newest first: a block's writes do so at the block's
-- end
abbrev pub ended_effects_at : List Entry → ℕ → Kind → List (ℕ × ℕ)
ended_effects_at earlier c (Write word value) =
    if has_block c earlier then [] else (word, value) ∷ []
ended_effects_at earlier c BlockClose = block_writes c earlier
ended_effects_at earlier c BlockCommit = block_writes c earlier
ended_effects_at earlier c _ = []

-- the writes that took effect, the last to do so first
abbrev pub ended_effects : List Entry → List (ℕ × ℕ)
ended_effects [] = []
ended_effects (e ∷ earlier) = ended_effects_at earlier e.caller e.kind ++ ended_effects earlier

-- the value of the last effect on the word, and 0 if there is none
abbrev pub ended_value : List (ℕ × ℕ) → ℕ → ℕ
ended_value writes word = unwrap_or (first_answer (given_to word) writes) 0

-- the plain words after these entries
unfoldable pub ended_words : Header → List Entry → List ℕ
ended_words h earlier =
    map (ended_value (ended_effects earlier)) (numbers_below (plain_words h))
