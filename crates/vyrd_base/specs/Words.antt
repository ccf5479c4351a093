-- The words as the effects of the logged writes leave them, from the starting words on. A write
-- outside a block takes effect where it stands. The writes of a block take effect together, one
-- after the other: at the lone commit inside the block, those that are written after it too, and if
-- there is none, at the block's end. Those of a block that doesn't end take no effect. A word has
-- the value of the last effect on it. Entries before a place are given the newest first, and those
-- after it the oldest first.
use Rattle.std.specs.Prelude.{ℕ, Bool, true, false, ◌&&◌, ◌==◌, List, [], ◌∷◌, ◌++◌, map, Option}
use Rattle.std.specs.Prelude.{Some, None, option_map, unwrap_or, if◌then◌else◌}
use Rattle.std.specs.List.{list_any}
use Rattle.std.specs.Option.{option_map_or}
use Rattle.vyrd_base.specs.declared.header.Header.{Header}
use Rattle.vyrd_base.specs.declared.log.Kind.{Kind}
use Rattle.vyrd_base.specs.declared.log.Kind.TheVariants.{Return, Write, Commit, BlockOpen}
use Rattle.vyrd_base.specs.declared.log.Kind.TheVariants.{BlockClose, BlockCommit}
use Rattle.vyrd_base.specs.declared.log.Entry.{Entry}
use Rattle.vyrd_base.specs.declared.log.StartWord.{StartWord}
use Rattle.vyrd_base.specs.Places.{Place, first_answer, numbers_below}
use Rattle.vyrd_base.specs.Callers.{has_block, has_inner_commit}
use Rattle.vyrd_base.specs.Layout.{plain_words}

-- what an entry of the caller adds to the writes of its block: an open begins anew
abbrev pub with_write : Bool → Kind → List (ℕ × ℕ) → List (ℕ × ℕ)
with_write true BlockOpen writes = []
with_write true (Write word value) writes = (word, value) ∷ writes
with_write _ _ writes = writes

-- the words and values that the caller wrote since its last open, the newest first
abbrev pub block_writes : ℕ → List Entry → List (ℕ × ℕ)
block_writes c [] = []
block_writes c (e ∷ earlier) = with_write (e.caller == c) e.kind (block_writes c earlier)

-- what an entry of the caller's open block says of the writes still to come, by what those after it
-- say
abbrev pub ahead_at : Kind → Option (List (ℕ × ℕ)) → Option (List (ℕ × ℕ))
ahead_at BlockClose ahead = Some []
ahead_at BlockCommit ahead = Some []
ahead_at (Return reply) ahead = None
ahead_at (Write word value) ahead = option_map (λ writes. writes ++ (word, value) ∷ []) ahead
ahead_at _ ahead = ahead

-- The writes that the caller's open block still makes, the newest first, if it ends. No block goes
-- on past a return.
abbrev pub writes_ahead : ℕ → List Entry → Option (List (ℕ × ℕ))
writes_ahead c [] = None
writes_ahead c (e ∷ later) =
    if e.caller == c then ahead_at e.kind (writes_ahead c later) else writes_ahead c later

-- The writes of a block that take effect at the lone commit inside it, the newest first: all of
-- them, if the block ends.
abbrev pub effects_of_commit : List Entry → ℕ → List Entry → List (ℕ × ℕ)
effects_of_commit earlier c later =
    if has_block c earlier
    then option_map_or (λ ahead. ahead ++ block_writes c earlier) (writes_ahead c later) []
    else []

-- The writes that take effect at the block's end: none if they did so at the commit inside it.
abbrev pub effects_of_end : List Entry → ℕ → List (ℕ × ℕ)
effects_of_end earlier c = if has_inner_commit c earlier then [] else block_writes c earlier

-- the writes that take effect at an entry, the newest first
abbrev pub effects_at : List Entry → ℕ → Kind → List Entry → List (ℕ × ℕ)
effects_at earlier c (Write word value) later =
    if has_block c earlier then [] else (word, value) ∷ []
effects_at earlier c Commit later = effects_of_commit earlier c later
effects_at earlier c BlockClose later = effects_of_end earlier c
effects_at earlier c BlockCommit later = effects_of_end earlier c
effects_at earlier c _ later = []

-- the writes that took effect at the entries before a place, the last to do so first
abbrev pub effects : List Entry → List Entry → List (ℕ × ℕ)
effects [] later = []
effects (e ∷ earlier) later =
    effects_at earlier e.caller e.kind later ++ effects earlier (e ∷ later)

-- the value that a write gives the word, if it is to that word
abbrev pub given_to : ℕ → ℕ × ℕ → Option ℕ
given_to word (other, value) = if other == word then Some value else None

-- the word's starting value, which is 0 if none is given
abbrev pub value_at_start : List StartWord → ℕ → ℕ
value_at_start starting word =
    unwrap_or (first_answer (λ s. given_to word (s.word, s.value)) starting) 0

-- the value of the last effect on the word, and its starting value if there is none
abbrev pub value_after : List StartWord → List (ℕ × ℕ) → ℕ → ℕ
value_after starting writes word =
    unwrap_or (first_answer (given_to word) writes) (value_at_start starting word)

-- the plain words, once these writes have taken effect
abbrev pub words_with : Header → List StartWord → List (ℕ × ℕ) → List ℕ
words_with h starting writes = map (value_after starting writes) (numbers_below (plain_words h))

-- the plain words at a place of a front, after all effects up to it
unfoldable pub words_at : Header → List StartWord → Place Entry → List ℕ
words_at h starting place = words_with h starting (effects (place.here ∷ place.earlier) place.later)

-- the plain words after all entries of a front
unfoldable pub words_after : Header → List StartWord → List Entry → List ℕ
words_after h starting earlier = words_with h starting (effects earlier [])

-- whether an entry is a lone commit
abbrev pub is_lone_commit : Kind → Bool
is_lone_commit Commit = true
is_lone_commit _ = false

-- the writes of other callers that took effect since the caller's last lone commit, before a place
abbrev pub effects_of_others : ℕ → List Entry → List Entry → List (ℕ × ℕ)
effects_of_others c [] later = []
effects_of_others c (e ∷ earlier) later =
    if e.caller == c then
    (if is_lone_commit e.kind then [] else effects_of_others c earlier (e ∷ later))
    else effects_at earlier e.caller e.kind later ++ effects_of_others c earlier (e ∷ later)

-- Whether the word is passed for the caller: its open block has a lone commit, after which a write
-- of another caller took effect on the word. Here only the effects of what stands before a place
-- are looked at.
abbrev pub is_passed : ℕ → ℕ → List Entry → Bool
is_passed c w earlier =
    has_inner_commit c earlier && list_any (λ write. write.0 == w) (effects_of_others c earlier [])
