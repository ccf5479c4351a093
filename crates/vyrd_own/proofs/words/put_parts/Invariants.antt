use Rattle.vyrd_own.proofs.Prelude.{◌≡◌, ◌++◌, ◌∷◌, take, map, show_of, given_by}
use Rattle.vyrd_own.proofs.words.put_parts.Given as goal

abbrev pub invariant-loop-show : goal.invariant-loop-show
invariant-loop-show l =
    (l.parts.items ≡ l.fn.parts.items ++ map (given_by l.room.values.items)
    (map show_of (take l.show-index l.program.shows.items)))
    × (l.room.values.items ≡ l.program.constants.items ++ l.i ∷ l.words)
