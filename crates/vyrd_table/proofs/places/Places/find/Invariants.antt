use Rattle.vyrd_table.proofs.Prelude.{◌≡◌, ◌≢◌, ℕ, ◌+◌, ◌<◌, ◌≤◌, place_at}
use Rattle.vyrd_table.proofs.places.Places.find.Given as goal

abbrev pub invariant-loop-i : goal.invariant-loop-i
invariant-loop-i g l =
    ((j : ℕ) → l.first ≤ j → j < l.i → (place_at g.V.Value.nothing l.self.pairs.items j).0 ≢ l.key)
    × (l.steps + l.first ≡ l.fn.steps + l.i)
