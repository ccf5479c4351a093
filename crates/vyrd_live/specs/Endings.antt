-- How the callers of a live run end.
use Rattle.std.specs.Prelude.{◌≡◌, ◌≢◌, ℕ, ◌<◌, ⊤, List, slice_index_or, Option, Some, None}
use Rattle.vyrd_base.specs.declared.header.Header.{Header}
use Rattle.vyrd_base.specs.declared.history.Did.{Did}
use Rattle.vyrd_memory.specs.Scripts.{Script, PlaysToTheEnd}
use Rattle.vyrd_live.specs.declared.worker.Ending.{Ending}
use Rattle.vyrd_live.specs.declared.worker.Ending.TheVariants.{Finished, Spent, Memory}
use Rattle.vyrd_live.specs.Rooms.{HadRoom, StopsForRoom}

-- what a worker's ending says of its events, the newest first
abbrev pub HasEnded : Header → ℕ → Script → Ending → List Did → Type 0
HasEnded h limit script Finished events = PlaysToTheEnd script events × HadRoom h limit events
HasEnded h limit script Spent events = StopsForRoom h limit script events
HasEnded h limit script Memory events = ⊤

-- Of the first n endings none was for lack of memory, and this one is the first that was for lack
-- of room, if there is one.
abbrev pub IsFirstSpent : List Ending → ℕ → Option ℕ → Type 0
IsFirstSpent endings n None = (i : ℕ) → i < n → slice_index_or endings i Finished ≡ Finished
IsFirstSpent endings n (Some first) = (first < n) × (slice_index_or endings first Finished ≡ Spent)
    × ((i : ℕ) → i < first → slice_index_or endings i Finished ≡ Finished)
    × ((i : ℕ) → i < n → slice_index_or endings i Finished ≢ Memory)
