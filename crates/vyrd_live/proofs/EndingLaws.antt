-- How the workers of a live run ended, and what it says of the run.
use Rattle.vyrd_live.proofs.Prelude.{slice_index_or, Header, Did, Stamped, Script, stop}
use Rattle.vyrd_live.proofs.Prelude.{PlaysToTheEnd, script_of, Ending, Finished, Spent, HadRoom}
use Rattle.vyrd_live.proofs.Prelude.{StopsForRoom, HasEnded, IsFirstSpent, done_by, HavePlayed}
use Rattle.std.proofs.Common.{◌⊎◌, ◌≡◌, ◌≢◌, ℕ, ◌+◌, ◌<◌, ◌≤◌, List, [], Option, Some, arith}
use Rattle.std.specs.Option.{option_or}
use Rattle.vyrd_live.specs.declared.worker.Ending.TheVariants.{Memory}

-- what holds of each number below n, and of n
one_more : (P : ℕ → Type 0) (n : ℕ) → ((i : ℕ) → i < n → P i) → P n → (i : ℕ) → i < n + 1 → P i
one_more P n below here i low = search arith

-- one ending more
pub first_finished : (endings : List Ending) (n : ℕ) (first : Option ℕ)
    → slice_index_or endings n Finished ≡ Finished → IsFirstSpent endings n first
    → IsFirstSpent endings (n + 1) first
first_finished endings n first here is = search (one_more, arith)

pub first_spent : (endings : List Ending) (n : ℕ) (first : Option ℕ)
    → slice_index_or endings n Finished ≡ Spent → IsFirstSpent endings n first
    → IsFirstSpent endings (n + 1) (option_or first (Some n))
first_spent endings n first here is = search (one_more, arith)

-- how each caller's worker ended
pub record HaveEnded (h : Header) (limit : ℕ) (scripts : List Script) (history : List Stamped)
    (endings : List Ending) : Type 0 where
  pub each : (c : ℕ) → c < h.callers → HasEnded h limit (script_of scripts c)
      (slice_index_or endings c Finished) (done_by c history)
  pub others : (c : ℕ) → h.callers ≤ c → (script_of scripts c ≡ stop) × (done_by c history ≡ [])

to_the_end : (h : Header) (limit : ℕ) (script : Script) (ending : Ending) (events : List Did)
    → ending ≡ Finished
    → HasEnded h limit script ending events
    → PlaysToTheEnd script events × HadRoom h limit events
to_the_end h limit script ending events is ended = grind arith

until_spent : (h : Header) (limit : ℕ) (script : Script) (ending : Ending) (events : List Did)
    → ending ≡ Spent
    → HasEnded h limit script ending events
    → StopsForRoom h limit script events
until_spent h limit script ending events is ended = grind arith

one_of_both : (h : Header) (limit : ℕ) (script : Script) (ending : Ending) (events : List Did)
    → ending ≢ Memory
    → HasEnded h limit script ending events
    → PlaysToTheEnd script events ⊎ StopsForRoom h limit script events
one_of_both h limit script ending events isnt ended = search arith

-- a caller that there isn't does nothing
idle : (h : Header) (limit : ℕ) (script : Script) (events : List Did) → script ≡ stop → events ≡ []
    → PlaysToTheEnd script events × HadRoom h limit events
idle h limit script events is none = search arith

-- so the run is as the first that was spent says
pub played : (h : Header) (limit : ℕ) (scripts : List Script) (history : List Stamped)
    (endings : List Ending) (first : Option ℕ)
    → HaveEnded h limit scripts history endings → IsFirstSpent endings h.callers first
    → HavePlayed h limit scripts history first
played h limit scripts history endings first ended is = search
    (to_the_end, idle, one_of_both, until_spent, arith)
