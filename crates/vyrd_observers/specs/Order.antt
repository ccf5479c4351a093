-- What is known of all trails and all watches together.
use Rattle.std.specs.Prelude.{◌≡◌, ◌≤◌, ◌+◌, ℕ, Bool, false, cond, ◌==◌, List, length, map, set}
use Rattle.std.specs.Prelude.{Option, Some, None, slice_get, count_by}
use Rattle.vyrd_base.specs.declared.header.Header.{Header}
use Rattle.vyrd_observers.specs.declared.watch.Watch.{Watch}
use Rattle.vyrd_observers.specs.Trails.{Asked, AreOn, AreAsking, AreUsed, StayOrEnd, seen_by}
use Rattle.vyrd_observers.specs.Watching.{unwatched}

-- whether an observer asks the trail at this place
abbrev pub asks : ℕ → Option Watch → Bool
asks trail None = false
asks trail (Some w) = w.trail == trail

-- how many observers ask it
abbrev pub askers_of : ℕ → List (Option Watch) → ℕ
askers_of trail watches = count_by (asks trail) watches

-- some observer asks it
abbrev pub SomeAsks : ℕ → List (Option Watch) → Type 0
SomeAsks trail watches =
    (c : ℕ) × (w : Watch) × (slice_get watches c ≡ Some (Some w)) × (w.trail ≡ trail)

-- each trail counts the observers that ask it
abbrev pub AreCounted : List Asked → List (Option Watch) → Type 0
AreCounted trails watches =
    (i : ℕ) (t : Asked) → slice_get trails i ≡ Some t → t.askers ≡ askers_of i watches

-- so does each, except that the one at this place counts another that has returned
abbrev pub AreCountedBefore : ℕ → List Asked → List (Option Watch) → Type 0
AreCountedBefore trail trails watches =
    (i : ℕ) (t : Asked) → slice_get trails i ≡ Some t
    → t.askers ≡ askers_of i watches + cond (trail == i) 1 0

-- no trail is asked from this place on
abbrev pub AreFreeFrom : ℕ → List Asked → Type 0
AreFreeFrom reach trails =
    (i : ℕ) (t : Asked) → reach ≤ i → slice_get trails i ≡ Some t → t.is_asked ≡ false

-- A caller's observer is closed. The others have what they had, and trails are given up that nobody
-- asks any more. From this place on none is asked.
pub record Closes (caller : ℕ) (old new : List Asked) (watches closed : List (Option Watch))
    (reach : ℕ) : Type 0 where
  pub seen : map (seen_by new) closed ≡ set (map (seen_by old) watches) caller unwatched
  pub none : slice_get closed caller ≡ Some None
  pub on : AreOn new closed
  pub used : AreUsed new closed
  pub counted : AreCounted new closed
  pub asking : (h : Header) → AreAsking h old → AreAsking h new
  pub stay : StayOrEnd old new
  pub trails : length new ≡ length old
  pub within : reach ≤ length new
  pub free : AreFreeFrom reach new

-- What is known of all trails and all watches: each open observer is on a trail, what is asked may
-- return without a commit, each trail is used and counts the observers that ask it, there are no
-- more trails than callers, and from this place on none is asked.
pub record AreInOrder (h : Header) (reach : ℕ) (trails : List Asked)
    (watches : List (Option Watch)) : Type 0 where
  pub on : AreOn trails watches
  pub asking : AreAsking h trails
  pub used : AreUsed trails watches
  pub counted : AreCounted trails watches
  pub callers : length watches ≡ h.callers
  pub few : length trails ≤ length watches
  pub within : reach ≤ length trails
  pub free : AreFreeFrom reach trails
