-- When a table grows, and what it has saved by then.
use Rattle.std.specs.Prelude.{ℕ, Bool, ◌+◌, ◌-◌, ◌/◌, ◌^◌, ◌<◌, ◌≤◌}
use Rattle.vyrd_table.specs.Places.{bits_at_least, bits_at_most}
use Rattle.vyrd_table.specs.Placed.{ArePlaced, names_of}
use Rattle.vyrd_table.specs.declared.places.Places.{Places}

-- As long as 2^bits places may become more, up to 2^most, the names and the newcomers that may come
-- before that are at most half as many as the places. So it is at first, with no name but that of 0
-- and room for a quarter; each newcomer brings one name at most, and takes one of the room; and
-- when that is used up, the places become at least twice as many, and there is room for a quarter.
-- A key that is taken out leaves its name in its place. As long as that stands there, the key is no
-- newcomer if it comes again.
pub record HasRoom (bits names most room : ℕ) : Type 0 where
  pub half : 0 < room → names + room ≤ 2 ^ bits / 2
  pub quarter : 0 < room → room ≤ 2 ^ bits / 4
  pub larger : 0 < room → bits < most
  pub least : bits_at_least ≤ bits
  pub limit : most ≤ bits_at_most

-- what is always so of a table
pub record IsTable {V : Type 0} (nothing : V) (is_nothing : V → Bool) (places : Places V)
    (room most : ℕ) : Type 0 where
  pub placed : ArePlaced nothing is_nothing places
  pub shifted : places.shift ≤ 64
  pub growing : HasRoom (64 - places.shift) (names_of places) most room
