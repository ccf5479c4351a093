-- What the calls of a table cost, in steps. One step is one place of the table that is looked at or
-- filled, or one key that is taken from one table to another. A question to an ordered map is taken
-- to be as many steps as the number of its keys has binary digits, and one more.
use Rattle.std.specs.Prelude.{ℕ, zero, suc, ◌+◌, ◌-◌, ◌*◌, ◌/◌, ◌^◌, ◌==◌, nat_le, nat_lt}
use Rattle.vyrd_table.specs.Places.{reach, place_count}
use Rattle.std.specs.Prelude.{if◌then◌else◌}

-- how many binary digits a number has; 0 has none
unfoldable pub digits : ℕ → ℕ
digits zero = 0
digits (suc n) = if nat_le (2 ^ digits n) (suc n) then suc (digits n) else digits n

-- a question to an ordered map with so many keys
abbrev pub question : ℕ → ℕ
question keys = digits keys + 1

-- a look-up among so many keys: the places of the key, and if none has its name, a question
abbrev pub look_up_price : ℕ → ℕ
look_up_price keys = reach + question keys

-- a value for a key that no place has the name of: whether it is among the rest, a free place for
-- it, and if there is none, the rest again
abbrev pub newcomer_price : ℕ → ℕ
newcomer_price keys = reach + 2 * question keys

-- a table that may still grow has fewer keys than this
abbrev pub most_keys : ℕ
most_keys = 2 ^ 19

-- so a question to the rest costs no more than this
abbrev pub most_asked : ℕ
most_asked = 20

-- a key that comes from one table to another: its places, and what a newcomer costs
abbrev pub transfer_price : ℕ
transfer_price = 2 * reach + 2 * most_asked

-- so many keys that come from so many places to so many others: the old places are looked at, the
-- new ones are filled, and each key comes; if it is among the rest, it is looked at twice
abbrev pub moving_price : ℕ → ℕ → ℕ → ℕ
moving_price keys places others = places + others + (transfer_price + 2) * keys

-- What each newcomer saves for the next time that the table grows. By then newcomers have come for
-- a quarter of the places, so for each place there are 31 steps: 1 to look at it, 4 at most for the
-- new ones, 25 for the keys, which stand in no more than half of the places, and 1 for the few
-- places after the last.
abbrev pub growing_share : ℕ
growing_share = 124

-- a value for a key whose place was looked up, in a table with so many keys
abbrev pub put_price : ℕ → ℕ
put_price keys = newcomer_price keys + growing_share

-- the look-up and the value
abbrev pub set_price : ℕ → ℕ
set_price keys = reach + put_price keys

-- what is saved by 2^bits places if so many newcomers more may come before they become more; if
-- they never do, there is no room and nothing is saved
abbrev pub saved_by : ℕ → ℕ → ℕ
saved_by bits room = if room == 0 then 0 else growing_share * (2 ^ bits / 4 - room)

-- so many newcomers may come at first to 2^bits places that grow up to 2^most: a quarter of them
abbrev pub first_room : ℕ → ℕ → ℕ
first_room bits most = if nat_lt bits most then 2 ^ bits / 4 else 0

-- the places of a new table, 2^6 and three after the last at most
abbrev pub new_price : ℕ
new_price = place_count 6
