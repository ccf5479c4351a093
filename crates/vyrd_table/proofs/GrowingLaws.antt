-- What growing costs, and what a table has saved by then.
use Rattle.vyrd_table.proofs.Prelude.{◌≡◌, ℕ, zero, suc, Bool, ◌+◌, ◌*◌, ◌/◌, ◌^◌, ◌<◌, ◌≤◌, min}
use Rattle.vyrd_table.proofs.Prelude.{ap, ◌∙◌, arith, pow_mono, below_of, moving_price}
use Rattle.vyrd_table.proofs.Prelude.{growing_share, first_room, HasRoom, IsTable, ArePlaced}
use Rattle.vyrd_table.proofs.Prelude.{names_of, Places}
use Rattle.vyrd_table.proofs.PriceLaws.{doubled}

-- powers of two from 2^2 on are divided by 4
pub quarter_is : (b : ℕ) → 2 ≤ b → 4 * (2 ^ b / 4) ≡ 2 ^ b
quarter_is zero low = absurd (omega (arith, low))
quarter_is (suc zero) low = absurd (omega (arith, low))
quarter_is (suc (suc n)) low = omega (arith, doubled (suc n), doubled n)

pub next_power : (b : ℕ) → 2 ^ (b + 1) ≡ 2 * 2 ^ b
next_power b = ap (λ n. 2 ^ n) (let e : b + 1 ≡ suc b = omega arith in e) ∙ doubled b

pub power_after : (b : ℕ) → 2 ^ (b + 2) ≡ 4 * 2 ^ b
power_after b = grind (arith, doubled (b + 1), next_power b)

-- no key, or few, in places that have room for a quarter
pub first_has_room : (bits most keys : ℕ) → 3 ≤ bits → most ≤ 20 → keys ≤ 2 ^ bits / 4
    → HasRoom bits keys most (first_room bits most)
first_has_room bits most keys least limit few = grind (arith, least, few, quarter_is, below_of)

module _ (b most keys : ℕ) (half : keys ≤ 2 ^ b / 2) (least : 3 ≤ b) (larger : b < most)
    (limit : most ≤ 20) where
  -- 2^b places become at least twice as many, and four times as many at most
  twice : 2 * 2 ^ b ≤ 2 ^ min (b + 2) most
  twice = omega
      (arith, next_power b, pow_mono {i = b + 1} {j = min (b + 2) most} (omega (arith, larger)))

  four_times : 2 ^ min (b + 2) most ≤ 4 * 2 ^ b
  four_times =
      omega (arith, power_after b, pow_mono {i = min (b + 2) most} {j = b + 2} (omega arith))

  pub few_keys : keys < 2 ^ 19
  few_keys = omega (arith, half, pow_mono {i = b} {j = 19} (omega (arith, larger, limit)))

  pub grown_room : HasRoom (min (b + 2) most) keys most (first_room (min (b + 2) most) most)
  grown_room = search (first_has_room, twice, arith)

  pub grown_cost : moving_price keys (2 ^ b + 3) (2 ^ min (b + 2) most + 3)
      ≤ growing_share * (2 ^ b / 4)
  grown_cost =
      omega (
        arith,
        half,
        four_times,
        quarter_is b (omega (arith, least)),
        pow_mono {i = 3} {j = b}
            least,
      )

-- with fewer names there is as much room
pub fewer_names : (bits names fewer most room : ℕ) → fewer ≤ names → HasRoom bits names most room
    → HasRoom bits fewer most room
fewer_names bits names fewer most room less has = search arith

-- places that keep their number and have no more names make a table again
pub table_kept : {V : Type 0} (nothing : V) (is_nothing : V → Bool) (old new : Places V)
    (room most : ℕ)
    → IsTable nothing is_nothing old room most → ArePlaced nothing is_nothing new → new.shift
    ≡ old.shift → names_of new ≤ names_of old
    → IsTable nothing is_nothing new room most
table_kept nothing is_nothing old new room most table placed same less = grind (arith, fewer_names)
