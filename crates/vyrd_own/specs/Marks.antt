-- Which keys have an amount, whatever it is.
use Rattle.std.specs.Prelude.{min, map}
use Rattle.vyrd_base.specs.Amounts.{Amounts}

-- the same keys, each with the amount 1
abbrev pub marked : Amounts → Amounts
marked amounts = map (λ entry. (entry.0, min entry.1 1)) amounts
