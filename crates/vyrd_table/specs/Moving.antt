-- What a table has while keys come to it, one by one.
use Rattle.std.specs.Prelude.{◌≡◌, ℕ, Bool, ◌+◌, ◌*◌, ◌≤◌, List, take, count_by}
use Rattle.vyrd_table.specs.Places.{is_taken, is_named, entries_in}
use Rattle.vyrd_table.specs.Placed.{ArePlaced, entries_of, names_of}
use Rattle.vyrd_table.specs.Prices.{transfer_price}
use Rattle.vyrd_table.specs.declared.places.Places.{Places}

-- the keys of the first n pairs have come to what was there
pub record HaveCome {V : Type 0} (nothing : V) (is_nothing : V → Bool) (old : Places V)
    (pairs : List (ℕ × V)) (n : ℕ) (new : Places V) (before after : ℕ) : Type 0 where
  pub placed : ArePlaced nothing is_nothing new
  pub entries : entries_of is_nothing new
      ≡ entries_in is_nothing (take n pairs) (entries_of is_nothing old)
  pub names : names_of new ≤ names_of old + count_by is_named (take n pairs)
  pub shift : new.shift ≡ old.shift
  pub steps : after
      ≤ before + (n + transfer_price * count_by (is_taken is_nothing) (take n pairs))
