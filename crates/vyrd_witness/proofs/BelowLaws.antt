-- What a function of the numbers below a number gives, one number further.
use Rattle.vyrd_witness.proofs.Prelude.{◌≡◌, ℕ, ◌+◌, List, ◌++◌, flat_map_more, numbers_below}
use Rattle.std.specs.List.{flat_map}
use Rattle.vyrd_base.proofs.PlaceLaws.{numbers_below-push}

-- after a list that what it gives has been put behind
pub below_next : {A : Type 0} (f : ℕ → List A) (n : ℕ) (first found more : List A)
    → found ≡ first ++ flat_map f (numbers_below n) → more ≡ found ++ f n
    → more ≡ first ++ flat_map f (numbers_below (n + 1))
below_next f n first found more so push =
    cc (flat_map_more f first (numbers_below n) n, numbers_below-push n)
