-- Which two amounts are none.
use Rattle.std.specs.Prelude.{◌≡◌, ◌==◌, true}
use Rattle.vyrd_base.proofs.TestLaws.{same_of, both_of}
use Rattle.vyrd_view.specs.declared.both.Both.{Both}
use Rattle.vyrd_view.specs.TwoAmounts.{neither, is_neither}

-- amounts that pass the test are 0 both
pub only_neither : (both : Both) → is_neither both ≡ true → both ≡ neither
only_neither both is =
    let zero = both_of (both.shown == 0) (both.specified == 0) is in
    λ i. record {
      shown = same_of both.shown 0 zero.0 i;
      specified = same_of both.specified 0 zero.1 i;
    }
