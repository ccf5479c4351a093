-- There is one proof at most that amounts are formed, so a struct may keep it.
use Rattle.std.specs.Prelude.{◌≢◌}
use Rattle.std.specs.Ordering.{nat_cmp}
use Rattle.std.specs.FinMap.{is_sorted}
use Rattle.std.specs.List.{AllByRecursion}
use Rattle.std.proofs.Props.{props}
use Rattle.vyrd_base.specs.Amounts.{Amounts, IsAmounts}
use lib.Dec.{T_prop}

pub IsAmounts-prop : (amounts : Amounts) → IsProp (IsAmounts amounts)
IsAmounts-prop amounts x y =
    let some_prop : IsProp (AllByRecursion (λ entry. entry.1 ≢ 0) amounts) = hlevel props in
    λ i. record {
      rising = T_prop (is_sorted nat_cmp amounts) x.rising y.rising i;
      some = some_prop x.some y.some i;
    }
