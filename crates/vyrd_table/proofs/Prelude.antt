-- The names that the proofs of this crate share, passed on from one place. Declares nothing.
pub use Rattle.std.specs.Cmp.{unsigned_tied}
pub use Rattle.std.specs.FinMap.Entries.{below_all, by_order, find, find-put, is_sorted, put}
pub use Rattle.std.specs.Option.{option_or}
pub use Rattle.std.specs.Ordering.{is_lt, nat_cmp}
pub use Rattle.std.specs.Prelude.{◌==◌, count_by, filter, nat_le, nat_lt, unwrap_or}
pub use Rattle.std.specs.declared.cmp.Ordering.{Ordering}
pub use Rattle.std.specs.declared.cmp.Ordering.TheVariants.{Equal, Greater, Less}
pub use Rattle.std.proofs.Common.{[], ℕ, ◌*◌, ◌+◌, ◌-◌, ◌/◌, ◌<◌, ◌^◌, ◌∙◌, ◌∷◌, ◌≡◌, ◌≢◌, ◌≤◌, ap}
pub use Rattle.std.proofs.Common.{arith, Bool, cond, false, length, List, min, None, not, Option}
pub use Rattle.std.proofs.Common.{refl, replicate, set, Some, subst, suc, sym, T, take, true, zero}
pub use Rattle.std.proofs.Math.Pow.{pow_mono}
pub use Rattle.std.proofs.lemmas.Bool.Decides.{nat_tests}
pub use Rattle.std.proofs.lemmas.Cmp.{nat_cmp_total}
pub use Rattle.std.proofs.lemmas.List.{get_or_default}
pub use Rattle.std.proofs.lemmas.List.Sums.{sum_by-cons}
pub use Rattle.std.proofs.lemmas.Result.{err_from_is_err_and, IfOk-weaker}
pub use Rattle.vyrd_base.proofs.AmountLaws.{first_of_and, second_of_and}
pub use Rattle.vyrd_base.proofs.TestLaws.{below_of, is_same, isnt_same, same_of}
pub use Rattle.vyrd_table.specs.Contents.{Contents}
unfoldable pub use Rattle.vyrd_table.specs.Contents.{IsSlotOf}
pub use Rattle.vyrd_table.specs.Entries.{IsEntries, value_of, with_value}
pub use Rattle.vyrd_table.specs.First.{IsFirst, IsFirstOf, lesser}
pub use Rattle.vyrd_table.specs.Growing.{HasRoom, IsTable}
pub use Rattle.vyrd_table.specs.Placed.{ArePlaced, entries_of, names_of}
pub use Rattle.vyrd_table.specs.Places.{AreNew, ArePlaces, is_named, is_taken, IsFoundAt, names_in}
pub use Rattle.vyrd_table.specs.Places.{one_name, place_at}
unfoldable pub use Rattle.vyrd_table.specs.Places.{entries_in, first_place}
pub use Rattle.vyrd_table.specs.Prices.{first_room, growing_share, moving_price}
pub use Rattle.vyrd_table.specs.declared.places.Places.{Places}
