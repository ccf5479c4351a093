-- The names that the proofs of this crate share, passed on from one place. Declares nothing.
pub use Rattle.std.specs.FinMap.Entries.{below_all}
pub use Rattle.std.specs.List.{list_any}
pub use Rattle.std.specs.Option.{option_or}
pub use Rattle.std.specs.Ordering.{is_lt, nat_cmp}
pub use Rattle.std.specs.Prelude.{flat_map, nat_le, nat_lt, option_map, slice_get, slice_index}
pub use Rattle.std.proofs.Common.{[], ℕ, ◌%◌, ◌&&◌, ◌*◌, ◌++◌, ◌+◌, ◌-◌, ◌/◌, ◌<◌, ◌==◌, ◌^◌, ◌||◌}
pub use Rattle.std.proofs.Common.{◌∙◌, ◌∷◌, ◌≡◌, ◌≢◌, ◌≤◌, ap, arith, Bool, cond, drop, drop-cons}
pub use Rattle.std.proofs.Common.{false, get_or, get_or-set_other, get_or-set_same, if◌then◌else◌}
pub use Rattle.std.proofs.Common.{length, length-set, List, map, min, None, not, Option, refl}
pub use Rattle.std.proofs.Common.{replicate, rules, set, Some, subst, suc, sym, T, take, true, zero}
pub use Rattle.std.proofs.Math.Bool.{and-false, or-false}
pub use Rattle.std.proofs.Math.Nat.{mul-le-mul_left, mul-le-mul_right}
pub use Rattle.std.proofs.lemmas.Bool.Decides.{nat_tests}
pub use Rattle.std.proofs.lemmas.List.{drop_all, drop_more, ext_get_or, get_or-replicate}
pub use Rattle.std.proofs.lemmas.List.{get_or_default, get_or_past, length-replicate, length-take}
pub use Rattle.std.proofs.lemmas.List.Sums.{sum_by-cons}
pub use Rattle.std.proofs.lemmas.Nat.{div-mul-add}
pub use Rattle.std.proofs.lemmas.Result.{on_ok_weaker}
pub use Rattle.vyrd_base.specs.Added.{added}
pub use Rattle.vyrd_base.specs.Amounts.{amount_of, Amounts, collected, first_difference, given}
pub use Rattle.vyrd_base.specs.Amounts.{IsAmounts, part_given, with_amount}
pub use Rattle.vyrd_base.specs.Places.{numbers_below}
pub use Rattle.vyrd_base.specs.Tree.{chain_parts, chain_parts_from, count_of, damage, node_parts}
pub use Rattle.vyrd_base.specs.Tree.{node_word, right_of}
pub use Rattle.vyrd_base.specs.declared.subject.Subject.TheVariants.{Tree}
pub use Rattle.vyrd_base.proofs.AmountLaws.{apart_from, first_of_and, same_amounts, second_of_and}
pub use Rattle.vyrd_base.proofs.ListLaws.{zeros}
pub use Rattle.vyrd_base.proofs.PartLaws.{node_grows, node_parts-places, parts_after, place_parts}
pub use Rattle.vyrd_base.proofs.PlaceLaws.{element_below, length_below}
pub use Rattle.vyrd_base.proofs.SumLaws.{amount_of-collected, given-append, IsAmounts-collected}
pub use Rattle.vyrd_base.proofs.SumLaws.{nothing_given, own_part, part_at_most}
pub use Rattle.vyrd_base.proofs.TestLaws.{above_of, apart_of, at_most_of, below_of, both_of}
pub use Rattle.vyrd_base.proofs.TestLaws.{is_same, isnt_at_most, isnt_below, isnt_same, lower_isnt}
pub use Rattle.vyrd_base.proofs.TestLaws.{neither_true, not_below_of, same_number, same_of}
pub use Rattle.vyrd_view.specs.Apart.{IsLeastApart}
pub use Rattle.vyrd_view.specs.Chained.{IsWalked}
pub use Rattle.vyrd_view.specs.Chains.{chain_breaks_from, chain_nodes_from, end_pair, entry_pair}
pub use Rattle.vyrd_view.specs.Chains.{has_link, is_stale, node_pair, tree_pair}
unfoldable pub use Rattle.vyrd_view.specs.Chains.{is_broken, is_on_chain}
pub use Rattle.vyrd_view.specs.Comparing.{AgreeElsewhere, differing}
pub use Rattle.vyrd_view.specs.Decoded.{Gives, HaveRoom, padded, pair_at, pairs_by, words_of}
pub use Rattle.vyrd_view.specs.Kept.{ComparedKept}
pub use Rattle.vyrd_view.specs.Known.{of_subject, view_by}
pub use Rattle.vyrd_view.specs.Laws.Sums.{given_flat_push, given_map_push, mapped-push, own_word}
pub use Rattle.vyrd_view.specs.Pairs.{EachAtMost, is_touched}
unfoldable pub use Rattle.vyrd_view.specs.Sided.{shown_at, specified_of}
unfoldable pub use Rattle.vyrd_view.specs.Summed.{IsSettled, sum_at}
pub use Rattle.vyrd_view.specs.declared.both.Both.{Both}
pub use Rattle.vyrd_view.specs.declared.sides.Sides.{Sides}
pub use Rattle.vyrd_view.specs.declared.sums.Sums.{Sums}
