-- The names that the proofs of this crate share, passed on from one place. Declares nothing.
pub use Rattle.std.specs.Arc.{arc_value}
pub use Rattle.std.specs.FinMap.Entries.{below_all, is_sorted}
pub use Rattle.std.specs.List.{AllByRecursion, cons_option}
pub use Rattle.std.specs.Option.{option_map, option_map_or}
pub use Rattle.std.specs.Ordering.{is_lt, nat_cmp}
pub use Rattle.std.specs.Prelude.{◌==◌, filter, flat_map, IfSome, nat_lt, slice_index, unwrap_or}
pub use Rattle.std.specs.declared.cmp.Ordering.TheVariants.{Equal, Greater, Less}
pub use Rattle.std.proofs.Common.{[], ℕ, ◌%◌, ◌&&◌, ◌*◌, ◌++◌, ◌+◌, ◌-◌, ◌/◌, ◌<◌, ◌^◌, ◌||◌, ◌∙◌}
pub use Rattle.std.proofs.Common.{◌∷◌, ◌≡◌, ◌≢◌, ◌≤◌, ap, append-nil, append_assoc, arith, Bool}
pub use Rattle.std.proofs.Common.{cond, drop, false, filter_map, get_or, get_or-set_other}
pub use Rattle.std.proofs.Common.{get_or-set_same, length, length-set, List, map, None, not, Option}
pub use Rattle.std.proofs.Common.{refl, replicate, rules, set, set-set, slice_get, Some, subst, suc}
pub use Rattle.std.proofs.Common.{sym, T, take, true, vec_len, zero}
pub use Rattle.std.proofs.Math.Nat.{div-add-mod}
pub use Rattle.std.proofs.lemmas.Bool.{or_left, or_right}
pub use Rattle.std.proofs.lemmas.Bool.Decides.{nat_tests}
pub use Rattle.std.proofs.lemmas.List.{flat_map_more, get_or_default, length-append, length-take}
pub use Rattle.std.proofs.lemmas.List.{map-append, set-get_or, take-set-le, take_all, take_more}
pub use Rattle.std.proofs.lemmas.List.Elements.{filter-append}
pub use Rattle.std.proofs.lemmas.Option.{same_Some, slice_get-get_or, slice_get_past}
pub use Rattle.std.proofs.lemmas.Option.{slice_get_read}
pub use Rattle.std.proofs.lemmas.Result.{IfOk-weaker}
pub use Rattle.vyrd_base.specs.Amounts.{amount_of, Amounts, collected, given, IsAmounts, keys_of}
pub use Rattle.vyrd_base.specs.Amounts.{part_given, with_amount}
pub use Rattle.vyrd_base.specs.Layout.{plain_words, plain_words_of}
pub use Rattle.vyrd_base.specs.Own.Methods.{last_in}
pub use Rattle.vyrd_base.specs.Own.OwnRules.{own_view}
pub use Rattle.vyrd_base.specs.Own.Reader.{written_in}
pub use Rattle.vyrd_base.specs.Places.{numbers_below}
pub use Rattle.vyrd_base.specs.Rules.{Charter, own, Rules, rules_by, rules_of}
pub use Rattle.vyrd_base.specs.Starts.{words_at_start}
pub use Rattle.vyrd_base.specs.States.{State}
pub use Rattle.vyrd_base.specs.Subjects.{is_built_in}
pub use Rattle.vyrd_base.specs.Tree.{chain_parts, node_word}
pub use Rattle.vyrd_base.specs.Views.{parts_of}
unfoldable pub use Rattle.vyrd_base.specs.Views.{view_of_words}
pub use Rattle.vyrd_base.specs.declared.header.Header.{Header}
pub use Rattle.vyrd_base.specs.declared.log.Entry.{Entry}
pub use Rattle.vyrd_base.specs.declared.log.StartWord.{StartWord}
pub use Rattle.vyrd_base.specs.declared.own.effect.Effect.{Effect}
pub use Rattle.vyrd_base.specs.declared.subject.Subject.TheVariants.{Own, Tree}
pub use Rattle.vyrd_base.proofs.AmountLaws.{amount_of-with_amount, first_of_and}
pub use Rattle.vyrd_base.proofs.AmountLaws.{IsAmounts-with_amount, same_amounts, second_of_and}
pub use Rattle.vyrd_base.proofs.AmountMaps.{lookup-find}
pub use Rattle.vyrd_base.proofs.DifferenceLaws.{is_in}
pub use Rattle.vyrd_base.proofs.HeaderLaws.{low_size}
pub use Rattle.vyrd_base.proofs.ListLaws.{filter_map_more, slice_get-last}
pub use Rattle.vyrd_base.proofs.PlaceLaws.{element_below, length_below, map_alike}
pub use Rattle.vyrd_base.proofs.PlaceLaws.{numbers_below-push}
pub use Rattle.vyrd_base.proofs.SumLaws.{amount_of-collected, given-append, IsAmounts-collected}
pub use Rattle.vyrd_base.proofs.SumLaws.{nothing_given, other_part}
pub use Rattle.vyrd_base.proofs.TestLaws.{apart_of, below_of, flipped, is_same, isnt_same}
pub use Rattle.vyrd_base.proofs.TestLaws.{neither_true, not_below_of, same_number, same_of}
pub use Rattle.vyrd_view.specs.Chains.{end_pair, entry_pair, is_on_chain, tree_pair}
pub use Rattle.vyrd_view.specs.Comparing.{AgreeElsewhere}
pub use Rattle.vyrd_view.specs.Decoded.{Gives, pairs_by}
pub use Rattle.vyrd_view.specs.Known.{view_by}
pub use Rattle.vyrd_view.specs.Laws.Sums.{each_bounds, given_map_push}
pub use Rattle.vyrd_view.proofs.CurrentLaws.{chain_untouched, end_untouched, node_untouched}
pub use Rattle.vyrd_view.proofs.ShowingTree.{places_give}
pub use Rattle.vyrd_view.proofs.TreePairLaws.{tree_pair_end}
pub use Rattle.vyrd_view.proofs.WalkLaws.{Walks}
pub use Rattle.vyrd_own_spec.specs.Parts.{width_of}
pub use Rattle.vyrd_witness.specs.Changes.{words_through}
pub use Rattle.vyrd_witness.specs.Effects.{effects_there}
pub use Rattle.vyrd_witness.specs.ViewWitnesses.{words_then}
pub use Rattle.vyrd_witness.specs.declared.item.Item.{Item}
pub use Rattle.vyrd_witness.specs.declared.item.Item.TheVariants.{Called, Changed, LastStepped}
pub use Rattle.vyrd_witness.specs.declared.item.Item.TheVariants.{Stepped, Wrote}
pub use Rattle.vyrd_item_text.specs.ItemText.{items_text}
pub use Rattle.vyrd_states.specs.Running.{IsKnown, LeadsTo, run_by}
pub use Rattle.vyrd_own_states.specs.PartPairs.{pairs_in, part_pairs}
pub use Rattle.vyrd_own_states.proofs.OwnShownLaws.{are_whole, whole_seen}
pub use Rattle.vyrd_follow.specs.Doings.{amounts_set, differ_at, done_at}
pub use Rattle.vyrd_follow.specs.Following.{agreed_items, differences, entry_items, keys_of_both}
pub use Rattle.vyrd_follow.specs.Following.{or_item, start_items, write_items, writes_items}
pub use Rattle.vyrd_follow.specs.LastSteps.{does_set, done_before, last_item, last_of, last_setting}
pub use Rattle.vyrd_follow.specs.LastSteps.{placed_at}
pub use Rattle.vyrd_follow.specs.NextKeys.{changed_item, comes_before}
pub use Rattle.vyrd_follow.specs.Nodes.{node_given}
pub use Rattle.vyrd_follow.specs.Turns.{turn_item, turn_items, turned_to, turns}
pub use Rattle.vyrd_follow.specs.declared.thing.Thing.{Thing}
