-- The names that the proofs of this crate share, passed on from one place. Declares nothing.
pub use Rattle.std.specs.Bool.{then_some}
pub use Rattle.std.specs.FinMap.Entries.{is_sorted, length-put, put}
pub use Rattle.std.specs.List.{AllByRecursion, list_all, list_any}
pub use Rattle.std.specs.Option.{option_or}
pub use Rattle.std.specs.Ordering.{nat_cmp}
pub use Rattle.std.specs.Prelude.{◌==◌, All, count_by, filter, find, flat_map, IfSome, is_some}
pub use Rattle.std.specs.Prelude.{nat_le, nat_lt, option_map, slice_index, T}
pub use Rattle.std.proofs.Common.{[], ℕ, ◌%◌, ◌&&◌, ◌*◌, ◌++◌, ◌+◌, ◌-◌, ◌/◌, ◌<◌, ◌^◌, ◌||◌, ◌∙◌}
pub use Rattle.std.proofs.Common.{◌∷◌, ◌≡◌, ◌≢◌, ◌≤◌, ap, arith, Bool, cond, false, get_or}
pub use Rattle.std.proofs.Common.{get_or-set_other, get_or-set_same, length, length-append}
pub use Rattle.std.proofs.Common.{length-set, List, map, min, None, not, Ok, Option, refl}
pub use Rattle.std.proofs.Common.{replicate, rules, set, Some, subst, suc, sym, true, zero}
pub use Rattle.std.proofs.Math.Nat.{div-le_self, mod-lt, one-le-pow, pow-le-pow_right}
pub use Rattle.std.proofs.lemmas.Cmp.{nat_cmp_total}
pub use Rattle.std.proofs.lemmas.List.{ext_get_or, get_or_past}
pub use Rattle.std.proofs.lemmas.List.Elements.{All-from_recursion}
pub use Rattle.std.proofs.lemmas.List.Sums.{count_by-le-length, length-filter}
pub use Rattle.std.proofs.lemmas.Nat.{mul-le}
pub use Rattle.std.proofs.lemmas.Option.{same_Some}
pub use Rattle.vyrd_base.specs.Added.{added}
pub use Rattle.vyrd_base.specs.Amounts.{amount_of, Amounts, collected, given, is_present, IsAmounts}
pub use Rattle.vyrd_base.specs.Amounts.{part_given, plus_amount, with_amount}
pub use Rattle.vyrd_base.specs.Buffers.{after_append, Buffer, buffer_at, buffer_parts, buffers}
pub use Rattle.vyrd_base.specs.Buffers.{cut_to, has_room, is_buffer, joined, powers_within}
unfoldable pub use Rattle.vyrd_base.specs.Buffers.{text_length}
pub use Rattle.vyrd_base.specs.Cache.{Chunk, chunk_at, chunk_parts, is_sound_chunk}
pub use Rattle.vyrd_base.specs.Layout.{lock_words, plain_words, plain_words_of}
pub use Rattle.vyrd_base.specs.Multiset.{is_sound_slot, multiset, slot_parts}
pub use Rattle.vyrd_base.specs.Own.OwnRules.{own_shown, own_start, own_view}
pub use Rattle.vyrd_base.specs.Own.Programs.{Written}
pub use Rattle.vyrd_base.specs.Own.Reader.{written_in}
pub use Rattle.vyrd_base.specs.Places.{numbers_below, numbers_from}
pub use Rattle.vyrd_base.specs.Represented.{is_sound, state_of_words}
pub use Rattle.vyrd_base.specs.Specification.{start}
pub use Rattle.vyrd_base.specs.States.{showing, State}
pub use Rattle.vyrd_base.specs.Subjects.{is_built_in}
pub use Rattle.vyrd_base.specs.Tree.{bound_of, chain_parts, chain_parts_from, count_of, damage}
pub use Rattle.vyrd_base.specs.Tree.{entries_of, entry_parts, has_sound_keys, is_child_entry}
pub use Rattle.vyrd_base.specs.Tree.{is_leaf_entry, is_linked, last_of, leads_to, left_of, level_of}
pub use Rattle.vyrd_base.specs.Tree.{low_of, node_parts, nodes, right_of, root_of, tree}
pub use Rattle.vyrd_base.specs.Views.{parts_of}
unfoldable pub use Rattle.vyrd_base.specs.Views.{view_of_words}
pub use Rattle.vyrd_base.specs.declared.buffers.BuffersMethod.{BuffersMethod}
pub use Rattle.vyrd_base.specs.declared.buffers.BuffersMethod.TheVariants.{Append, AppendFrom, Cut}
pub use Rattle.vyrd_base.specs.declared.buffers.BuffersMethod.TheVariants.{Length, Read}
pub use Rattle.vyrd_base.specs.declared.header.Header.{Header}
pub use Rattle.vyrd_base.specs.declared.multiset.MultisetMethod.{MultisetMethod}
pub use Rattle.vyrd_base.specs.declared.subject.Args.{Args}
pub use Rattle.vyrd_base.specs.declared.subject.Method.{Method}
pub use Rattle.vyrd_base.specs.declared.subject.Subject.{Subject}
pub use Rattle.vyrd_base.specs.declared.subject.Subject.TheVariants.{Buffers, Cache, Multiset, Own}
pub use Rattle.vyrd_base.specs.declared.subject.Subject.TheVariants.{Tree}
pub use Rattle.vyrd_base.specs.declared.tree.TreeMethod.{TreeMethod}
pub use Rattle.vyrd_base.proofs.AddedLaws.{added-append, added-collected, collected-push}
pub use Rattle.vyrd_base.proofs.AmountLaws.{amount_of-with_amount, IsAmounts-push}
pub use Rattle.vyrd_base.proofs.AmountLaws.{IsAmounts-with_amount, no_amounts, same_amounts}
pub use Rattle.vyrd_base.proofs.HeaderLaws.{low_size}
pub use Rattle.vyrd_base.proofs.PartLaws.{node_grows, parts_after, place_parts, slots_at_most}
pub use Rattle.vyrd_base.proofs.PlaceLaws.{element_below, length-mapped, length_below, map_alike}
pub use Rattle.vyrd_base.proofs.PlaceLaws.{numbers_below-push}
pub use Rattle.vyrd_base.proofs.SumLaws.{amount_of-collected, amount_of-plus, given-append}
pub use Rattle.vyrd_base.proofs.SumLaws.{given_amount, given_nothing, IsAmounts-collected}
pub use Rattle.vyrd_base.proofs.TestLaws.{apart_of, at_most_of, below_of, both_true, first_true}
pub use Rattle.vyrd_base.proofs.TestLaws.{flipped, is_at_most, is_below, is_same, isnt_at_most}
pub use Rattle.vyrd_base.proofs.TestLaws.{isnt_below, isnt_same, neither_true, not_below_of}
pub use Rattle.vyrd_base.proofs.TestLaws.{same_number, same_of, second_true, then_some_false}
pub use Rattle.vyrd_base.proofs.TestLaws.{then_some_true}
pub use Rattle.vyrd_base.proofs.TextLaws.{cut_below, joined_below, length_at_most}
pub use Rattle.vyrd_spec.specs.Bounds.{AllAmounts, AreTexts, most_after}
pub use Rattle.vyrd_spec.specs.Chunks.{shown_pair}
pub use Rattle.vyrd_spec.specs.Neighbours.{has_left, have_one_left, with_left}
pub use Rattle.vyrd_spec.specs.NodeKeys.{entry_at, is_first_of, is_sound_below, is_sound_key}
pub use Rattle.vyrd_spec.specs.Rows.{row_formed, sound_row}
unfoldable pub use Rattle.vyrd_spec.specs.Rows.{row_amounts}
pub use Rattle.vyrd_spec.specs.Shown.{most_shown}
pub use Rattle.vyrd_spec.specs.Touching.{CanChange, is_touched, with_touched}
pub use Rattle.vyrd_spec.specs.Touching.Buffers.{touches}
